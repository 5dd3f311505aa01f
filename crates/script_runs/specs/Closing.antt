-- How regions are left when a run ends, whatever ends it: open changes are finished, stints detached and readings ended.
use Rattle.std.specs.Prelude.{ℕ, zero, suc, ◌+◌, List, length, map}
use Rattle.script_runs.specs.Regions.{Doing, ScriptRegion, doing_of}
use Rattle.script_runs.specs.PassSteps.{detach, finish, end_reading}

abbrev pub change_ended : ScriptRegion → ℕ → Doing → ScriptRegion
change_ended r k (Doing.changing image n next) = finish r k image n next
change_ended r k _ = r

abbrev pub stint_ended : ScriptRegion → ℕ → Doing → ScriptRegion
stint_ended r k Doing.attached = detach r k
stint_ended r k _ = r

abbrev pub reading_ended : ScriptRegion → ℕ → Doing → ScriptRegion
reading_ended r k (Doing.reading first) = end_reading r k
reading_ended r k _ = r

-- one pass after another, from pass k on, count of them
abbrev pub each_pass : (ScriptRegion → ℕ → Doing → ScriptRegion) → ℕ → ℕ → ScriptRegion → ScriptRegion
each_pass end k zero r = r
each_pass end k (suc count) r = each_pass end (k + 1) count (end r k (doing_of r k))

abbrev pub by_all : (ScriptRegion → ℕ → Doing → ScriptRegion) → ScriptRegion → ScriptRegion
by_all end r = each_pass end 0 (length r.doing) r

-- the change first, then the stints, then the readings, each by rising pass
abbrev pub closed_region : ScriptRegion → ScriptRegion
closed_region r = by_all reading_ended (by_all stint_ended (by_all change_ended r))

abbrev pub closed_regions : List ScriptRegion → List ScriptRegion
closed_regions regions = map closed_region regions
