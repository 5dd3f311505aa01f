-- A crew that ends what its passes do, against the end of a run as a fold.
use Rattle.std.specs.Prelude.{◌≡◌, ℕ, ◌<◌, ◌≤◌, ◌==◌, nat_lt, if◌then◌else◌, List, length, slice_get, slice_set, Option, Some, None}
use Rattle.region_core.specs.declared.mode.Mode.TheVariants.{Idle}
use Rattle.region_core.specs.State.{opening}
use Rattle.region_core.specs.Journal.{own, IsJournal}
use Rattle.region_rule.specs.Seats.{MadeRegion, Token}
use Rattle.region_rule.specs.Tokens.{Knows}
use Rattle.region_rule.specs.Views.{count}
use Rattle.fetch_engine.specs.Servers.{IsRegionAt}
use Rattle.fetch_engine.specs.declared.server.Mounted.{Mounted}
use Rattle.region_words.specs.Images.{mmv}
use Rattle.script_runs.specs.Closing.{closed_region}
use Rattle.script_runs.specs.Journals.{without_looks}
use Rattle.script_runs.specs.PassSteps.{Outcome}
use Rattle.script_runs.specs.Regions.{Doing, ScriptRegion}
use Rattle.run_passes.specs.declared.deed.Deed.{Deed}
use Rattle.run_passes.specs.declared.worker.Worker.{Worker}
use Rattle.run_passes.specs.Workers.{IsPassOf, view_of, doing_of}
use Rattle.run_passes.specs.Works.{Step, ended_doing}
use Rattle.run_passes.specs.Crews.{IsCrew, IsAlone, Stands}
use Rattle.run_passes.specs.Lasts.{IsLastPass}

-- a step that a pass takes only where it can
abbrev pub outcome_or : ScriptRegion → Option Outcome → ScriptRegion
outcome_or r None = r
outcome_or r (Some outcome) = outcome.0

abbrev pub region_after_step : Step → ScriptRegion → ℕ → Doing → ScriptRegion
region_after_step step r k doing = outcome_or r (step r k doing)

-- The crew did what makes this of the fold's region
pub record Goes (region : MadeRegion) (f : ScriptRegion → ScriptRegion) (old new : List Worker) (before after : Token) : Type 0 where
  pub crew : IsCrew region new after
  pub as_many : length new ≡ length old
  pub alone : IsAlone new after → IsAlone old before
  pub goes : IsAlone new after → (r : ScriptRegion) → Stands r old before → Stands (f r) new after

-- the same at a position of a server
pub record GoesAt (server : List Mounted) (at : ℕ) (f : ScriptRegion → ScriptRegion) (old new : List Worker) (seat later : List Token) : Type 0 where
  pub region : MadeRegion
  pub placed : IsRegionAt server at region
  pub before : Token
  pub was : slice_get seat at ≡ Some before
  pub after : Token
  pub is : later ≡ slice_set seat at after
  pub goes : Goes region f old new before after

-- the first passes, so many, have ended what a deed ends, and the others do what they did
abbrev pub EndedBelow : Deed → ℕ → List Worker → List Worker → Type 0
EndedBelow deed n old new = (j : ℕ) (was done : Worker) → slice_get old j ≡ Some was → slice_get new j ≡ Some done
    → doing_of done ≡ (if nat_lt j n then ended_doing deed (doing_of was) else doing_of was)

-- one pass has ended it
abbrev pub EndedAt : Deed → ℕ → List Worker → List Worker → Type 0
EndedAt deed k old new = (j : ℕ) (was done : Worker) → slice_get old j ≡ Some was → slice_get new j ≡ Some done
    → doing_of done ≡ (if j == k then ended_doing deed (doing_of was) else doing_of was)

-- no pass does anything
abbrev pub AreIdle : List Worker → Type 0
AreIdle crew = (j : ℕ) (worker : Worker) → slice_get crew j ≡ Some worker → doing_of worker ≡ Doing.idle

-- Gathering

-- the logger's pass has gathered all passes but the first so many: it has seen all that the others made, and nothing new
pub record GathersAllBut (region : MadeRegion) (crew : List Worker) (left : ℕ) (before now : Token) : Type 0 where
  pub last : IsPassOf region (length crew) Idle now
  pub seen : now.view.seen ≡ before.view.seen
  pub own_is : now.view.own ≡ before.view.own
  pub theirs : (k : ℕ) (worker : Worker) → left ≤ k → slice_get crew k ≡ Some worker → own k now.view.seen ≡ (view_of worker).own
  pub kept : (k : ℕ) (worker : Worker) → left ≤ k → slice_get crew k ≡ Some worker → 0 < count k now.view.kept
  pub knows : left < length crew → Knows mmv now.view
  pub journal : left < length crew → IsJournal mmv region.words region.passes now.view.seen
  pub mine : left < length crew → own (length crew) now.view.seen ≡ now.view.own

-- at the position of a server, once all have been gathered
pub record GatheredAt (server : List Mounted) (at left : ℕ) (crew : List Worker) (seat later : List Token) : Type 0 where
  pub region : MadeRegion
  pub placed : IsRegionAt server at region
  pub before : Token
  pub was : slice_get seat at ≡ Some before
  pub after : Token
  pub is : later ≡ slice_set seat at after
  pub is_crew : IsCrew region crew before
  pub gathered : GathersAllBut region crew left before after

-- a crew was closed and gathered: nobody else acted, and the seat's pass has seen the fold's journal, which is whole
pub record ClosedAt (server : List Mounted) (at : ℕ) (crew : List Worker) (seat later : List Token) : Type 0 where
  pub region : MadeRegion
  pub placed : IsRegionAt server at region
  pub before : Token
  pub was : slice_get seat at ≡ Some before
  pub after : Token
  pub is : later ≡ slice_set seat at after
  pub of_region : after.region ≡ region
  pub last : IsLastPass after
  pub alone : IsAlone crew before
  pub seen : (r : ScriptRegion) → Stands r crew before → without_looks (opening region.words region.passes) (length crew) after.view.seen ≡ (closed_region r).log
