-- What the seen lists of a seat say at the end of a run, once it has gathered all passes.
use Rattle.std.specs.Prelude.{◌≡◌, ℕ, ◌≤◌, List, [], length, take, slice_get, Some}
use Rattle.region_core.specs.State.{opening}
use Rattle.region_rule.specs.Seats.{Token}
use Rattle.fetch_engine.specs.declared.server.Mounted.{Mounted}
use Rattle.run_script.specs.declared.script.RegionRow.{RegionRow}
use Rattle.run_script.specs.declared.script.Script.{Script}
use Rattle.script_runs.specs.Closing.{closed_regions}
use Rattle.script_runs.specs.Journals.{without_looks}
use Rattle.script_runs.specs.Regions.{ScriptRegion, made_regions}
use Rattle.script_runs.specs.Steps.{steps_behind, Regions}
use Rattle.run_passes.specs.Crews.{Serves}
use Rattle.run_passes.specs.Lasts.{AreLast}

-- What a region's journal says of the passes of its script: entry by entry what the steps and the end of the run make.
abbrev pub HasSeen : RegionRow → ScriptRegion → Token → Type 0
HasSeen row r token = without_looks (opening token.region.words token.region.passes) row.passes token.view.seen ≡ r.log

-- the region is served at some position, and the seat's pass there has seen its journal
pub record IsSeenAt (script : Script) (row : RegionRow) (r : ScriptRegion) (server : List Mounted) (seat : List Token) : Type 0 where
  pub at : ℕ
  pub mounted : Mounted
  pub there : slice_get server at ≡ Some mounted
  pub serves : Serves script 1 row mounted
  pub token : Token
  pub seated : slice_get seat at ≡ Some token
  pub region_is : token.region ≡ mounted.region
  pub seen : HasSeen row r token

-- so it is of all regions, and these journals are whole: the seat has gathered every pass
pub record HaveSeen (script : Script) (regions : List ScriptRegion) (server : List Mounted) (seat : List Token) : Type 0 where
  pub as_many : length regions ≡ length script.regions
  pub last : AreLast seat
  pub each : (i : ℕ) (row : RegionRow) (r : ScriptRegion) → slice_get script.regions i ≡ Some row → slice_get regions i ≡ Some r → IsSeenAt script row r server seat

-- some first lines were run, and then all was closed
pub record RanLines (script : Script) (regions : List ScriptRegion) : Type 0 where
  pub count : ℕ
  pub within : count ≤ length script.steps
  pub behind : Regions
  pub are : steps_behind script (take count script.steps) (made_regions script, []) ≡ Some behind
  pub closed : regions ≡ closed_regions behind.0
