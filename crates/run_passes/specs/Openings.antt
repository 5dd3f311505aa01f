-- What opening a script's regions makes: each on its image, with fresh passes.
use Rattle.std.specs.Prelude.{◌≡◌, ℕ, ◌+◌, ◌<◌, ◌≤◌, List, [], ◌++◌, length, map, slice_get, Option, Some, vec_capacity}
use Rattle.std.specs.Global.{Vec}
use Rattle.region_rule.specs.Calls.{fresh_from}
use Rattle.region_rule.specs.Seats.{Token}
use Rattle.fetch_engine.specs.Servers.{Seated, IsSeated}
use Rattle.fetch_engine.specs.declared.server.Mounted.{Mounted}
use Rattle.run_script.specs.declared.script.RegionRow.{RegionRow}
use Rattle.run_script.specs.declared.script.Script.{Script}
use Rattle.run_passes.specs.declared.worker.Worker.{Worker}
use Rattle.run_passes.specs.declared.worker.Worker.TheVariants as workers
use Rattle.run_passes.specs.declared.opening.Opened.{Opened}
use Rattle.run_passes.specs.Crews.{ServesScript}
use Rattle.run_passes.specs.Turns.{IsCrewAt}

-- each region has room for its own passes and a pass of each seat
abbrev pub HaveRoom : List RegionRow → ℕ → Type 0
HaveRoom rows seats = (i : ℕ) (row : RegionRow) → slice_get rows i ≡ Some row → row.passes + seats ≤ 256

-- the pass of each seat in the region at a position
abbrev pub passes_at : ℕ → List Seated → List (Option Token)
passes_at j seats = map (λ seat. slice_get seat.tokens j) seats

-- a region with its passes: those of the script have the first numbers, and those of the seats the last, by seat
pub record IsMadeAt (seats : List Seated) (at : ℕ) (mounted : Mounted) (own : List Token) : Type 0 where
  pub some : 0 < length own
  pub passes : mounted.region.passes ≡ length own + length seats
  pub seated : List Token
  pub seats_are : map Some seated ≡ passes_at at seats
  pub fresh : own ++ seated ≡ fresh_from mounted.region 0 (length own + length seats)

-- the regions of a script with their passes and seats, in ascending cluster
pub record AreMade (script : Script) (server : List Mounted) (passes : List (Vec Token)) (seats : List Seated) : Type 0 where
  pub serves : ServesScript script (length seats) server
  pub lists : length passes ≡ length server
  pub seated : (s : ℕ) (seat : Seated) → slice_get seats s ≡ Some seat → IsSeated server seat.tokens
  pub each : (j : ℕ) (mounted : Mounted) (own : Vec Token) → slice_get server j ≡ Some mounted → slice_get passes j ≡ Some own → IsMadeAt seats j mounted own.items

pub record IsOpened (script : Script) (seats : ℕ) (opened : Opened) : Type 0 where
  pub seats_are : length opened.seats.items ≡ seats
  pub made : AreMade script opened.server opened.passes.items opened.seats.items

-- Beginning a run with what was opened

-- passes none of which does anything
abbrev pub idle_crew : List Token → List Worker
idle_crew passes = map (λ pass. workers.Idle pass) passes

-- each list of passes as a crew
pub record AreCrews (passes : List (Vec Token)) (crews : List (Vec Worker)) : Type 0 where
  pub as_many : length crews ≡ length passes
  pub each : (j : ℕ) (own : Vec Token) (crew : Vec Worker) → slice_get passes j ≡ Some own → slice_get crews j ≡ Some crew → crew.items ≡ idle_crew own.items

-- crews without a pass, each with room for the passes of its list
pub record HaveRoomsFor (passes : List (Vec Token)) (rooms : List (Vec Worker)) : Type 0 where
  pub as_many : length rooms ≡ length passes
  pub each : (j : ℕ) (own : Vec Token) (room : Vec Worker) → slice_get passes j ≡ Some own → slice_get rooms j ≡ Some room → (room.items ≡ []) × (length own.items ≤ vec_capacity room)

abbrev pub AreBare : List (Vec Worker) → Type 0
AreBare rooms = (j : ℕ) (room : Vec Worker) → slice_get rooms j ≡ Some room → room.items ≡ []

-- the passes of the first regions of a server, none of which does anything
abbrev pub AreWaiting : List Mounted → List (Vec Token) → List Token → Type 0
AreWaiting server passes seat = (j : ℕ) (own : Vec Token) → slice_get passes j ≡ Some own → IsCrewAt server j (idle_crew own.items) seat

-- each pass of a seat is of the same region, and has seen the same
abbrev pub SeesTheSame : List Token → List Token → Type 0
SeesTheSame old new = (j : ℕ) (before after : Token) → slice_get old j ≡ Some before → slice_get new j ≡ Some after
    → (after.region ≡ before.region) × (after.view.seen ≡ before.view.seen)
