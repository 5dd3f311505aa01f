-- What the passes of a script are doing, and what they have seen.
use Rattle.std.specs.Prelude.{◌≡◌, ℕ}
use Rattle.region_core.specs.declared.mode.Mode.{Mode}
use Rattle.region_core.specs.declared.mode.Mode.TheVariants.{Idle, Attached, Changing}
use Rattle.region_rule.specs.declared.view.View.{View}
use Rattle.region_rule.specs.Tokens.{spent_view}
use Rattle.region_rule.specs.Seats.{MadeRegion, Token, IsOf}
use Rattle.script_runs.specs.Regions.{Doing}
use Rattle.run_passes.specs.declared.worker.Worker.{Worker}
use Rattle.run_passes.specs.declared.worker.Worker.TheVariants as workers

-- a pass of this number of a region, in this mode
pub record IsPassOf (region : MadeRegion) (number : ℕ) (mode : Mode) (token : Token) : Type 0 where
  pub region_is : token.region ≡ region
  pub number_is : token.view.number ≡ number
  pub in_mode : IsOf mode token

-- so is a pass at its work
abbrev pub IsWorker : MadeRegion → ℕ → Worker → Type 0
IsWorker region number (workers.Idle pass) = IsPassOf region number Idle pass
IsWorker region number (workers.Inside stint) = IsPassOf region number Attached stint
IsWorker region number (workers.Changing change) = IsPassOf region number Changing change.token
IsWorker region number (workers.Reading reading) = IsPassOf region number Idle reading.token
IsWorker region number workers.Away = ⊥

-- what it has seen
abbrev pub view_of : Worker → View
view_of (workers.Idle pass) = pass.view
view_of (workers.Inside stint) = stint.view
view_of (workers.Changing change) = change.token.view
view_of (workers.Reading reading) = reading.token.view
view_of workers.Away = spent_view

-- what it does
abbrev pub doing_of : Worker → Doing
doing_of (workers.Idle pass) = Doing.idle
doing_of (workers.Inside stint) = Doing.attached
doing_of (workers.Changing change) = Doing.changing change.image change.generation change.next
doing_of (workers.Reading reading) = Doing.reading reading.first
doing_of workers.Away = Doing.idle
