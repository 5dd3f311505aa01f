-- Seats of the table: which region a seat belongs to, and what contracts see of a pass.
use Rattle.std.specs.Prelude.{◌≡◌, ℕ, List}
use Rattle.atomic_table.specs.Table.{Me}
use Rattle.atomic_table.specs.Seated.{TableId}
use Rattle.atomic_table.specs.declared.shared.Seat.{Seat}
use Rattle.region_core.specs.Shape.{Shaping}
use Rattle.region_core.specs.declared.mode.Mode.{Mode}
use Rattle.region_core.specs.declared.act.Act.{Act}
use Rattle.region_rule.specs.declared.view.View.{View}
use Rattle.region_rule.specs.declared.view.Role.TheVariants.{Numbered}
use Rattle.region_rule.specs.Steps.{Extends}
use Rattle.region_rule.specs.Tokens.{Knows}

-- a region as it was made: its table, its words then, up to the capacity, and how many passes it has
pub record MadeRegion : Type 0 where
  pub table : TableId
  pub words : List ℕ
  pub passes : ℕ

-- a pass, a reading, a stint, a change or a note: its region, and what it has seen
pub record Token : Type 0 where
  pub region : MadeRegion
  pub view : View

-- the region that a seat belongs to
abbrev pub region_of : Seat (Unit {0}) View → MadeRegion
region_of seat = record { table = seat.table_id; words = seat.me.0.start; passes = seat.me.0.passes }

-- what contracts see of a seat
abbrev pub token_of : Seat (Unit {0}) View → Token
token_of seat = record { region = region_of seat; view = seat.me.0 }

-- The pass is in this mode, and what it has seen is of its region's words and passes
pub record IsOf (mode : Mode) (token : Token) : Type 0 where
  pub mode_is : token.view.mode ≡ mode
  pub start_is : token.view.start ≡ token.region.words
  pub passes_are : token.view.passes ≡ token.region.passes

-- The region and the pass's number stay, and so do the region's words and passes. The pass was in the first mode, and is in the second
pub record IsSame (was stays : Mode) (old new : Token) : Type 0 where
  pub region : new.region ≡ old.region
  pub number : new.view.number ≡ old.view.number
  pub before : IsOf was old
  pub after : IsOf stays new

-- the seat of a pass of this region
pub record IsSeatOf (region : MadeRegion) (seat : Seat (Unit {0}) View) : Type 0 where
  pub is : region_of seat ≡ region
  pub named : seat.me.0.role ≡ Numbered

-- what a step tells the pass that takes it
abbrev pub Tells : Shaping → Act → Me (Unit {0}) View → ℕ → Me (Unit {0}) View → Type 0
Tells S act me n new = Extends S me.0 act n new.0 × (new.1 ≡ me.1)

-- and what a look tells
abbrev pub TellsView : Shaping → Me (Unit {0}) View → ℕ → Me (Unit {0}) View → Type 0
TellsView S me n new = (new ≡ me) × Knows S me.0
