-- What is taken from a clock for a PDU.
use Rattle.std.specs.Prelude.{◌≡◌, ℕ, Bool, true, List, [], Option, is_some, option_to_list, Result, Ok, Err}
use Rattle.pcp_base.specs.Time.{Moment}
use Rattle.pcp_outside.specs.Causes.{Rose}
use Rattle.pmcd_session.specs.declared.halt.Halt.{Halt}
use Rattle.pmcd_session.specs.declared.halt.Halt.TheVariants.{ClockEnd, ClockFault, NoMemory}

-- the moments taken
abbrev pub taken_by : Result (Option Moment) Halt → List Moment
taken_by (Ok moment) = option_to_list moment
taken_by (Err halt) = []

-- a moment is given where one is needed; else none is left, or the clock failed
abbrev pub HasMomentFor : Type 0 → List Moment → ℕ → ℕ → Bool → Result (Option Moment) Halt → Type 0
HasMomentFor tells left before after needed (Ok moment) = is_some moment ≡ needed
HasMomentFor tells left before after needed (Err ClockEnd) = (needed ≡ true) × (tells → left ≡ [])
HasMomentFor tells left before after needed (Err ClockFault) = (needed ≡ true) × Rose before after
HasMomentFor tells left before after needed (Err NoMemory) = ⊥

-- why the clock gave no moment
abbrev pub HasCauseIn : Type 0 → List Moment → ℕ → ℕ → Halt → Type 0
HasCauseIn tells left before after ClockEnd = tells → left ≡ []
HasCauseIn tells left before after ClockFault = Rose before after
HasCauseIn tells left before after NoMemory = Unit {0}
