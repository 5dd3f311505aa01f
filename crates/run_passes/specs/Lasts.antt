-- A region all of whose passes were gathered into one: what that pass has seen is the whole journal.
use Rattle.std.specs.Prelude.{◌≡◌, ℕ, ◌<◌, List, slice_get, Some}
use Rattle.region_core.specs.declared.mode.Mode.TheVariants.{Idle}
use Rattle.region_core.specs.State.{State, opening, IsIn}
use Rattle.region_core.specs.Journal.{state, IsJournal}
use Rattle.region_rule.specs.Tokens.{IsLast}
use Rattle.region_rule.specs.Seats.{Token, IsOf}
use Rattle.region_words.specs.Images.{mmv}

-- the state of a region at the end of what a pass has seen
abbrev pub end_of : Token → State
end_of token = state (opening token.region.words token.region.passes) token.view.seen

-- The pass has gathered every other pass of its region, so that no entry can stand behind what it has seen: that is a legal journal, and
-- each pass is idle at its end.
pub record IsLastPass (token : Token) : Type 0 where
  pub in_mode : IsOf Idle token
  pub last : IsLast token.view
  pub journal : IsJournal mmv token.region.words token.region.passes token.view.seen
  pub idle : (k : ℕ) → k < token.region.passes → IsIn Idle (end_of token) k

-- so has the pass of each region
abbrev pub AreLast : List Token → Type 0
AreLast seat = (j : ℕ) (token : Token) → slice_get seat j ≡ Some token → IsLastPass token

-- And so the gate is free: no stint is left attached, and no change unfinished.
abbrev pub LastLeavesTheGate : Type 0
LastLeavesTheGate = (token : Token) → IsLastPass token → (end_of token).gate ≡ 0
