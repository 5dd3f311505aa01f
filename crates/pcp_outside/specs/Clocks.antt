-- What a call takes from a clock.
use Rattle.std.specs.Prelude.{◌≡◌, ℕ, List, [], ◌∷◌, Option, Some, None, Result, Ok, Err}
use Rattle.pcp_base.specs.Time.{Moment}

-- The next moment is given, or their end is told; a refused call takes none.
abbrev pub GivesMoment : {E : Type 0} → List Moment → List Moment → Result (Option Moment) E → Type 0
GivesMoment before after (Ok (Some t)) = before ≡ t ∷ after
GivesMoment before after (Ok None) = (before ≡ []) × (after ≡ [])
GivesMoment before after (Err _) = after ≡ before
