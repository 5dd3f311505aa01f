-- Whether the numbers of instances rise, each above the one before it.
use Rattle.std.specs.Prelude.{ℤ, if◌then◌else◌, [], ◌∷◌, Bool, true, false, int_lt}
use Rattle.pm_print.specs.Holding.{Pairs}

abbrev pub rises_above : ℤ → Pairs → Bool
rises_above n [] = true
rises_above n (p ∷ pairs) = if int_lt n p.0 then rises_above p.0 pairs else false

abbrev pub rises : Pairs → Bool
rises [] = true
rises (p ∷ pairs) = rises_above p.0 pairs
