-- Where the regions so far are served.
use Rattle.std.specs.Prelude.{◌≡◌, ℕ, length, slice_get, Some}
use Rattle.run_passes.specs.Hands.{IsServedAt}
use Rattle.run_passes.proofs.positions.places_of.Given as goal

abbrev pub invariant-loop-region : goal.invariant-loop-region
invariant-loop-region l =
    (l.region-end ≡ length l.script.regions) × (length l.places.items ≡ l.region)
    × ((i j : ℕ) → slice_get l.places.items i ≡ Some j → IsServedAt l.script l.server i j)
