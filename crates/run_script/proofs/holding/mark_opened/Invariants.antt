-- The regions so far are told, and the others clear.
use Rattle.std.proofs.Common.{◌≡◌, ℕ, ◌<◌, ◌≤◌, false}
use Rattle.std.specs.Prelude.{slice_get}
use Rattle.run_script.specs.RecordingSteps.{is_held, opens}
use Rattle.run_script.proofs.holding.mark_opened.Given as goal

abbrev pub invariant-loop-region : goal.invariant-loop-region
invariant-loop-region l = record {
  told : (region : ℕ) → region < l.region → is_held l.held region ≡ opens l.image (slice_get l.regions region);
  clear : (region : ℕ) → l.region ≤ region → is_held l.held region ≡ false;
}
