-- A recording leaves one seat, which is of the regions that it leaves.
use Rattle.std.proofs.Common.{◌≡◌, ℕ, Some, IsSome, refl, subst, sym}
use Rattle.std.specs.Prelude.{slice_get}
use Rattle.pcp_outside.specs.Sides.{SinkSide}
use Rattle.fetch_engine.specs.Servers.{IsSeated, Seated}
use Rattle.run_passes.specs.declared.opening.Opened.{Opened}
use Rattle.pm_recording.specs.Facts.{Facts}
use Rattle.pm_recording.specs.Recording.{CallSide}

module _ {C D : Type 0} (c : CallSide C D) (k : SinkSide) (status : ℕ) (left : Opened) where
  pub is_seated : Facts c k status → c.run.opened ≡ Some left → (seat : Seated) → slice_get left.seats.items 0 ≡ Some seat → IsSeated left.server seat.tokens
  is_seated facts is seat there =
      let (ending, ran) = facts.regions.ran (subst IsSome (sym is) refl) in
      let same : ran.has.left ≡ left = cc (sym ran.has.kept, is) in
      let last : slice_get left.seats.items 0 ≡ Some ran.has.was.last = subst (λ (x : Opened). slice_get x.seats.items 0 ≡ Some ran.has.was.last) same ran.has.was.last_is in
      let one : ran.has.was.last ≡ seat = cc (last, there) in
      subst (λ (x : Seated). IsSeated left.server x.tokens) one (subst (λ (x : Opened). IsSeated x.server ran.has.was.last.tokens) same ran.has.was.seated)
