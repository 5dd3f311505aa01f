-- A fault that is handed on.
use Rattle.std.proofs.Common.{◌≡◌, Result, sym, subst}
use Rattle.std.specs.Prelude.{IfErr}
use Rattle.std.specs.Result.{IsErrAnd}
use Rattle.std.proofs.lemmas.Result.{err_from_is_err_and}
use Rattle.archive_frame.specs.declared.fault.FrameFault.{FrameFault}

pub handed_on : {T : Type 0} (r : Result T FrameFault) (e f : FrameFault) (P : FrameFault → Type 0) → IsErrAnd r (λ y. y ≡ e) → e ≡ f → P f → IfErr r P
handed_on r e f P was is h =
    let p = err_from_is_err_and r was in subst (λ x. IfErr x P) (sym p.1) (subst P (sym p.2) (subst P (sym is) h))
