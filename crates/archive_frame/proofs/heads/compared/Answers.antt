use Rattle.std.proofs.Common.{◌≡◌, ◌≤◌, ℤ, length, sym, subst, arith, to_z, of_z, w32}
use Rattle.std.proofs.lemmas.Int.{to_z-of_z}
use Rattle.pcp_model.specs.Labels.{IsLabel}
use Rattle.archive_frame.specs.Heads.{IsHeadFault}
use Rattle.archive_frame.specs.Misfits.{IsFirstMisfit}
use Rattle.archive_frame.proofs.Beginnings.{begins}
use Rattle.archive_frame.proofs.heads.compared.Goals as goal

pub returns-then-stop-bytes-clause-found : goal.returns-then-stop-bytes-clause-found
returns-then-stop-bytes-clause-found c =
    let l = c.args.label.now in
    let n = c.args.number in
    let e : to_z w32 (of_z w32 n) ≡ n = to_z-of_z w32 n c.ranges.number in
    let stop = subst (λ (k : ℤ). IsFirstMisfit (λ t. IsLabel t l k) c.args.bytes.now c.in-Err.stop) e c.in-Err.ensures.stop in
    begins l n c.args.bytes.now (subst (IsFirstMisfit (λ t. IsLabel t l n) c.args.bytes.now) c.if-stop-bytes.true stop)

pub returns-in-Err-clause-fault : goal.returns-in-Err-clause-fault
returns-in-Err-clause-fault c =
    let l = c.args.label.now in
    let n = c.args.number in
    let e : to_z w32 (of_z w32 n) ≡ n = to_z-of_z w32 n c.ranges.number in
    let stop = subst (λ (k : ℤ). IsFirstMisfit (λ t. IsLabel t l k) c.args.bytes.now c.in-Err.stop) e c.in-Err.ensures.stop in
    let within : c.in-Err.stop ≤ length c.args.bytes.now = stop.within in
    subst (IsHeadFault l n c.args.bytes.now) (sym c.misfit.ensures) (c.in-Err.stop, omega (arith, c.if-stop-bytes.false), stop, c.told_at.ensures)
