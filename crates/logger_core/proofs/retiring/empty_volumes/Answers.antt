-- One volume after another.
use Rattle.std.proofs.Common.{refl}
use Rattle.std.specs.Prelude.{Err, IfErr, Ok, Result}
use Rattle.logger_core.specs.Retiring.{HasRetiredSome}
use Rattle.logger_core.proofs.Emptied.{none_emptied, then_emptied, then_failed, then_moments}
use Rattle.logger_core.proofs.retiring.empty_volumes.Goals as goal

any_err : {T E : Type 0} (r : Result T E) (P : Type 0) → P → IfErr r (λ _. P)
any_err (Ok v) P p = tt
any_err (Err e) P p = p

pub loop-number-init : goal.loop-number-init
loop-number-init g c = none_emptied g.D.Disk g.met.D.Disk.only_now c.args.below c.args.disk.now

pub returns-in_err-empty_volume-clause-failed : goal.returns-in_err-empty_volume-clause-failed
returns-in_err-empty_volume-clause-failed g c = λ tells.
    let d = g.D.Disk in
    any_err c.from_residual.result (HasRetiredSome c.args.below (d.held c.args.disk.now) (d.held c.empty_volume.new.disk))
    (then_failed d g.met.D.Disk.only_now c.args.below c.loop-number.number c.loop-number-test.true c.args.disk.now c.loop-number.disk c.empty_volume.new.disk c.loop-number.invariant tells (c.in_err-empty_volume.ensures.failed tells))

pub returns-in_err-empty_volume-clause-any_moment :
    goal.returns-in_err-empty_volume-clause-any_moment
returns-in_err-empty_volume-clause-any_moment g c = λ tells.
    then_moments g.D.Disk g.met.D.Disk.only_now c.args.below c.loop-number.number c.loop-number-test.true c.args.disk.now c.loop-number.disk c.empty_volume.new.disk c.loop-number.invariant tells (c.empty_volume.ensures.any_moment tells)

pub loop-number-preserved : goal.loop-number-preserved
loop-number-preserved g c =
    then_emptied g.D.Disk g.met.D.Disk.only_now c.args.below c.loop-number.number c.loop-number-test.true c.args.disk.now c.loop-number.disk c.empty_volume.new.disk c.loop-number.invariant
    (c.in_ok-empty_volume.ensures.cause.quiet refl) c.in_ok-empty_volume.ensures.held c.empty_volume.ensures.any_moment
