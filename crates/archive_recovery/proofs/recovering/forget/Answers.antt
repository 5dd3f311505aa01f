use Rattle.pcp_base.specs.declared.file.FileId.TheVariants.{Meta}
use Rattle.pcp_outside.proofs.Crash.{weaker}
use Rattle.archive_loading.proofs.Looking.{looks_none}
use Rattle.archive_recovery.specs.Halfway.{MayBeHalfway}
use Rattle.archive_recovery.specs.Mending.{MayBeCut}
use Rattle.archive_recovery.proofs.Moving.{only_looked}
use Rattle.archive_recovery.proofs.Telling.{none_unsure, less_left, stopped_less}
use Rattle.archive_recovery.proofs.recovering.forget.Goals as goal

pub returns-in_err-index-clause-any_moment : goal.returns-in_err-index-clause-any_moment
returns-in_err-index-clause-any_moment g c = λ tells.
    only_looked g.D.Disk c.args.disk.now c.args.disk.now (looks_none g.D.Disk g.met.D.Disk.only_now c.args.disk.now) tells

pub returns-in_err-cut_tail-clause-any_moment : goal.returns-in_err-cut_tail-clause-any_moment
returns-in_err-cut_tail-clause-any_moment g c = λ tells.
    let d = g.D.Disk in
    let old = d.held c.args.disk.now in
    weaker d.moment d.left_since d.held c.args.disk.now c.cut_tail.new.disk (MayBeCut Meta 0 old) (MayBeHalfway old) (c.cut_tail.ensures.any_moment tells)
    (λ image may settled r reads. stopped_less old (c.requires.stopped tells) r reads image (less_left old (c.requires.stopped tells) image may))

pub returns-clause-sure : goal.returns-clause-sure
returns-clause-sure g c = λ tells. none_unsure (g.D.Disk.held c.args.disk.now) (g.D.Disk.held c.cut_tail.new.disk) (c.requires.stopped tells) (c.in_ok-cut_tail.ensures.held tells)

pub returns-clause-any_moment : goal.returns-clause-any_moment
returns-clause-any_moment g c = λ tells.
    let d = g.D.Disk in
    let old = d.held c.args.disk.now in
    weaker d.moment d.left_since d.held c.args.disk.now c.cut_tail.new.disk (MayBeCut Meta 0 old) (MayBeHalfway old) (c.cut_tail.ensures.any_moment tells)
    (λ image may settled r reads. stopped_less old (c.requires.stopped tells) r reads image (less_left old (c.requires.stopped tells) image may))
