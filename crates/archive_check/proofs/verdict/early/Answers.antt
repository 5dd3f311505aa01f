use Rattle.std.proofs.Common.{◌≡◌, ◌∙◌, true, sym, subst}
use Rattle.pcp_model.specs.Disk.{contents_of}
use Rattle.archive_check.specs.Looked.{is_late}
use Rattle.archive_check.specs.Verdicts.{IsStampAfter}
use Rattle.archive_check.proofs.Judging.{early_at}
use Rattle.archive_check.proofs.verdict.early.Goals as goal

pub returns-in-Some-clause-fault : goal.returns-in-Some-clause-fault
returns-in-Some-clause-fault g c = λ tells d entries top known r k same late.
    let files = contents_of (g.D.Disk.held c.args.disk.now) in
    early_at files d c.args.volumes.now entries top known c.args.entry.now r k c.args.at c.in-Points.domain c.in-Points.field-1 c.in-Some.stamp (sym c.in-Points.is ∙ same)
    (subst (λ l. is_late l c.args.entry.now.stamp ≡ true) c.in-Points.is late) (subst (IsStampAfter files c.args.volumes.now c.in-Points.domain c.args.entry.now.stamp) c.in-Some.is (c.in_ok-stamp.ensures.found tells))
