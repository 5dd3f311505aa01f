use Rattle.std.proofs.Common.{subst}
use Rattle.pcp_model.specs.Archive.{ArchiveReading}
use Rattle.pcp_model.specs.Disk.{contents_of}
use Rattle.archive_recovery.specs.Surveys.{IsSurvey, IsSighted}
use Rattle.archive_recovery.proofs.Moving.{only_looked, looked_first}
use Rattle.archive_recovery.proofs.Telling.{c as contents}
use Rattle.archive_recovery.proofs.recovering.recover_files.Goals as goal

pub returns-in_err-length-clause-any_moment : goal.returns-in_err-length-clause-any_moment
returns-in_err-length-clause-any_moment g c = λ tells. only_looked g.D.Disk c.args.disk.now c.sight.new.disk c.sight.ensures.looks tells

pub returns-in-Begun-clause-any_moment : goal.returns-in-Begun-clause-any_moment
returns-in-Begun-clause-any_moment g c = λ tells. looked_first g.D.Disk c.args.disk.now c.sight.new.disk c.sight.ensures.looks tells c.forget.new.disk (c.forget.ensures.any_moment tells)

pub returns-in-Begun-clause-unread : goal.returns-in-Begun-clause-unread
returns-in-Begun-clause-unread g c = λ tells none.
    let begun = subst (IsSurvey (contents_of (g.D.Disk.held c.args.disk.now))) c.in-Begun.is (c.in_ok-length.ensures.survey tells) in
    absurd (none (ArchiveReading.nothing, begun.1))

pub returns-in-Archive-clause-any_moment : goal.returns-in-Archive-clause-any_moment
returns-in-Archive-clause-any_moment g c = λ tells. looked_first g.D.Disk c.args.disk.now c.sight.new.disk c.sight.ensures.looks tells c.restore.new.disk (c.restore.ensures.any_moment tells)

pub returns-in-Archive-clause-unread : goal.returns-in-Archive-clause-unread
returns-in-Archive-clause-unread g c = λ tells none.
    let files = contents_of (g.D.Disk.held c.args.disk.now) in
    let is : IsSighted files c.in-Archive.sighted = subst (IsSurvey files) c.in-Archive.is (c.in_ok-length.ensures.survey tells) in
    absurd (none (ArchiveReading.archive (contents files c.in-Archive.sighted is), is.found.is))
