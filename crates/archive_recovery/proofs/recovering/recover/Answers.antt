use Rattle.archive_recovery.proofs.Moving.{only_looked, looked_first, looked_unread}
use Rattle.archive_recovery.proofs.recovering.recover.Goals as goal

pub returns-in_err-file-clause-any_moment : goal.returns-in_err-file-clause-any_moment
returns-in_err-file-clause-any_moment g c = λ tells. only_looked g.D.Disk c.args.disk.now c.wrapped_file.new.disk c.wrapped_file.ensures.looks tells

pub returns-in-Some-clause-any_moment : goal.returns-in-Some-clause-any_moment
returns-in-Some-clause-any_moment g c = λ tells. only_looked g.D.Disk c.args.disk.now c.wrapped_file.new.disk c.wrapped_file.ensures.looks tells

pub returns-in-None-clause-any_moment : goal.returns-in-None-clause-any_moment
returns-in-None-clause-any_moment g c = λ tells.
    looked_first g.D.Disk c.args.disk.now c.wrapped_file.new.disk c.wrapped_file.ensures.looks tells c.recover_files.new.disk (c.recover_files.ensures.any_moment tells)

pub returns-in-None-clause-unread : goal.returns-in-None-clause-unread
returns-in-None-clause-unread g c = λ tells none.
    looked_unread g.D.Disk c.args.disk.now c.wrapped_file.new.disk c.wrapped_file.ensures.looks tells c.recover_files.new.disk none (c.recover_files.ensures.unread tells)
