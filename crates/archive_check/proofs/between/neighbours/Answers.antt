use Rattle.pcp_model.specs.Disk.{contents_of}
use Rattle.archive_check.proofs.Seeking.{in_label}
use Rattle.archive_check.proofs.between.neighbours.Goals as goal

pub returns-then-offset-lt132-clause-between : goal.returns-then-offset-lt132-clause-between
returns-then-offset-lt132-clause-between g c = λ tells. in_label c.args.file (contents_of (g.D.Disk.held c.args.disk.now) c.args.file) c.args.offset c.if-offset-lt132.true
