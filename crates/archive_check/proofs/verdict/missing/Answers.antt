use Rattle.std.proofs.Common.{sym}
use Rattle.pcp_model.specs.Disk.{contents_of}
use Rattle.archive_check.proofs.Judging.{missed_above, missed_at}
use Rattle.std.proofs.Common.{◌∙◌}
use Rattle.archive_check.proofs.verdict.missing.Goals as goal

pub returns-in-Above-clause-fault : goal.returns-in-Above-clause-fault
returns-in-Above-clause-fault g c = λ tells d vs entries top known r k same miss.
    missed_above (contents_of (g.D.Disk.held c.args.disk.now)) d vs entries top known c.args.entry.now r k c.args.at (sym c.in-Above.is ∙ same)

pub returns-in_ok-below-in-Misses-clause-fault : goal.returns-in_ok-below-in-Misses-clause-fault
returns-in_ok-below-in-Misses-clause-fault g c = λ tells d vs entries top known r k same miss.
    missed_at (contents_of (g.D.Disk.held c.args.disk.now)) d vs entries top known c.args.entry.now r k c.args.at c.in-Misses.file c.in-Misses.offset c.in_ok-below-in-Misses.below c.in_ok-below-in-Misses.above (sym c.in-Misses.is ∙ same) (c.in_ok-below-in-Misses.ensures.between tells)
