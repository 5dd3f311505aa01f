-- One result less is left.
use Rattle.std.proofs.Common.{length}
use Rattle.case_logger.proofs.groups.+may_be_asked.Given as goal

abbrev pub decreases-may_be_asked : goal.decreases-may_be_asked
decreases-may_be_asked l = length l.all.now
