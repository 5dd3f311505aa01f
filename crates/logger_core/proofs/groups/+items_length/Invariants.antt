-- One run less is left.
use Rattle.std.proofs.Common.{length}
use Rattle.logger_core.proofs.groups.+items_length.Given as goal

abbrev pub decreases-items_length : goal.decreases-items_length
decreases-items_length l = length l.runs.now
