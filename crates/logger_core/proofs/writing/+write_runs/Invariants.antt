-- One run less is left.
use Rattle.std.proofs.Common.{length}
use Rattle.logger_core.proofs.writing.+write_runs.Given as goal

abbrev pub decreases-write_runs : goal.decreases-write_runs
decreases-write_runs g l = length l.runs.now
