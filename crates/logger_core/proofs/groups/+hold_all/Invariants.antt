-- One result less is left.
use Rattle.std.proofs.Common.{length}
use Rattle.logger_core.proofs.groups.+hold_all.Given as goal

abbrev pub decreases-hold_all : goal.decreases-hold_all
decreases-hold_all l = length l.all.now
