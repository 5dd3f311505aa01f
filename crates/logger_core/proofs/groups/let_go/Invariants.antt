-- As many runs are left.
use Rattle.std.proofs.Common.{◌≡◌, length}
use Rattle.logger_core.proofs.groups.let_go.Given as goal

abbrev pub invariant-loop-left : goal.invariant-loop-left
invariant-loop-left l = record { size : l.left ≡ length l.runs }

abbrev pub decreases-loop-left : goal.decreases-loop-left
decreases-loop-left l = l.left
