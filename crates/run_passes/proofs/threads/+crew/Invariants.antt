use Rattle.std.proofs.Common.{length, ◌+◌, ◌*◌}
use Rattle.run_passes.proofs.threads.+crew.Given as goal

abbrev pub decreases-beside-join_mut+arg3 : goal.decreases-beside-join_mut+arg3
decreases-beside-join_mut+arg3 g l = 3 * length l.hands.now + 1

abbrev pub decreases-beside : goal.decreases-beside
decreases-beside g l = 3 * length l.hands.now + 2

abbrev pub decreases-run : goal.decreases-run
decreases-run g l = 3 * length l.hands.now
