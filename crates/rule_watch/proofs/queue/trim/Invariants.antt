-- What is left to trim leads to the same numbers.
use Rattle.std.proofs.Common.{◌≡◌, ◌≤◌}
use Rattle.std.specs.VecDeque.{deque_len, deque_capacity}
use Rattle.rule_watch.specs.Queues.{trimmed}
use Rattle.rule_watch.proofs.queue.trim.Given as goal

abbrev pub invariant-loop-queue : goal.invariant-loop-queue
invariant-loop-queue l = record {
  queue : trimmed l.number l.queue.items ≡ trimmed l.number l.initial.queue.items;
  room : deque_capacity l.queue ≡ deque_capacity l.initial.queue;
  len : deque_len l.queue ≤ deque_len l.initial.queue;
}

abbrev pub decreases-loop-queue : goal.decreases-loop-queue
decreases-loop-queue l = deque_len l.queue
