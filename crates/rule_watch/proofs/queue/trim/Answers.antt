-- A number at the end that is above goes.
use Rattle.std.proofs.Common.{to_z, of_z, ap, sym, ◌∙◌, arith, length, length-append}
use Rattle.std.specs.Int.{w128}
use Rattle.std.proofs.lemmas.Int.{to_z-of_z}
use Rattle.rule_watch.specs.Queues.{trimmed}
use Rattle.rule_watch.proofs.Minima.{trims_more, trimmed_all}
use Rattle.rule_watch.proofs.queue.trim.Goals as goal

pub loop-queue-preserved : goal.loop-queue-preserved
loop-queue-preserved c = record {
  queue = trims_more (to_z w128 (of_z w128 c.args.number)) c.loop-queue.queue.items c.pop_back.new.self.items c.pop_back.result c.pop_back.ensures.items (sym c.loop-queue-test.ensures)
      ∙ c.loop-queue.invariant.queue;
  room = c.pop_back.ensures.capacity ∙ c.loop-queue.invariant.room;
  len = omega (arith, simp length-append at (ap length c.pop_back.ensures.items), c.pop_back.new.self.ok.0, c.loop-queue.queue.ok.0, c.loop-queue.invariant.len);
}

pub returns-clause-queue : goal.returns-clause-queue
returns-clause-queue c =
    sym (trimmed_all (to_z w128 (of_z w128 c.args.number)) c.loop-queue.queue.items (sym c.loop-queue-test.ensures))
    ∙ c.loop-queue.invariant.queue
    ∙ ap (λ n. trimmed n c.args.queue.now.items) (to_z-of_z w128 c.args.number c.ranges.number)
