use Rattle.std.proofs.Common.{ℕ, slice_get, ap, ◌∙◌}
use Rattle.run_passes.proofs.Laying.{laid_next, laid_none, popped_at}
use Rattle.run_passes.proofs.hand.lay_down.Goals as goal

pub loop-writer-init : goal.loop-writer-init
loop-writer-init c = (c.requires.none, laid_none c.args.server.now c.args.number c.args.writers.items c.args.passes.now.items)

pub put_down-requires-clause-here : goal.put_down-requires-clause-here
put_down-requires-clause-here c = (
  c.args.number,
  λ mounted there.
      c.requires.writers.each c.len-at.result mounted c.in-Some.writer there
      (ap (λ (n : ℕ). slice_get c.args.writers.items n) (c.len-at.ensures ∙ c.pop.new.self.ok.0)
      ∙ popped_at c.args.server.now c.args.number c.args.writers.items c.loop-writer.writers.items c.pop.new.self.items c.in-Some.writer c.loop-writer.passes.items c.loop-writer.invariant.1 c.in-Some.ensures.items),
)

pub loop-writer-preserved-in-Some : goal.loop-writer-preserved-in-Some
loop-writer-preserved-in-Some c =
    laid_next c.args.server.now c.args.number c.args.writers.items c.loop-writer.writers.items c.pop.new.self.items c.in-Some.writer c.loop-writer.passes.items c.put_down.result c.len-at.result (c.len-at.ensures ∙ c.pop.new.self.ok.0) c.loop-writer.invariant.0 c.requires.writers c.loop-writer.invariant.1 c.in-Some.ensures.items c.put_down.ensures

pub loop-writer-preserved : goal.loop-writer-preserved
loop-writer-preserved c =
    laid_next c.args.server.now c.args.number c.args.writers.items c.loop-writer.writers.items c.pop.new.self.items c.in-Some.writer c.loop-writer.passes.items c.put_down.result c.len-at.result (c.len-at.ensures ∙ c.pop.new.self.ok.0) c.loop-writer.invariant.0 c.requires.writers c.loop-writer.invariant.1 c.in-Some.ensures.items c.put_down.ensures
