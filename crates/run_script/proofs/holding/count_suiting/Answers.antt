-- One step more is right with the image, or it is the first that isn't.
use Rattle.std.proofs.Common.{◌≡◌, true, length, sym, ◌∙◌}
use borrow.Author.Count.{below_more}
use Rattle.run_script.specs.RecordingSteps.{passes_at, suits_image}
use Rattle.run_script.proofs.Firsts.{first_here}
use Rattle.run_script.proofs.Held.{suits_at}
use Rattle.run_script.proofs.holding.count_suiting.Goals as goal

pub returns-then-not-suits_in : goal.returns-then-not-suits_in
returns-then-not-suits_in c =
    let steps = c.args.steps.now in
    first_here (passes_at (suits_image c.args.script.now c.args.at) steps) (length steps) c.loop-k.k c.loop-k-test.true c.loop-k.invariant
    (suits_at c.args.script.now c.args.at c.args.image.now c.holders-held.result steps c.loop-k.k c.index-steps-k.result c.requires.image c.holders-held.ensures c.requires.front c.loop-k-test.true
    c.index-steps-k.is ∙ (sym c.suits_in.ensures ∙ c.if-not-suits_in.true))

pub loop-k-preserved : goal.loop-k-preserved
loop-k-preserved c =
    let steps = c.args.steps.now in
    below_more (λ j. passes_at (suits_image c.args.script.now c.args.at) steps j ≡ true) c.loop-k.k c.loop-k.invariant
    (suits_at c.args.script.now c.args.at c.args.image.now c.holders-held.result steps c.loop-k.k c.index-steps-k.result c.requires.image c.holders-held.ensures c.requires.front c.loop-k-test.true
    c.index-steps-k.is ∙ (sym c.suits_in.ensures ∙ c.if-not-suits_in.false))
