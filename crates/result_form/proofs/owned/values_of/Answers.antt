use Rattle.std.proofs.Common.{◌∙◌}
use Rattle.std.specs.Int.{w32}
use Rattle.std.proofs.lemmas.Int.{to_z-of_z}
use Rattle.result_form.proofs.Walks.{taken, values_left}
use Rattle.result_form.proofs.owned.values_of.Goals as goal

pub loop-preserved : goal.loop-preserved
loop-preserved c =
    let i = c.instance_in-instance in
    taken c.loop.pairs c.push.new.self _ _ _ _ c.in_ok-push.ensures.ok
    (values_left c.args.count c.loop.counter c.loop-test.true c.loop.left.now c.behind-left.result.now _ c.word_in-value.result (to_z-of_z w32 i.result (record { sfits = i.type_inv }) ∙ i.ensures) c.word_in-value.ensures c.behind-left.ensures) c.loop.invariant
