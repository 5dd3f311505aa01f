use Rattle.std.proofs.Common.{drop, refl, sym, ap, ◌∙◌, subst}
use Rattle.std.specs.Int.{w32}
use Rattle.std.proofs.lemmas.Int.{to_z-of_z}
use Rattle.result_form.specs.Shown.{shown_block}
use Rattle.result_form.specs.Lying.{BlockLies}
use Rattle.result_form.proofs.Lying.{pairs_go_on}
use Rattle.result_form.proofs.Walks.{taken, blocks_left}
use Rattle.result_form.proofs.owned.blocks_of.Goals as goal

pub block_of-requires-clause-lies : goal.block_of-requires-clause-lies
block_of-requires-clause-lies c =
    subst (BlockLies c.args.payload.now c.args.end) (sym c.word_in-offset.ensures)
    (pairs_go_on c.args.payload.now c.args.end c.args.count c.loop.counter c.loop.left.now (drop 8 c.loop.left.now) c.loop-test.true refl c.loop.invariant.lie).0

pub loop-preserved : goal.loop-preserved
loop-preserved c =
    let i = c.instance_in-instance in
    record {
      all = taken c.loop.pairs c.push.new.self _ _ _ _ c.in_ok-push.ensures.ok
          (blocks_left c.args.count c.loop.counter c.loop-test.true c.loop.left.now c.behind-left.result.now c.args.payload.now _ c.in_ok-block.block (to_z-of_z w32 i.result (record { sfits = i.type_inv }) ∙ i.ensures)
          (c.in_ok-block.ensures ∙ ap (shown_block c.args.payload.now) c.word_in-offset.ensures) c.behind-left.ensures) c.loop.invariant.all;
      lie = (pairs_go_on c.args.payload.now c.args.end c.args.count c.loop.counter c.loop.left.now c.behind-left.result.now c.loop-test.true c.behind-left.ensures c.loop.invariant.lie).1;
    }
