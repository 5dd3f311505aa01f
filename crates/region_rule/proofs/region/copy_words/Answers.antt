use Rattle.std.proofs.Common.{◌<◌, ◌≤◌, length, length-set, ◌∙◌, arith}
use Rattle.std.specs.Slots.{slots_items}
use Rattle.std.specs.Mem.Slots.{slots_counts}
use Rattle.region_rule.proofs.Rows.{copied, whole}
use Rattle.region_rule.proofs.region.copy_words.Goals as goal

pub loop-index-preserved : goal.loop-index-preserved
loop-index-preserved c =
    let words = c.loop-index.words.items in
    let below : c.loop-index.index < length words = omega (arith, c.loop-index-test.true, c.len.ensures) in
    let wide = length-set words c.loop-index.index c.word.result in (
      wide ∙ c.loop-index.invariant.0,
      omega arith,
      copied (slots_items c.args.closed.now.words) words c.loop-index.index c.word.result c.loop-index.invariant.2 below c.word.ensures,
    )

pub returns : goal.returns
returns c =
    let cells = slots_items c.args.closed.now.words in
    let words = c.loop-index.words.items in
    let counts = (slots_counts c.args.closed.now.words).0 in
    let asked = c.requires.1 in
    let same = c.loop-index.invariant.0 in
    let most = c.loop-index.invariant.1 in
    let end : length words ≤ c.loop-index.index = omega (arith, c.loop-index-test.false, c.len.ensures) in
    whole cells words (omega arith) (λ k h. c.loop-index.invariant.2 k (omega arith))
