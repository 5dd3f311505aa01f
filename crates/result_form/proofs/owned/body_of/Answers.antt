use Rattle.std.proofs.Common.{sym, ◌∙◌}
use Rattle.result_form.proofs.Lying.{body_lies}
use Rattle.result_form.proofs.owned.body_of.Goals as goal

pub blocks_of-requires-clause-lie : goal.blocks_of-requires-clause-lie
blocks_of-requires-clause-lie c =
    body_lies c.args.payload.now c.args.end c.word_in-number.result c.word_in.result c.args.words.now c.behind-pairs.result.now c.word_in-number.ensures (sym c.is_status.ensures ∙ c.if-is_status.false)
    c.word_in.ensures c.if-word_in-eq0.false c.behind-pairs.ensures c.requires.lies
