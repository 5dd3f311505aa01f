-- The text is kept with its place, or nothing is to be kept.
use Rattle.std.proofs.Common.{sym, ◌∙◌}
use Rattle.mmv_writer.proofs.Firsts.{index_first, index_kept}
use Rattle.mmv_writer.proofs.tables.keep_first.Goals as goal

pub returns-then-not-is_open-clause-ok : goal.returns-then-not-is_open-clause-ok
returns-then-not-is_open-clause-ok c = index_kept c.args.firsts.now c.args.text.now c.args.at (sym c.is_open.ensures ∙ c.if-not-is_open.true)

pub returns-clause-ok : goal.returns-clause-ok
returns-clause-ok c =
    index_first c.args.firsts.now c.insert.new.self c.in_ok-key.key c.args.text.now c.args.at (c.in_ok-key.ensures.items ∙ c.as_slice.ensures.value)
    (sym c.is_open.ensures ∙ c.if-not-is_open.false) c.in_ok-insert.ensures.entries
