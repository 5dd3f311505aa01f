-- The string stands at the end, and is told there.
use Rattle.std.proofs.Common.{subst, sym, ◌∙◌, ap}
use Rattle.mmv_writer.specs.Tables.{texts_behind, IsIndex}
use Rattle.mmv_writer.proofs.Firsts.{index_added}
use Rattle.mmv_writer.proofs.ReadTexts.{read_more}
use Rattle.mmv_writer.proofs.tables.add_last.Goals as goal

pub returns-clause-index : goal.returns-clause-index
returns-clause-index c =
    rw c.in_ok-push.ensures.ok
    (index_added c.args.firsts.now c.keep_first.new.firsts c.args.strings.now c.args.text c.len-at.result c.len-at.ensures c.in_default.ensures.ok c.requires)

pub returns-clause-ok : goal.returns-clause-ok
returns-clause-ok c = ap texts_behind c.in_ok-push.ensures.ok ∙ read_more c.args.strings.now c.args.text
