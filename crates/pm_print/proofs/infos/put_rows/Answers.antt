-- The range is all of the table.
use Rattle.std.proofs.Common.{ℕ, List, ◌++◌, map, sym, ap, ◌∙◌}
use Rattle.std.proofs.lemmas.List.{append-nil}
use Rattle.std.specs.Global.{Vec}
use Rattle.pcp_base.specs.declared.desc.Desc.{Desc}
use Rattle.pm_print.specs.Infos.{rows_text}
use Rattle.pm_print.specs.Rows.{row}
use Rattle.pm_print.proofs.Tables.{unbounded}
use Rattle.pm_print.proofs.infos.put_rows.Goals as goal

pub returns : goal.returns
returns c =
    sym (append-nil c.loop-key.out.items)
    ∙ ap (λ (es : List ((Vec ℕ × ℕ) × Desc)). c.loop-key.out.items ++ rows_text (map row es)) (sym c.in_default.ensures.steps.0)
    ∙ sym c.loop-key.invariant.2
    ∙ ap (λ (es : List ((Vec ℕ × ℕ) × Desc)). c.args.out.now.items ++ rows_text (map row es)) (c.range-rest.ensures.between tt ∙ unbounded c.args.rows.now.entries)
