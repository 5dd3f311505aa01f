-- The range is all of the map.
use Rattle.std.proofs.Common.{ℕ, ℤ, List, ◌++◌, map, sym, ap, ◌∙◌}
use Rattle.std.proofs.lemmas.List.{append-nil}
use Rattle.std.specs.Global.{Vec}
use Rattle.log_summary.specs.Lines.{lines_text}
use Rattle.log_summary.specs.Listed.{line}
use Rattle.log_summary.proofs.Lining.{unbounded}
use Rattle.log_summary.proofs.lines.put_lines.Goals as goal

pub returns : goal.returns
returns c =
    sym (append-nil c.loop-line.out.items)
    ∙ ap (λ (es : List ((Vec ℕ × ℕ × ℤ) × Vec ℕ)). c.loop-line.out.items ++ lines_text (map line es)) (sym c.in_default.ensures.steps.0)
    ∙ sym c.loop-line.invariant.2
    ∙ ap (λ (es : List ((Vec ℕ × ℕ × ℤ) × Vec ℕ)). c.args.out.now.items ++ lines_text (map line es)) (c.range-rest.ensures.between tt ∙ unbounded c.args.lines.now.entries)
