-- Bytes that stand for themselves are their spelling.
use Rattle.std.proofs.Common.{◌++◌, sym, ap, ◌∙◌}
use Rattle.pm_print.proofs.Plain.{spelled}
use Rattle.pm_print.proofs.values.put_spelled.Goals as goal

pub returns : goal.returns
returns c = c.in_ok-extend_from_slice.ensures.items ∙ ap (λ t. c.args.out.now.items ++ t) (sym (spelled c.args.text.now (sym c.are_plain.ensures ∙ c.if-not-are_plain.false)))
