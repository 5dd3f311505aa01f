-- What was made is what the records say.
use Rattle.std.proofs.Common.{ap, ◌∙◌, ◌++◌}
use Rattle.pm_print.specs.Sets.{head_text}
use Rattle.pm_print.proofs.starts.start_of.Goals as goal

pub returns-clause-said : goal.returns-clause-said
returns-clause-said c = record { head = c.in_ok-put_head.ensures ∙ ap (λ t. t ++ head_text c.args.meta.now c.args.pmid) c.new-head.ensures.items; desc = c.desc_of.ensures }
