use Rattle.std.proofs.Common.{ap, ◌∙◌}
use Rattle.std.specs.Prelude.{replicate}
use Rattle.pmcd_session.specs.Contexts.{keeps_all}
use Rattle.pmcd_session.proofs.Same.{all_same}
use Rattle.pmcd_session.proofs.contexts.Contexts.renew.Goals as goal

pub returns : goal.returns
returns c = all_same c.renew_each.new.self keeps_all c.renew_each.ensures.each ∙ ap (λ n. replicate n keeps_all) c.renew_each.ensures.many
