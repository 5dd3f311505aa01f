use Rattle.std.proofs.Common.{length, sym, ap, ◌∙◌}
use Rattle.pcp_model.proofs.Listed.{listed_count}
use Rattle.pcp_model.proofs.instances.DomainInstances.len.Goals as goal

pub returns : goal.returns
returns c = sym (listed_count c.self.inside.count c.self.inside.bytes c.self.invariant) ∙ ap length c.self.view_is
