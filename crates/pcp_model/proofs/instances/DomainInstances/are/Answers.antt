use Rattle.std.proofs.Common.{◌≡◌, length, sym, ap, ◌∙◌, arith}
use Rattle.pcp_model.proofs.Listed.{listed_count}
use Rattle.pcp_model.proofs.instances.DomainInstances.are.Goals as goal

pub returns-then-pairs-self : goal.returns-then-pairs-self
returns-then-pairs-self c = (
  λ no. absurd cc,
  λ same. let size : length c.args.pairs.now ≡ c.self.inside.count = ap length (sym same ∙ sym c.self.view_is) ∙ listed_count c.self.inside.count c.self.inside.bytes c.self.invariant in absurd (omega arith),
)
