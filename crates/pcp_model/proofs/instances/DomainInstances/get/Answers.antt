use Rattle.std.proofs.Common.{sym, ap, ◌∙◌}
use Rattle.std.specs.Prelude.{slice_get}
use Rattle.std.proofs.lemmas.List.{take_rest}
use Rattle.pcp_model.proofs.Listed.{listed_at, none_listed}
use Rattle.pcp_model.proofs.instances.DomainInstances.get.Goals as goal

pub returns-then-at-count-clause-pair : goal.returns-then-at-count-clause-pair
returns-then-at-count-clause-pair c = ap (λ pairs. slice_get pairs c.args.at) (sym c.self.view_is) ∙ none_listed c.self.inside.count c.self.inside.bytes c.self.invariant c.args.at c.if-at-count.true

pub returns-clause-pair : goal.returns-clause-pair
returns-clause-pair c =
    let e = simp (take_rest, c.as_slice-bytes.ensures, listed_at c.self.inside.count c.self.inside.bytes c.self.invariant c.args.at c.if-at-count.false, c.self.view_is) at c.pair_at.ensures.pair in e
