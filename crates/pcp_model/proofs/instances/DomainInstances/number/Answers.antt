use Rattle.std.proofs.Common.{ℤ, List, ℕ, sym, ap, ◌∙◌}
use Rattle.std.specs.Prelude.{slice_get, option_map}
use Rattle.std.proofs.lemmas.List.{take_rest}
use Rattle.pcp_model.proofs.Listed.{number_listed, none_listed}
use Rattle.pcp_model.proofs.instances.DomainInstances.number.Goals as goal

pub returns-then-at-self : goal.returns-then-at-self
returns-then-at-self c =
    ap (option_map (λ (p : ℤ × List ℕ). p.0)) (sym (none_listed c.self.inside.count c.self.inside.bytes c.self.invariant c.args.at c.if-at-self.true) ∙ ap (λ pairs. slice_get pairs c.args.at) c.self.view_is)

pub returns : goal.returns
returns c =
    simp (take_rest, c.as_slice-bytes.ensures) at c.number_in.ensures
    ∙ number_listed c.self.inside.count c.self.inside.bytes c.self.invariant c.args.at c.if-at-self.false ∙ ap (λ pairs. option_map (λ (p : ℤ × List ℕ). p.0) (slice_get pairs c.args.at)) c.self.view_is
