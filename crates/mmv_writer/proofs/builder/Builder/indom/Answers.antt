-- A refused row leaves the draft.
use Rattle.std.proofs.Common.{◌∙◌, ap, sym}
use Rattle.mmv_writer.specs.Rules.{has_domain}
use Rattle.mmv_writer.proofs.Drafts.{indom_rules}
use Rattle.mmv_writer.proofs.builder.Builder.indom.Goals as goal

pub add_domain-requires-clause-new : goal.add_domain-requires-clause-new
add_domain-requires-clause-new c =
    ap (λ l. has_domain l.indoms c.args.serial) c.self.view_is ∙ (indom_rules c.args.self.now _ (sym c.indom_fault.ensures.value ∙ c.in_default.is)).1

pub invariant_of-self : goal.invariant_of-self
invariant_of-self c = (rw c.in_err-add_domain.ensures.err c.self.invariant.0, record { domains = c.in_err-add_domain.ensures.keys; items = c.self.invariant.1.items; names = c.self.invariant.1.names; values = c.self.invariant.1.values })
