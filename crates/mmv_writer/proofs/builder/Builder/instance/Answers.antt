-- A refused row leaves the draft.
use Rattle.std.proofs.Common.{◌∙◌, ap, sym, w32, to_z, of_z}
use Rattle.mmv_writer.specs.Rules.{instance_fault}
use Rattle.mmv_writer.proofs.Drafts.{instance_rules}
use Rattle.mmv_writer.proofs.builder.Builder.instance.Goals as goal

pub add_instance-requires-clause-new : goal.add_instance-requires-clause-new
add_instance-requires-clause-new c =
    (instance_rules c.self.inside.layout c.args.serial (to_z w32 (of_z w32 c.args.id)) c.args.name
    (ap (λ l. instance_fault l c.args.serial (to_z w32 (of_z w32 c.args.id)) c.args.name) c.self.view_is ∙ sym c.instance_fault.ensures.value ∙ c.in_default.is)).1

pub invariant_of-self : goal.invariant_of-self
invariant_of-self c = (rw c.in_err-add_instance.ensures.err c.self.invariant.0, record { domains = c.in_err-add_instance.ensures.keys; items = c.self.invariant.1.items; names = c.self.invariant.1.names; values = c.self.invariant.1.values })
