-- A refused row leaves the draft.
use Rattle.std.proofs.Common.{◌∙◌, ap, sym, refl}
use Rattle.mmv_writer.specs.Rules.{metric_fault}
use Rattle.mmv_writer.specs.Draft.{with_metric}
use Rattle.mmv_writer.proofs.Drafts.{metric_rules, metric_added}
use Rattle.mmv_writer.proofs.builder.Builder.metric.Goals as goal

pub add_metric-requires-clause-new : goal.add_metric-requires-clause-new
add_metric-requires-clause-new c = (metric_rules c.self.inside.layout c.args.row (ap (λ l. metric_fault l c.args.row) c.self.view_is ∙ sym c.metric_fault.ensures.value ∙ c.in_default.is)).1

pub invariant_of-self : goal.invariant_of-self
invariant_of-self c = (rw c.in_err-add_metric.ensures.err c.self.invariant.0, record { domains = c.self.invariant.1.domains; items = c.in_err-add_metric.ensures.keys; names = c.in_err-add_metric.ensures.names; values = c.self.invariant.1.values })

pub invariant_of-self-2 : goal.invariant_of-self-2
unfolding with_metric
invariant_of-self-2 c = (
  rw c.in_ok-add_metric.ensures.ok
      (metric_added c.self.inside.layout c.args.row c.self.invariant.0 (ap (λ l. metric_fault l c.args.row) c.self.view_is ∙ sym c.in_default.ensures.value) c.in_default.ensures.units c.in_default.ensures.stored (c.in_default.ensures.helps refl)),
  record { domains = c.self.invariant.1.domains; items = c.in_ok-add_metric.ensures.keys; names = c.in_ok-add_metric.ensures.names; values = c.self.invariant.1.values },
)
