-- The metric at the item's place is its metric.
use Rattle.std.proofs.Common.{rules, ◌≡◌, ℕ, List, Some, ap, ◌∙◌, subst}
use Rattle.std.specs.Prelude.{slice_get}
use Rattle.std.specs.BTreeMap.{get}
use Rattle.std.specs.Option.{option_copied}
use Rattle.std.specs.Ordering.{nat_cmp}
use Rattle.mmv_layout.specs.declared.rows.MetricRow.{MetricRow}
use Rattle.mmv_layout.specs.Rows.{layout_of}
use Rattle.fetch_answers.specs.Answers.{metric_with}
use Rattle.fetch_answers.proofs.Numbers.{metric_fits, metric_told}
use Rattle.fetch_answers.proofs.told.Told.metric.Goals as goal

pub returns-in-Some-clause-value : goal.returns-in-Some-clause-value
returns-in-Some-clause-value c =
    let there : get nat_cmp c.self.inside.places c.args.item ≡ Some c.in-Some.place.now = search rules in
    let is : option_copied c.metric_at.result ≡ slice_get c.self.inside.metrics c.in-Some.place.now =
    c.metric_at.ensures ∙ ap (λ (rows : List MetricRow). slice_get rows c.in-Some.place.now) c.as_slice.ensures in
    let told = metric_told c.self.inside.words.items c.args.item c.self.inside.metrics c.self.inside.places c.in-Some.place.now (option_copied c.metric_at.result) c.self.invariant.metrics_are
    c.self.invariant.places_by_item there is in
    subst (λ (words : List ℕ). option_copied c.metric_at.result ≡ metric_with c.args.item (layout_of words).metrics) c.self.view_is told

pub returns-in-Some-clause-fits : goal.returns-in-Some-clause-fits
returns-in-Some-clause-fits c =
    let there : get nat_cmp c.self.inside.places c.args.item ≡ Some c.in-Some.place.now = search rules in
    let is : option_copied c.metric_at.result ≡ slice_get c.self.inside.metrics c.in-Some.place.now =
    c.metric_at.ensures ∙ ap (λ (rows : List MetricRow). slice_get rows c.in-Some.place.now) c.as_slice.ensures in
    metric_fits c.self.inside.words.items c.args.item (option_copied c.metric_at.result) c.self.invariant.image
    (metric_told c.self.inside.words.items c.args.item c.self.inside.metrics c.self.inside.places c.in-Some.place.now (option_copied c.metric_at.result) c.self.invariant.metrics_are c.self.invariant.places_by_item there is)
