-- The metrics and the domains stand, and nothing misfits.
use Rattle.std.proofs.Common.{ℕ, List, sym, subst, ◌∙◌}
use Rattle.std.specs.List.{AllByRecursion}
use Rattle.pcp_base.specs.declared.desc.Desc.{Desc}
use Rattle.archive_merge.specs.Kept.{AreMetricsOf, IsListed}
use Rattle.archive_merge.proofs.Again.{facts_stand, nothing_misfits}
use Rattle.archive_merge.proofs.kept.SourceFacts.describes.Goals as goal

pub returns-in-None-clause-misfit : goal.returns-in-None-clause-misfit
returns-in-None-clause-misfit c = λ _.
    let a = c.self.inside in
    let metrics = subst (λ (ms : List (Desc × List ℕ)). AreMetricsOf ms a.count c.args.first.now c.args.second.now c.args.t c.args.ours.now c.args.theirs.now) c.as_slice-metrics.ensures (c.are_metrics_of.ensures c.if-not-are_metrics_of.false) in
    nothing_misfits a.facts a.count a.ours a.theirs c.args.first.now c.args.second.now c.args.t c.args.ours.now c.args.theirs.now c.self.invariant metrics (sym c.first_clash.ensures ∙ c.in-None.is)

pub returns-in-None-clause-facts : goal.returns-in-None-clause-facts
returns-in-None-clause-facts c = λ _.
    let a = c.self.inside in
    let metrics = subst (λ (ms : List (Desc × List ℕ)). AreMetricsOf ms a.count c.args.first.now c.args.second.now c.args.t c.args.ours.now c.args.theirs.now) c.as_slice-metrics.ensures (c.are_metrics_of.ensures c.if-not-are_metrics_of.false) in
    let all = subst (AllByRecursion (IsListed c.args.first.now c.args.second.now c.args.t a.ours.keys a.theirs.keys)) c.as_slice-domains.ensures (c.are_all_listed.ensures c.if-not-are_all_listed.false) in
    sym c.self.view_is ∙ facts_stand a.facts a.count a.ours a.theirs c.args.first.now c.args.second.now c.args.t c.args.ours.now c.args.theirs.now c.self.invariant metrics all
