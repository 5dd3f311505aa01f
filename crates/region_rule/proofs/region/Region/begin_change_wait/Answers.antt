use Rattle.std.proofs.Common.{ℕ, List, ◌≤◌, inr, suc, length, ◌∙◌, subst}
use Rattle.region_rule.specs.declared.fault.ChangeFault.{ChangeFault}
use Rattle.region_rule.specs.Changes.{Fails}
use Rattle.region_rule.proofs.region.Region.begin_change_wait.Goals as goal

pub loop-preserved : goal.loop-preserved
loop-preserved g c =
    let i = c.loop.invariant in
    let e = c.in-Err-default-default-Busy.ensures in
    let begins = e.begins in
    let fails = subst (λ (fault : ChangeFault). Fails g.S.Shape.shaping c.loop.waiting.view (length c.args.self.now.words) c.loop.kept.items c.in-Err-default-default-Busy.back.view fault) c.in-Err-default-default-Busy.field-0-2-is begins in (
      tt,
      tt,
      e.stays.0.region ∙ i.2,
      e.stays.0.number ∙ i.3,
      e.stays.1 ∙ i.4,
      (suc i.5.0, (c.loop.waiting.view, c.in-Err-default-default-Busy.field-0-2-0, i.5.1, fails.1, fails.2), inr (subst (λ (items : List ℕ). length items ≤ length c.args.self.now.words) i.4 fails.0)),
    )
