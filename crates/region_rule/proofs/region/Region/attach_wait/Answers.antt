use Rattle.std.proofs.Common.{suc, ◌∙◌}
use Rattle.region_rule.proofs.region.Region.attach_wait.Goals as goal

pub loop-preserved : goal.loop-preserved
loop-preserved g c =
    let i = c.loop.invariant in
    let e = c.in-Err.ensures in (
      tt,
      tt,
      e.stays.region ∙ i.2,
      e.stays.number ∙ i.3,
      (suc i.4.0, (c.loop.waiting.view, _, i.4.1, e.attaches)),
    )
