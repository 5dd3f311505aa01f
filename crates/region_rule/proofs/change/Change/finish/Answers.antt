use Rattle.std.proofs.Common.{◌<◌, ◌∙◌, arith}
use Rattle.region_rule.specs.Changes.{left_of}
use Rattle.region_rule.proofs.Finishing.{continues_step}
use Rattle.region_rule.proofs.change.Change.finish.Goals as goal

pub loop-change-preserved : goal.loop-change-preserved
loop-change-preserved g c =
    let old = c.loop-change.change in
    let new = c.step.new.self in
    let i = c.loop-change.invariant in
    let e = c.step.ensures in
    let some_left : 0 < left_of old = omega (arith, c.loop-change-test.true, c.left.ensures) in (
      e.stays.region ∙ i.0,
      e.stays.number ∙ i.1,
      e.stores.generation ∙ i.2,
      continues_step g.S.Shape.shaping c.args.self old new some_left e.stores i.3,
    )
