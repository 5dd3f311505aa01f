use Rattle.std.proofs.Common.{◌∙◌, refl}
use Rattle.region_example.proofs.Adds.{change_none, image_none}
use Rattle.region_example.proofs.layout.add_errors.Goals as goal

pub returns-then-is_some-clause-adds_none : goal.returns-then-is_some-clause-adds_none
returns-then-is_some-clause-adds_none g c = (image_none c.args.passes.0.view c.read_image.new.pass.view c.in_ok-image.image c.in_ok-image.ensures.reads, refl)

pub returns-in-Ok-clause-adds_none : goal.returns-in-Ok-clause-adds_none
returns-in-Ok-clause-adds_none g c = (
  change_none c.read_image.new.pass.view c.finish.result.view _ _ _ c.in-Ok.change c.in-Ok.ensures.begins c.finish.ensures.finishes
      ∙ image_none c.args.passes.0.view c.read_image.new.pass.view c.in_ok-image.image c.in_ok-image.ensures.reads,
  refl,
)
