use Rattle.std.proofs.Common.{◌∙◌, ap}
use Rattle.region_rule.specs.Seats.{MadeRegion}
use Rattle.region_example.proofs.End.{shows_all}
use Rattle.region_example.proofs.layout.last_image.Goals as goal

pub returns : goal.returns
returns c = record {
  shows = shows_all c.args.passes.0.view c.args.passes.1.view c.gather.new.self.view c.read_image.new.pass.view c.in_ok-read_image.field-0
      (c.gather.ensures.stays.before.passes_are ∙ ap (λ (r : MadeRegion). r.passes) c.requires.here.0 ∙ c.requires.here.2) c.requires.here.3 c.requires.here.4 c.gather.ensures.gathers c.in_ok-read_image.ensures.reads;
}
