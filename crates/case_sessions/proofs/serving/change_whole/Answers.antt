-- The change is of the region that its pass is of.
use Rattle.std.proofs.Common.{◌∙◌}
use Rattle.case_sessions.proofs.Fresh.{one_region}
use Rattle.case_sessions.proofs.serving.change_whole.Goals as goal

pub finish-pass-requires : goal.finish-pass-requires
finish-pass-requires c = record {
  here = c.in-Ok.ensures.stays.region ∙ one_region c.args.server.now c.args.changer.at c.args.changer.pass.region c.in-Some.region.now c.requires.changer c.in-Some.ensures;
}
