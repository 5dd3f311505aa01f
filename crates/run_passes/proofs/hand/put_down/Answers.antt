use Rattle.std.proofs.Common.{refl}
use Rattle.run_passes.proofs.Acting.{no_region, put_by}
use Rattle.run_passes.proofs.hand.put_down.Goals as goal

pub unreachable-requires : goal.unreachable-requires
unreachable-requires c = no_region c.args.server.now c.args.at c.requires.there c.in_default-region.ensures

pub returns-in-Some : goal.returns-in-Some
returns-in-Some c = λ number mounted there is. put_by c.args.server.now c.args.at c.in-Some.region.now mounted number c.args.writer c.args.writer c.close.result refl c.in_default.not-Away c.in-Some.ensures there is c.close.ensures.idle c.close.ensures.same
