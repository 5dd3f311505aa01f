-- The status tells whether the sink has failed.
use Rattle.std.proofs.Common.{true, false, refl, subst}
use Rattle.pcp_outside.specs.Sides.{sink_side}
use Rattle.pm_words.specs.Streams.{Sends}
use Rattle.pm_words.proofs.output.finish.Goals as goal

pub returns-then-gone : goal.returns-then-gone
returns-then-gone g c = (true, subst (Sends (sink_side g.O.Sink c.args.out.now c.send-gone.new.out) c.args.failed c.args.piece.now) c.if-gone.true c.send-gone.ensures, refl)

pub returns : goal.returns
returns g c = (false, subst (Sends (sink_side g.O.Sink c.args.out.now c.send-gone.new.out) c.args.failed c.args.piece.now) c.if-gone.false c.send-gone.ensures, refl)
