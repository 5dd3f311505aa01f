-- Where the sink had failed before nothing is written; else what `write_all` wrote.
use Rattle.std.proofs.Common.{true, false, refl, sym, subst, arith, rules}
use Rattle.pcp_outside.specs.Sides.{sink_side}
use Rattle.pm_words.specs.Streams.{Sends}
use Rattle.pm_words.proofs.Sending.{not_well, taken_front}
use Rattle.pm_words.proofs.output.send.Goals as goal

pub returns-then-failed : goal.returns-then-failed
returns-then-failed g c = subst (λ f. Sends (sink_side g.O.Sink c.args.out.now c.args.out.now) f c.args.piece.now true) (sym c.if-failed.true) (refl, omega arith, λ tells. refl)

pub returns-in-Ok : goal.returns-in-Ok
returns-in-Ok g c = subst (λ f. Sends (sink_side g.O.Sink c.args.out.now c.write_all.new.out) f c.args.piece.now false) (sym c.if-failed.false) (record {
  later = c.write_all.ensures.cause.later;
  quiet = λ well. c.in-Ok.ensures.quiet;
  given = λ tells. c.in-Ok.ensures.bytes tells;
})

pub returns-in-Err : goal.returns-in-Err
returns-in-Err g c = subst (λ f. Sends (sink_side g.O.Sink c.args.out.now c.write_all.new.out) f c.args.piece.now true) (sym c.if-failed.false) (record {
  later = c.write_all.ensures.cause.later;
  quiet = λ well. not_well well;
  given = (c.in-Err.ensures.cause.failed (search rules), λ tells. let b = c.in-Err.ensures.bytes tells in (_, taken_front b.0 c.args.piece.now, b.1));
})
