use Rattle.std.proofs.Common.{◌∙◌, length-drop, arith}
use Rattle.pcp_outside.proofs.Runs.{writes_on}
use Rattle.pcp_outside.proofs.streams.write_all.Goals as goal

pub loop-done-preserved : goal.loop-done-preserved
loop-done-preserved g c =
    let o = g.O.Sink in
    let piece = c.args.bytes.now in
    let done = c.loop-done.done in
    record {
      within = omega (arith, length-drop done piece, c.in_ok-done.ensures.within);
      so_far = λ tells. writes_on (o.written c.args.out.now) (o.written c.loop-done.out) (o.written c.put.new.self) piece done c.in_ok-done.field-0 (c.loop-done.invariant.so_far tells) (c.in_ok-done.ensures.bytes tells);
      quiet = c.in_ok-done.ensures.quiet ∙ c.loop-done.invariant.quiet;
    }
