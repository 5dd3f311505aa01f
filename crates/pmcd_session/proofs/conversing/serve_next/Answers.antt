use Rattle.std.proofs.Common.{rules, ◌≡◌, ℕ, ◌≤◌, take, length, refl, sym, arith}
use Rattle.std.proofs.lemmas.List.{append-nil, length-take-le}
use Rattle.pmcd_session.proofs.Talking.{nothing, ends_at_end, ends_at_fault, none_came}
use Rattle.pmcd_session.proofs.Writings.{input_end_other, none_written}
use Rattle.pmcd_session.proofs.conversing.serve_next.Goals as goal

pub returns-in-Err-clause-done : goal.returns-in-Err-clause-done
returns-in-Err-clause-done g c = (
  nothing,
  record {
    took = λ tells. sym (c.in-Err.ensures.bytes tells);
    asked = λ tells. refl;
    wrote = λ tells. sym (append-nil (g.O.Sink.written c.args.out.now));
  },
  ends_at_fault ℕ (g.A.Agent.reads c.args.regions.now) (g.A.Agent.loads c.args.regions.now) c.args.stream.now c.args.s.now,
  omega arith,
  tt,
)

pub returns-then-count-eq0-clause-done : goal.returns-then-count-eq0-clause-done
returns-then-count-eq0-clause-done g c = (
  nothing,
  record {
    took = λ tells. none_came c.in-Ok.count c.take.new.buffer (g.I.Source.left c.args.input.now) (g.I.Source.left c.take.new.self) c.if-count-eq0.true (c.in-Ok.ensures.bytes tells).next;
    asked = λ tells. refl;
    wrote = λ tells. none_written c.end_of_input.result (g.O.Sink.written c.args.out.now) (input_end_other c.pending.result c.end_of_input.result c.end_of_input.ensures);
  },
  ends_at_end ℕ (g.A.Agent.reads c.args.regions.now) (g.A.Agent.loads c.args.regions.now) c.args.stream.now c.args.s.now c.pending.result c.end_of_input.result c.pending.ensures c.end_of_input.ensures,
  omega arith,
  tt,
)

pub returns-in-Ok-serve_piece-clause-done : goal.returns-in-Ok-serve_piece-clause-done
returns-in-Ok-serve_piece-clause-done g c =
    let d = c.in-Ok-serve_piece.ensures.done in
    let few : c.in-Ok.count ≤ length c.args.buffer.now = c.in-Ok.ensures.within in
    let same : length c.take.new.buffer ≡ length c.args.buffer.now = search rules in
    let long : length (take c.in-Ok.count c.take.new.buffer) ≡ c.in-Ok.count = length-take-le c.in-Ok.count c.take.new.buffer (omega (arith, few, same)) in (
      record { taken = take c.in-Ok.count c.take.new.buffer; moments = d.0; bytes = d.1 },
      record { took = λ tells. (c.in-Ok.ensures.bytes tells).next; asked = d.2; wrote = d.3 },
      d.4,
      omega (arith, long, few),
      (sym long, omega (arith, c.if-count-eq0.false)),
    )

pub returns-in-Err-serve_piece-clause-done : goal.returns-in-Err-serve_piece-clause-done
returns-in-Err-serve_piece-clause-done g c =
    let d = c.in-Err-serve_piece.ensures.done in
    let few : c.in-Ok.count ≤ length c.args.buffer.now = c.in-Ok.ensures.within in
    let same : length c.take.new.buffer ≡ length c.args.buffer.now = search rules in
    let long : length (take c.in-Ok.count c.take.new.buffer) ≡ c.in-Ok.count = length-take-le c.in-Ok.count c.take.new.buffer (omega (arith, few, same)) in (
      record { taken = take c.in-Ok.count c.take.new.buffer; moments = d.0; bytes = d.1 },
      record { took = λ tells. (c.in-Ok.ensures.bytes tells).next; asked = d.2; wrote = d.3 },
      d.4,
      omega (arith, long, few),
      tt,
    )

pub returns-in-Err-clause-still : goal.returns-in-Err-clause-still
returns-in-Err-clause-still g c = record { source_still = λ other. absurd (other refl); sink_still = λ other. refl; clock_still = λ other. refl }

pub returns-then-count-eq0-clause-still : goal.returns-then-count-eq0-clause-still
returns-then-count-eq0-clause-still g c = record { source_still = λ other. c.in-Ok.ensures.quiet; sink_still = λ other. refl; clock_still = λ other. refl }

pub returns-in-Ok-serve_piece-clause-quiet : goal.returns-in-Ok-serve_piece-clause-quiet
returns-in-Ok-serve_piece-clause-quiet g c =
    let q = c.in-Ok-serve_piece.ensures.quiet in
    record { source_stands = c.in-Ok.ensures.quiet; sink_stands = q.1; clock_stands = q.0 }

pub returns-in-Err-serve_piece-clause-still : goal.returns-in-Err-serve_piece-clause-still
returns-in-Err-serve_piece-clause-still g c =
    let q = c.in-Err-serve_piece.ensures.quiet in
    record { source_still = λ other. c.in-Ok.ensures.quiet; sink_still = q.1; clock_still = q.0 }
