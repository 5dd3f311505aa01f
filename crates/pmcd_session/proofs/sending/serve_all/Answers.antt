use Rattle.std.proofs.Common.{rules, ◌<◌, length, refl, sym, ap, ◌∙◌, append_assoc, arith, [], ◌++◌, take}
use Rattle.std.proofs.lemmas.List.{append-nil}
use Rattle.pmcd_session.proofs.Deeds.{none_done}
use Rattle.pmcd_session.proofs.Runs.{one_served, stops_at}
use Rattle.pmcd_session.proofs.Writings.{exactly, replies_of, written_behind}
use Rattle.pmcd_session.proofs.sending.serve_all.Goals as goal

pub loop-pdu-init : goal.loop-pdu-init
loop-pdu-init g c = record {
  moments = [];
  bytes = [];
  clock_told = λ tells. refl;
  sink_told = λ tells. sym (append-nil (g.O.Sink.written c.args.out.now));
  does = none_done (g.A.Agent.reads c.args.regions.now) c.args.s.now;
  clock_later = omega arith;
  sink_later = omega arith;
  clock_stands = refl;
  sink_stands = refl;
  here = c.requires.here;
}

pub loop-pdu-preserved : goal.loop-pdu-preserved
loop-pdu-preserved g c =
    let i = c.loop-pdu.invariant in
    let d = c.in-Ok.ensures.done in
    let below : c.loop-pdu.pdu-index < length c.args.pdus.now = search rules in
    let clock_on = c.in-Ok.ensures.later.0 in
    let sink_on = c.in-Ok.ensures.later.1 in
    let clock_before = i.clock_later in
    let sink_before = i.sink_later in
    record {
      moments = i.moments ++ d.0;
      bytes = i.bytes ++ d.1;
      clock_told = λ tells. i.clock_told tells ∙ ap (λ m. i.moments ++ m) (d.2 tells) ∙ sym (append_assoc i.moments d.0 (g.C.Clock.left c.serve_one.new.clock));
      sink_told = λ tells. exactly (g.O.Sink.written c.args.out.now) (g.O.Sink.written c.loop-pdu.out) (g.O.Sink.written c.serve_one.new.out) i.bytes d.1 (i.sink_told tells) (d.3 tells);
      does = one_served (g.A.Agent.reads c.args.regions.now) c.args.s.now c.loop-pdu.s c.serve_one.new.s c.args.pdus.now c.loop-pdu.pdu-index c.as_slice.result.now c.pdu-item.result i.moments d.0 i.bytes d.1
          below c.pdu-item.is c.as_slice.ensures i.does d.4;
      clock_later = omega arith;
      sink_later = omega arith;
      clock_stands = c.in-Ok.ensures.quiet.0 ∙ i.clock_stands;
      sink_stands = c.in-Ok.ensures.quiet.1 ∙ i.sink_stands;
      here = c.serve_one.ensures.here;
    }

pub returns-in-Err-clause-done : goal.returns-in-Err-clause-done
returns-in-Err-clause-done g c =
    let i = c.loop-pdu.invariant in
    let d = c.in-Err.ensures.done in
    let below : c.loop-pdu.pdu-index < length c.args.pdus.now = search rules in (
      i.moments ++ d.0,
      i.bytes ++ d.1,
      (λ tells. i.clock_told tells ∙ ap (λ m. i.moments ++ m) (d.2 tells) ∙ sym (append_assoc i.moments d.0 (g.C.Clock.left c.serve_one.new.clock))),
      (λ tells. written_behind c.in-Err.end (g.O.Sink.written c.args.out.now) (g.O.Sink.written c.loop-pdu.out) (g.O.Sink.written c.serve_one.new.out) i.bytes d.1
          (replies_of (g.A.Agent.reads c.args.regions.now) c.args.s.now (take c.loop-pdu.pdu-index c.args.pdus.now) (record { moments = i.moments; written = i.bytes; after = c.loop-pdu.s }) i.does) (i.sink_told tells) (d.3 tells)),
      stops_at (g.A.Agent.reads c.args.regions.now) (g.A.Agent.loads c.args.regions.now) c.args.s.now c.loop-pdu.s c.serve_one.new.s c.args.pdus.now c.loop-pdu.pdu-index c.as_slice.result.now c.pdu-item.result i.moments d.0 i.bytes d.1 c.in-Err.end
          below c.pdu-item.is c.as_slice.ensures i.does d.4,
    )

pub returns-in-Err-clause-quiet : goal.returns-in-Err-clause-quiet
returns-in-Err-clause-quiet g c =
    let i = c.loop-pdu.invariant in
    let q = c.in-Err.ensures.quiet in
    (λ other. q.0 other ∙ i.clock_stands, λ other. q.1 other ∙ i.sink_stands)
