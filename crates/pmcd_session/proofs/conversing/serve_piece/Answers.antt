use Rattle.std.proofs.Common.{ℕ, List, refl, subst, []}
use Rattle.pmcd_session.specs.Pieces.{StopsWithin}
use Rattle.pmcd_session.specs.Serving.{DoesAll}
use Rattle.pmcd_session.proofs.Quiet.{quiet_all}
use Rattle.pmcd_session.proofs.Steps.{ends_unserved, goes_served}
use Rattle.pmcd_session.proofs.Stops.{ends_within}
use Rattle.pmcd_session.proofs.Writings.{all_in, none_written, stream_end_other}
use Rattle.pmcd_session.proofs.conversing.serve_piece.Goals as goal

pub returns-in-Err-clause-done : goal.returns-in-Err-clause-done
returns-in-Err-clause-done g c = (
  [],
  [],
  (λ tells. refl),
  (λ tells. none_written c.in-Err.end (g.O.Sink.written c.args.out.now) (stream_end_other c.in-Err.end c.in-Err.ensures.ends)),
  ends_unserved (Unit {0}) (g.A.Agent.reads c.args.regions.now) (g.A.Agent.loads c.args.regions.now) c.args.piece.now c.args.stream.now c.whole_pdus.new.stream c.args.s.now c.in-Err.end c.in-Err.ensures.brings,
)

pub returns-in-Ok-serve_all-clause-done : goal.returns-in-Ok-serve_all-clause-done
returns-in-Ok-serve_all-clause-done g c =
    let d = c.in-Ok-serve_all.ensures.done in
    let reads = g.A.Agent.reads c.args.regions.now in (
      d.0,
      d.1,
      d.2,
      (λ tells. all_in c.go_on.result (g.O.Sink.written c.args.out.now) (g.O.Sink.written c.serve_all.new.out) d.1 c.go_on.ensures.ends (d.3 tells)),
      goes_served reads (g.A.Agent.loads c.args.regions.now) c.args.piece.now c.in-Ok.pdus d.0 d.1 c.args.stream.now c.whole_pdus.new.stream c.go_on.new.stream c.args.s.now c.serve_all.new.s c.go_on.result
          c.in-Ok.ensures.brings
          (subst (λ (x : List (List ℕ)). DoesAll reads c.args.s.now x (record { moments = d.0; written = d.1; after = c.serve_all.new.s })) c.as_slice.ensures d.4)
          c.go_on.ensures.stays,
    )

pub returns-clause-done : goal.returns-clause-done
returns-clause-done g c =
    let d = c.in-Err-serve_all.ensures.done in
    let reads = g.A.Agent.reads c.args.regions.now in
    let loads = g.A.Agent.loads c.args.regions.now in (
      d.0,
      d.1,
      d.2,
      d.3,
      ends_within (Unit {0}) reads loads c.args.piece.now c.in-Ok.pdus d.0 d.1 c.args.stream.now c.whole_pdus.new.stream c.args.s.now c.serve_all.new.s c.in-Err-serve_all.end c.in-Ok.ensures.brings
          (subst (λ (x : List (List ℕ)). StopsWithin reads loads c.args.s.now x d.0 d.1 c.serve_all.new.s c.in-Err-serve_all.end) c.as_slice.ensures d.4),
    )

pub returns-in-Ok-serve_all-clause-quiet : goal.returns-in-Ok-serve_all-clause-quiet
returns-in-Ok-serve_all-clause-quiet g c =
    let q = c.in-Ok-serve_all.ensures.quiet in
    quiet_all c.go_on.result (g.C.Clock.faults c.args.clock.now) (g.C.Clock.faults c.serve_all.new.clock) (g.O.Sink.faults c.args.out.now) (g.O.Sink.faults c.serve_all.new.out) q.0 q.1
