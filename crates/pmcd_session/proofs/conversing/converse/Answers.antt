use Rattle.std.proofs.Common.{false, refl, ◌∙◌}
use Rattle.pmcd_session.proofs.Talks.{never_talks, renewed, room_fits, room_small, talks_at_first, talks_end, talks_enough, talks_on}
use Rattle.pmcd_session.proofs.conversing.converse.Goals as goal

pub returns-in-Err-clause-runs : goal.returns-in-Err-clause-runs
returns-in-Err-clause-runs g c =
    never_talks (g.A.Agent.reads c.args.regions.now) (g.A.Agent.loads c.args.regions.now) g.I.Source g.O.Sink g.C.Clock c.args.s.now.agent c.args.input.now c.args.out.now c.greet.new.out c.args.clock.now c.in-Err.end c.in-Err.ensures.ends c.in-Err.ensures.written

pub loop-taken-init : goal.loop-taken-init
loop-taken-init g c = record {
  talks =
      talks_at_first (g.A.Agent.reads c.args.regions.now) g.I.Source g.O.Sink g.C.Clock c.args.s.now.agent c.args.input.now c.args.out.now c.greet.new.out c.args.clock.now c.new-stream.result
      (record { is_met = false; contexts = c.renew.new.self; agent = c.args.s.now.agent }) (renewed c.args.s.now.agent c.renew.new.self c.renew.ensures) c.new-stream.ensures c.in_default.ensures.written c.greet.ensures.later;
  stand = record { source_stands = refl; sink_stands = c.in_default.ensures.quiet; clock_stands = refl };
  here = c.requires.here;
}

pub loop-taken-preserved : goal.loop-taken-preserved
loop-taken-preserved g c =
    let i = c.loop-taken.invariant in
    let d = c.in-Ok.ensures.done in
    record {
      talks =
          talks_on (g.A.Agent.reads c.args.regions.now) (g.A.Agent.loads c.args.regions.now) g.I.Source g.O.Sink g.C.Clock c.args.s.now.agent c.args.input.now c.loop-taken.input c.serve_next.new.input
          c.args.out.now c.loop-taken.out c.serve_next.new.out c.args.clock.now c.loop-taken.clock c.serve_next.new.clock c.loop-taken.taken c.in-Ok.count _ c.loop-taken.stream c.serve_next.new.stream c.loop-taken.s c.serve_next.new.s d.0
          i.talks c.loop-taken-test.true (room_fits c.loop-taken.taken c.min-room.result c.loop-taken.buffer c.min-room.ensures) (room_small c.loop-taken.taken c.min-room.result c.loop-taken.buffer c.min-room.ensures) d.1 d.2 d.3 d.4.0 c.serve_next.ensures.later;
      stand =
          let q = c.in-Ok.ensures.quiet in
          record { source_stands = q.source_stands ∙ i.stand.source_stands; sink_stands = q.sink_stands ∙ i.stand.sink_stands; clock_stands = q.clock_stands ∙ i.stand.clock_stands };
      here = c.serve_next.ensures.here;
    }

pub returns-in-Err-serve_next-clause-runs : goal.returns-in-Err-serve_next-clause-runs
returns-in-Err-serve_next-clause-runs g c =
    let i = c.loop-taken.invariant in
    let d = c.in-Err-serve_next.ensures.done in
    talks_end (g.A.Agent.reads c.args.regions.now) (g.A.Agent.loads c.args.regions.now) g.I.Source g.O.Sink g.C.Clock c.args.s.now.agent c.args.input.now c.loop-taken.input c.serve_next.new.input
    c.args.out.now c.loop-taken.out c.serve_next.new.out c.args.clock.now c.loop-taken.clock c.serve_next.new.clock c.loop-taken.taken _ c.loop-taken.stream c.serve_next.new.stream c.loop-taken.s c.serve_next.new.s d.0 c.in-Err-serve_next.end
    i.talks c.loop-taken-test.true (room_fits c.loop-taken.taken c.min-room.result c.loop-taken.buffer c.min-room.ensures) (room_small c.loop-taken.taken c.min-room.result c.loop-taken.buffer c.min-room.ensures) d.1 d.2 d.3

pub returns-clause-runs : goal.returns-clause-runs
returns-clause-runs g c =
    talks_enough (g.A.Agent.reads c.args.regions.now) (g.A.Agent.loads c.args.regions.now) g.I.Source g.O.Sink g.C.Clock c.args.s.now.agent c.args.input.now c.loop-taken.input
    c.args.out.now c.loop-taken.out c.args.clock.now c.loop-taken.clock c.loop-taken.taken c.loop-taken.stream c.loop-taken.s c.loop-taken.invariant.talks c.loop-taken-test.false

pub returns-in-Err-clause-still : goal.returns-in-Err-clause-still
returns-in-Err-clause-still g c = record { source_still = λ other. refl; sink_still = c.in-Err.ensures.still; clock_still = λ other. refl }

pub returns-in-Err-serve_next-clause-still : goal.returns-in-Err-serve_next-clause-still
returns-in-Err-serve_next-clause-still g c =
    let stand = c.loop-taken.invariant.stand in
    let q = c.in-Err-serve_next.ensures.still in
    record {
      source_still = λ other. q.source_still other ∙ stand.source_stands;
      sink_still = λ other. q.sink_still other ∙ stand.sink_stands;
      clock_still = λ other. q.clock_still other ∙ stand.clock_stands;
    }

pub returns-clause-still : goal.returns-clause-still
returns-clause-still g c =
    let stand = c.loop-taken.invariant.stand in
    record { source_still = λ other. stand.source_stands; sink_still = λ other. stand.sink_stands; clock_still = λ other. stand.clock_stands }
