use Rattle.pcp_outside.specs.Sides.{clock_side, sink_side, source_side}
use Rattle.peer_sessions.proofs.Whole.{samples_are_answers}
use Rattle.peer_sessions.proofs.laws.samples_are_answers.Goals as goal

pub returns : goal.returns
returns g c = λ a b x y e f o p k l.
    samples_are_answers (source_side g.P.Source a b) (sink_side g.Q.Sink x y) (source_side g.I.Source e f) (sink_side g.O.Sink o p) (clock_side g.C.Clock k l)
