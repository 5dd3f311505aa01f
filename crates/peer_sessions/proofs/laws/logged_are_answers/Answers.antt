use Rattle.pcp_outside.specs.Sides.{clock_side, sink_side, source_side}
use Rattle.pm_pulling.specs.Ends.{call_side}
use Rattle.pm_pulling.specs.Pulling.{pull_side}
use Rattle.peer_sessions.proofs.Whole.{logged_are_answers}
use Rattle.peer_sessions.proofs.laws.logged_are_answers.Goals as goal

pub returns : goal.returns
returns g c = λ words a b x y m n e f o p k l.
    logged_are_answers (call_side words (pull_side (source_side g.P.Source a b) (sink_side g.Q.Sink x y) g.D.Disk m n)) (source_side g.I.Source e f) (sink_side g.O.Sink o p) (clock_side g.C.Clock k l)
