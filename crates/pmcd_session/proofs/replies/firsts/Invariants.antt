-- The first parts so far.
use Rattle.std.proofs.Common.{◌≡◌, take, map}
use Rattle.pmcd_session.proofs.replies.firsts.Given as goal

abbrev pub invariant-loop-name : goal.invariant-loop-name
invariant-loop-name g l = l.names ≡ map (λ pair. pair.0) (take l.name-index l.pairs)
