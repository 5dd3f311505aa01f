-- The names so far.
use Rattle.std.proofs.Common.{◌≡◌, take, map}
use Rattle.fetch_answers.specs.Names.{pair_of}
use Rattle.fetch_answers.proofs.pairs.pairs_of.Given as goal

abbrev pub invariant-loop-metric : goal.invariant-loop-metric
invariant-loop-metric l = l.pairs ≡ map (pair_of l.cluster l.file l.flags) (take l.metric-index l.metrics)
