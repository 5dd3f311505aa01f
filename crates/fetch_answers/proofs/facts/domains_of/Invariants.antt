-- The domains so far.
use Rattle.std.proofs.Common.{◌≡◌, take}
use Rattle.fetch_answers.specs.Answers.{domains_of}
use Rattle.fetch_answers.proofs.facts.domains_of.Given as goal

abbrev pub invariant-loop-fact : goal.invariant-loop-fact
invariant-loop-fact l = l.indoms.keys ≡ domains_of (take l.fact-index l.metrics)
