use Rattle.std.proofs.Common.{◌≡◌, ◌++◌, drop}
use Rattle.archive_merge.specs.Facts.{facts_about}
use Rattle.archive_merge.proofs.facts.push_facts.Given as goal

abbrev pub invariant-loop-set : goal.invariant-loop-set
invariant-loop-set l = l.metrics ++ facts_about l.meta (drop l.set-index l.sets) ≡ l.fn.metrics ++ facts_about l.meta l.sets
