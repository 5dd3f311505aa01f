use Rattle.std.proofs.Common.{◌≡◌, ◌++◌, map}
use Rattle.archive_merge.specs.Facts.{domain_facts}
use Rattle.archive_merge.proofs.facts.domain_facts.Given as goal

abbrev pub invariant-loop-indom : goal.invariant-loop-indom
invariant-loop-indom l = l.domains ++ map (domain_facts l.first l.second l.t l.ours.keys l.theirs.keys) l.indom-iterator ≡ map (domain_facts l.first l.second l.t l.ours.keys l.theirs.keys) l.all.keys
