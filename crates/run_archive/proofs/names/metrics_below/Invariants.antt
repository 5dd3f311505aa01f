-- Those of the pairs so far.
use Rattle.std.proofs.Common.{◌≡◌, map, take}
use Rattle.run_archive.proofs.names.metrics_below.Given as goal

abbrev pub invariant-loop-pmid : goal.invariant-loop-pmid
invariant-loop-pmid l = l.pmids ≡ map (λ pair. pair.1) (take l.pmid-index l.pmid-items)
