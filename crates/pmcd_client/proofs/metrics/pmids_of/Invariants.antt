use Rattle.std.proofs.Common.{◌≡◌, map, take}
use Rattle.pmcd_client.proofs.metrics.pmids_of.Given as goal

abbrev pub invariant-loop-pmid : goal.invariant-loop-pmid
invariant-loop-pmid l = l.pmids ≡ map (λ m. m.0) (take l.pmid-index l.metrics)
