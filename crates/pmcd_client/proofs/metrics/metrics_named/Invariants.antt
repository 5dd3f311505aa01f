use Rattle.std.proofs.Common.{◌≡◌}
use Rattle.std.specs.Iterator.Adapters.{zip_first, zip_second}
use Rattle.std.specs.Slice.Iter.{iter_rest}
use Rattle.pmcd_client.specs.Replies.{metrics_behind, metrics_named}
use Rattle.pmcd_client.proofs.metrics.metrics_named.Given as goal

abbrev pub invariant-loop-pmid : goal.invariant-loop-pmid
invariant-loop-pmid l = metrics_behind l.metrics.items (iter_rest (zip_first l.pmid-iterator)) (iter_rest (zip_second l.pmid-iterator)) ≡ metrics_named l.pmids l.names
