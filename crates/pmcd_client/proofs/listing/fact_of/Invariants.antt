use Rattle.std.proofs.Common.{◌≡◌, drop}
use Rattle.archive_meta.specs.Facts.{fact_of}
use Rattle.pmcd_client.proofs.listing.fact_of.Given as goal

abbrev pub invariant-loop-metric : goal.invariant-loop-metric
invariant-loop-metric l = fact_of (drop l.metric-index l.metrics) l.pmid ≡ fact_of l.metrics l.pmid
