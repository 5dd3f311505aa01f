use Rattle.std.proofs.Common.{sym, ◌∙◌}
use Rattle.std.specs.Iterator.Adapters.{zip_first, zip_second}
use Rattle.std.specs.Slice.Iter.{iter_rest}
use Rattle.std.proofs.lemmas.Slice.Zip.{either_empty_from_Zip}
use Rattle.pmcd_client.proofs.Matching.{metrics_end}
use Rattle.pmcd_client.proofs.metrics.metrics_named.Goals as goal

pub returns : goal.returns
returns c =
    let ends = either_empty_from_Zip c.loop-pmid.pmid-iterator c.next.new.self c.next.result c.in-None.is c.next.ensures.steps in
    record { metrics = sym (metrics_end c.loop-pmid.metrics.items (iter_rest (zip_first c.loop-pmid.pmid-iterator)) (iter_rest (zip_second c.loop-pmid.pmid-iterator)) ends) ∙ c.loop-pmid.invariant }
