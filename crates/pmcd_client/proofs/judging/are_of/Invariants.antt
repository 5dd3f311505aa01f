use Rattle.std.proofs.Common.{◌≡◌, length}
use Rattle.std.specs.Prelude.{◌↔◌}
use Rattle.std.specs.Iterator.Adapters.{zip_first, zip_second}
use Rattle.std.specs.Slice.Iter.{iter_rest}
use Rattle.pmcd_client.specs.Turns.{pmids_of}
use Rattle.pmcd_client.proofs.judging.are_of.Given as goal

abbrev pub invariant-loop-set : goal.invariant-loop-set
invariant-loop-set l =
    (length (iter_rest (zip_first l.set-iterator)) ≡ length (iter_rest (zip_second l.set-iterator)))
    × ((pmids_of (iter_rest (zip_first l.set-iterator)) ≡ iter_rest (zip_second l.set-iterator)) ↔ (pmids_of l.sets ≡ l.pmids))
