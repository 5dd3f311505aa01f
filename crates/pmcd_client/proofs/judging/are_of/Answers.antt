use Rattle.std.proofs.Common.{◌≡◌, refl}
use Rattle.std.specs.Iterator.Adapters.{zip_first, zip_second}
use Rattle.std.specs.Slice.Iter.{iter_rest}
use Rattle.std.proofs.lemmas.Slice.Zip.{either_empty_from_Zip}
use Rattle.pmcd_client.specs.Turns.{pmids_of}
use Rattle.pmcd_client.proofs.Matching.{pmids_all}
use Rattle.pmcd_client.proofs.judging.are_of.Goals as goal

pub returns : goal.returns
returns c =
    let i = c.loop-set.invariant in
    let ends = either_empty_from_Zip c.loop-set.set-iterator c.next.new.self c.next.result c.in-None.is c.next.ensures.steps in
    let all = pmids_all (pmids_of c.args.sets.now ≡ c.args.pmids.now) (iter_rest (zip_first c.loop-set.set-iterator)) (iter_rest (zip_second c.loop-set.set-iterator)) i.0 ends i.1 in
    ((λ _. all), (λ _. refl))
