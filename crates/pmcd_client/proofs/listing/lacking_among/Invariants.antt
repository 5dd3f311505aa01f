use Rattle.std.proofs.Common.{◌≡◌, ◌++◌, drop, map, filter}
use Rattle.pmcd_client.specs.Items.{lacks}
use Rattle.pmcd_client.proofs.listing.lacking_among.Given as goal

abbrev pub invariant-loop-listed : goal.invariant-loop-listed
invariant-loop-listed l =
    l.found.items ++ map (λ listed. listed.0) (filter (lacks l.metrics l.sets) (drop l.listed-index l.domains)) ≡ map (λ listed. listed.0) (filter (lacks l.metrics l.sets) l.domains)
