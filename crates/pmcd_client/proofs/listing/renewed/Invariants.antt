use Rattle.std.proofs.Common.{◌≡◌, ◌++◌, map}
use Rattle.std.specs.Vec.Iter.{into_iter_items}
use Rattle.pmcd_client.specs.Items.{latest}
use Rattle.pmcd_client.proofs.listing.renewed.Given as goal

abbrev pub invariant-loop-before : goal.invariant-loop-before
invariant-loop-before l = l.made ++ map (latest l.fresh) (into_iter_items l.before-iterator) ≡ map (latest l.fresh) l.fn.domains
