use Rattle.std.proofs.Common.{◌≡◌, drop}
use Rattle.std.specs.List.{list_all}
use Rattle.pmcd_client.specs.Items.{lists_instance}
use Rattle.pmcd_client.proofs.listing.lists_each.Given as goal

abbrev pub invariant-loop-instance : goal.invariant-loop-instance
invariant-loop-instance g l = list_all (λ v. lists_instance l.pairs v.0) (drop l.instance-index l.values) ≡ list_all (λ v. lists_instance l.pairs v.0) l.values
