use Rattle.std.proofs.Common.{◌≡◌, drop}
use Rattle.pmcd_client.specs.Items.{lacks}
use Rattle.pmcd_client.proofs.listing.lacks.Given as goal

abbrev pub invariant-loop-set : goal.invariant-loop-set
invariant-loop-set l = lacks l.metrics (drop l.set-index l.sets) l.listed ≡ lacks l.metrics l.sets l.listed
