use Rattle.std.proofs.Common.{drop}
use Rattle.std.specs.Prelude.{◌↔◌}
use Rattle.archive_meta.specs.Enough.{AreEnough}
use Rattle.pmcd_client.proofs.listing.are_enough.Given as goal

abbrev pub invariant-loop-set : goal.invariant-loop-set
invariant-loop-set l = AreEnough l.facts (drop l.set-index l.sets) ↔ AreEnough l.facts l.sets
