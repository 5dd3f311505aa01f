use Rattle.std.proofs.Common.{Bool, subst, sym, Decides}
use Rattle.archive_meta.specs.Enough.{IsTold}
use Rattle.pmcd_client.proofs.Describing.{tells_Decides}
use Rattle.pmcd_client.proofs.listing.is_told.Goals as goal

pub returns : goal.returns
returns c = subst (λ (b : Bool). Decides b (IsTold c.args.facts.now c.args.set.now)) (sym c.tells.ensures) (tells_Decides c.args.facts.now c.args.set.now)
