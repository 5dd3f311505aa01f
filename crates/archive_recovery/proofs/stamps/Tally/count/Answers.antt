use Rattle.std.proofs.Common.{◌+◌, [], ◌∷◌, ◌++◌, Some, refl, subst}
use Rattle.pcp_base.specs.Time.{Moment}
use Rattle.archive_recovery.specs.Stamps.{IsLatest}
use Rattle.archive_recovery.proofs.Latest.{one_counted}
use Rattle.archive_recovery.proofs.stamps.Tally.count.Goals as goal

pub returns : goal.returns
returns c = one_counted c.args.self.now (record { items = c.args.self.now.items + 1; last = Some c.later.result }) c.args.item.now refl
    (λ moments is. subst (λ (s : Moment). IsLatest (moments ++ s ∷ []) (Some c.later.result)) c.stamp.ensures (c.later.ensures moments is))
