use Rattle.std.proofs.Common.{◌≡◌, ◌+◌, ◌-◌, ◌<◌, []}
use Rattle.region_rule.specs.Views.{fresh_view, numbers_from}
use Rattle.region_rule.specs.Calls.{fresh_from}
use Rattle.region_rule.proofs.region.Region.hand_out.Given as goal

abbrev pub invariant-loop-number : goal.invariant-loop-number
invariant-loop-number g l = (l.number < l.passes) × (l.given.items ≡ fresh_from l.self 0 l.number) × (l.seat.table_id ≡ l.self.table)
    × (l.seat.me ≡ (fresh_view l.self.words l.passes l.number (numbers_from (l.number + 1) (l.passes - (l.number + 1))), []))

abbrev pub decreases-loop-number : goal.decreases-loop-number
decreases-loop-number g l = l.passes - l.number
