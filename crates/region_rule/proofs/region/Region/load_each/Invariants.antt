use Rattle.std.proofs.Common.{◌≡◌, ◌-◌, ◌≤◌, length, take}
use Rattle.std.specs.List.{zip}
use Rattle.region_rule.specs.Seats.{IsSeatOf, region_of}
use Rattle.region_rule.specs.Reads.{Reads}
use Rattle.region_rule.proofs.region.Region.load_each.Given as goal

abbrev pub invariant-loop-at : goal.invariant-loop-at
invariant-loop-at g l = (l.at ≤ length l.indexes) × (length l.out ≡ length l.initial.out)
    × Reads g.S.Shape.shaping l.initial.seat.me.0 (zip (take l.at l.indexes) (take l.at l.out)) l.seat.me.0
    × IsSeatOf (region_of l.initial.seat) l.seat × (l.seat.me.1 ≡ l.initial.seat.me.1) × (l.seat.me.0.number ≡ l.initial.seat.me.0.number) × (l.seat.me.0.mode ≡ l.initial.seat.me.0.mode)

abbrev pub decreases-loop-at : goal.decreases-loop-at
decreases-loop-at g l = length l.indexes - l.at
