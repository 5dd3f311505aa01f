use Rattle.std.proofs.Common.{◌≡◌, ◌-◌, ◌≤◌, length, take}
use Rattle.region_rule.specs.Seats.{IsSeatOf, region_of}
use Rattle.region_rule.specs.Reads.{Reads, numbered_from}
use Rattle.region_rule.proofs.region.Region.load_all.Given as goal

abbrev pub invariant-loop-index : goal.invariant-loop-index
invariant-loop-index g l = (l.index ≤ length l.words.items) × (length l.words.items ≡ length l.initial.words.items)
    × Reads g.S.Shape.shaping l.initial.seat.me.0 (numbered_from 0 (take l.index l.words.items)) l.seat.me.0
    × IsSeatOf (region_of l.initial.seat) l.seat × (l.seat.me.1 ≡ l.initial.seat.me.1) × (l.seat.me.0.number ≡ l.initial.seat.me.0.number) × (l.seat.me.0.mode ≡ l.initial.seat.me.0.mode)

abbrev pub decreases-loop-index : goal.decreases-loop-index
decreases-loop-index g l = l.self-inside.capacity - l.index
