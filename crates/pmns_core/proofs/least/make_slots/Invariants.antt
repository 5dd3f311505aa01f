-- The pairs that the loop has passed have their slots, and no name has changed.
use Rattle.std.proofs.Common.{◌≡◌, ℕ, take}
use Rattle.pmns_core.specs.Tables.{least_at, HasSlots}
use Rattle.pmns_core.proofs.least.make_slots.Given as goal

abbrev pub invariant-loop-pair : goal.invariant-loop-pair
invariant-loop-pair l = record {
  same : (q : ℕ) → least_at l.least q ≡ least_at l.initial.least q;
  slots : HasSlots l.least (take l.pair-index l.pairs);
}
