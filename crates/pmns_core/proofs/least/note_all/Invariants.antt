-- The pairs that are left have their slots, and give the rest of the names.
use Rattle.std.proofs.Common.{◌≡◌, ℕ, fold, reverse, vec_len}
use Rattle.pmns_core.specs.Pairs.{least_with}
use Rattle.pmns_core.specs.Tables.{least_at, HasSlots}
use Rattle.pmns_core.proofs.least.note_all.Given as goal

abbrev pub invariant-loop-name : goal.invariant-loop-name
invariant-loop-name l = record {
  slots : HasSlots l.least (reverse l.left.items);
  rest : (q : ℕ) → fold (least_with q) (least_at l.least q) (reverse l.left.items) ≡ fold (least_with q) (least_at l.initial.least q) (reverse l.initial.left.items);
}

abbrev pub decreases-loop-name : goal.decreases-loop-name
decreases-loop-name l = vec_len l.left
