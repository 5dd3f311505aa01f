-- The value words so far.
use Rattle.std.proofs.Common.{◌≡◌, take, map}
use Rattle.mmv_layout.specs.declared.rows.Slot.{Slot}
use Rattle.fetch_answers.proofs.told.indexes_of.Given as goal

abbrev pub invariant-loop-slot : goal.invariant-loop-slot
invariant-loop-slot l = l.indexes.items ≡ map (λ (slot : Slot). slot.word) (take l.slot-index l.slot-items)
