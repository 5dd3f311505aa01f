-- The value words so far.
use Rattle.std.proofs.Common.{◌≡◌}
use Rattle.std.specs.List.{filter_map}
use Rattle.mmv_layout.specs.Entries.{value_at}
use Rattle.mmv_layout.specs.Rows.{list_below}
use Rattle.mmv_layout.specs.Form.{slot_at}
use Rattle.mmv_layout.proofs.slots.slots.Given as goal

abbrev pub invariant-loop-i : goal.invariant-loop-i
invariant-loop-i l = l.slots ≡ filter_map (slot_at l.words) (list_below l.i (value_at l.words))
