-- None so far is that of the item and the instance.
use Rattle.std.proofs.Common.{◌≡◌, None}
use Rattle.std.specs.List.{filter_map, find}
use Rattle.mmv_layout.specs.Entries.{value_at}
use Rattle.mmv_layout.specs.Rows.{list_below}
use Rattle.mmv_layout.specs.Form.{slot_at, is_slot_of}
use Rattle.mmv_layout.proofs.slots.first_slot.Given as goal

abbrev pub invariant-loop-i : goal.invariant-loop-i
invariant-loop-i l = find (is_slot_of l.item l.instance) (filter_map (slot_at l.words) (list_below l.i (value_at l.words))) ≡ None
