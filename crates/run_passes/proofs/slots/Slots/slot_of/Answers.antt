use Rattle.std.proofs.Common.{List, find, ap, ◌∙◌, of_z, to_z, w32}
use Rattle.mmv_layout.specs.Form.{is_slot_of}
use Rattle.mmv_layout.specs.declared.rows.Slot.{Slot}
use Rattle.run_passes.proofs.Found.{found_again}
use Rattle.run_passes.proofs.slots.Slots.slot_of.Goals as goal

pub invariant_of-self : goal.invariant_of-self
invariant_of-self c =
    found_again c.self.inside.all c.args.item (to_z w32 (of_z w32 c.unwrap_or-number.result)) c.copied-found.result
    (c.copied-found.ensures ∙ (c.find_slot.ensures ∙ ap (λ (l : List Slot). find (is_slot_of c.args.item (to_z w32 (of_z w32 c.unwrap_or-number.result))) l) c.as_slice.ensures))
