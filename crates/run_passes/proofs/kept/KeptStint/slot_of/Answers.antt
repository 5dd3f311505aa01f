use Rattle.std.proofs.Common.{◌≡◌, ◌<◌, List, length, IfSome, Option, negsuc, unwrap_or, ap, subst, ◌∙◌}
use Rattle.mmv_layout.specs.Form.{is_slot_of}
use Rattle.mmv_layout.specs.declared.rows.Slot.{Slot}
use Rattle.region_rule.specs.Seats.{MadeRegion, Token}
use Rattle.run_passes.specs.Keeping.{KeepsSlots}
use Rattle.run_passes.proofs.Staying.{found_below, region_stays}
use Rattle.run_passes.proofs.kept.KeptStint.slot_of.Goals as goal

pub returns-clause-below : goal.returns-clause-below
returns-clause-below c =
    let here : c.look_for_slots.new.stint.region ≡ c.args.region.now = region_stays c.self.inside.stint c.look_for_slots.new.stint c.look_for_slots.ensures.looks.stays ∙ (ap (λ (t : Token). t.region) c.self.view_is ∙ c.requires.here) in
    subst (λ (r : MadeRegion). IfSome c.slot_of.result (λ (s : Slot). s.word < length r.words)) here
    (found_below c.in-Some.slots (is_slot_of c.args.item (unwrap_or c.args.instance (negsuc 0))) c.slot_of.result (length c.look_for_slots.new.stint.region.words) (subst (λ (o : Option (List Slot)). KeepsSlots c.look_for_slots.new.stint o) c.in-Some.is c.look_for_slots.ensures.kept).1
    c.slot_of.ensures.slot)
