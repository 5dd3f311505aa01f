-- What was kept before, or else the slot, is found where its key is looked for.
use Rattle.std.proofs.Common.{◌≡◌, true, false, is_some, Option, None, Some, sym, subst, ◌∙◌, refl, cond, w32, to_z, of_z, rules}
use Rattle.std.proofs.lemmas.Int.{to_z-of_z}
use Rattle.std.specs.Ordering.{is_eq}
use Rattle.std.specs.BTreeMap.{get}
use Rattle.mmv_layout.specs.declared.rows.Slot.{Slot}
use Rattle.mmv_layout.specs.SlotTables.{slot_order}
use Rattle.mmv_layout.proofs.SlotTables.{keeps_old, keeps_new}
use Rattle.mmv_layout.proofs.slot_table.keep.Goals as goal

gone : (found : Option Slot) → is_some found ≡ false → found ≡ None
gone None h = refl
gone (Some slot) h = cc

pub returns-then-contains_key : goal.returns-then-contains_key
returns-then-contains_key c =
    let same : to_z w32 (of_z w32 c.args.slot.instance) ≡ c.args.slot.instance = to_z-of_z w32 c.args.slot.instance (search rules) in
    keeps_old c.args.slots.now c.args.slot
    (subst (λ instance. is_some (get slot_order c.args.slots.now (c.args.slot.item, instance)) ≡ true) same (sym c.contains_key.ensures ∙ c.if-contains_key.true))

pub returns : goal.returns
returns c =
    let same : to_z w32 (of_z w32 c.args.slot.instance) ≡ c.args.slot.instance = to_z-of_z w32 c.args.slot.instance (search rules) in
    keeps_new c.args.slots.now c.insert.new.self c.args.slot
    (subst (λ instance. get slot_order c.args.slots.now (c.args.slot.item, instance) ≡ None) same
    (gone (get slot_order c.args.slots.now (c.args.slot.item, to_z w32 (of_z w32 c.args.slot.instance))) (sym c.contains_key.ensures ∙ c.if-contains_key.false)))
    (λ q. subst (λ instance. get slot_order c.insert.new.self q ≡ cond (is_eq (slot_order (c.args.slot.item, instance) q)) (Some c.args.slot) (get slot_order c.args.slots.now q)) same (c.in_ok-insert.ensures.updates.0 q))
