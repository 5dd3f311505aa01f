-- A value lies among the first 65,536 words; the first slot that fits is the one found.
use Rattle.std.proofs.Common.{◌≡◌, ◌<◌, true, None, Some, ap, sym, subst, ◌∙◌, arith, w32, to_z, of_z}
use Rattle.std.proofs.lemmas.Int.{to_z-of_z}
use Rattle.std.specs.List.{filter_map, find}
use Rattle.mmv_layout.specs.Entries.{value_at, value_count}
use Rattle.mmv_layout.specs.Rows.{list_below}
use Rattle.mmv_layout.specs.Form.{slot_at, slots_of, is_slot_of}
use Rattle.mmv_layout.proofs.EntryOffsets.{value_near}
use Rattle.mmv_layout.proofs.SlotLists.{gives_none, finds_nothing, finds_other, finds_first}
use Rattle.mmv_layout.proofs.slots.first_slot.Goals as goal
use Rattle.mmv_layout.proofs.slots.first_slot.Goals.{in-Some+else-is_slot_of, in_default}

pub loop-i-init : goal.loop-i-init
loop-i-init c = ap (find (is_slot_of c.args.item (to_z w32 (of_z w32 c.args.instance)))) (gives_none (slot_at c.args.words.now) (value_at c.args.words.now))

pub slot_at-requires : goal.slot_at-requires
slot_at-requires c = subst (λ offset. offset < 1048576) (sym c.value_at.ensures.offset) (value_near c.args.words.now c.loop-i.i c.requires (omega arith))

pub returns-then-is_slot_of : goal.returns-then-is_slot_of
unfolding slots_of
returns-then-is_slot_of c =
    let same : to_z w32 (of_z w32 c.args.instance) ≡ c.args.instance = to_z-of_z w32 c.args.instance c.ranges.instance in
    let given : slot_at c.args.words.now (value_at c.args.words.now c.loop-i.i) ≡ Some c.in-Some.slot =
    ap (slot_at c.args.words.now) (sym c.value_at.ensures.offset) ∙ sym c.slot_at.ensures ∙ c.in-Some.is in
    sym (finds_first (is_slot_of c.args.item c.args.instance) (slot_at c.args.words.now) (value_count c.args.words.now) c.loop-i.i (value_at c.args.words.now) c.in-Some.slot (omega arith)
    (subst (λ instance. find (is_slot_of c.args.item instance) (filter_map (slot_at c.args.words.now) (list_below c.loop-i.i (value_at c.args.words.now))) ≡ None) same c.loop-i.invariant)
    given (subst (λ instance. is_slot_of c.args.item instance c.in-Some.slot ≡ true) same (sym c.is_slot_of.ensures ∙ c.if-is_slot_of.true)))

pub loop-i-preserved : goal.loop-i-preserved
loop-i-preserved c = elim c.match-slot_at.branch [
  | in-Some+else-is_slot_of w ↦
      finds_other (is_slot_of c.args.item (to_z w32 (of_z w32 c.args.instance))) (slot_at c.args.words.now) c.loop-i.i (value_at c.args.words.now) w.in-Some.slot c.loop-i.invariant
      (ap (slot_at c.args.words.now) (sym c.value_at.ensures.offset) ∙ sym c.slot_at.ensures ∙ w.in-Some.is) (sym w.is_slot_of.ensures ∙ w.if-is_slot_of.false)
  | in_default w ↦
      finds_nothing (is_slot_of c.args.item (to_z w32 (of_z w32 c.args.instance))) (slot_at c.args.words.now) c.loop-i.i (value_at c.args.words.now) c.loop-i.invariant
      (ap (slot_at c.args.words.now) (sym c.value_at.ensures.offset) ∙ sym c.slot_at.ensures ∙ w.in_default.is)
]
