-- The slot that is told is the first.
use Rattle.std.proofs.Common.{◌≡◌, ap, subst, ◌∙◌, w32, to_z, of_z, FitsSigned, rules, MatchOption, All, Contains}
use Rattle.std.proofs.lemmas.Int.{to_z-of_z}
use Rattle.std.specs.List.{find}
use Rattle.mmv_layout.specs.Form.{slots_of, is_slot_of, IsOther, IsSlotOf}
use Rattle.run_script.proofs.Slotted.{slot_is}
use Rattle.run_script.proofs.suiting.slot_in.Goals as goal

pub returns : goal.returns
returns c =
    let words = c.args.image.now in
    let fits : FitsSigned w32 c.unwrap_or.result = search rules in
    let same : to_z w32 (of_z w32 c.unwrap_or.result) ≡ c.unwrap_or.result = to_z-of_z w32 c.unwrap_or.result fits in
    let told = subst (λ i. MatchOption c.slot_of.result (All (IsOther c.args.item i) (slots_of words)) (λ slot. Contains (slots_of words) slot × IsSlotOf c.args.item i slot)) same
    c.slot_of.ensures.slot in
    slot_is words c.args.item c.unwrap_or.result c.slot_of.result c.words-words.ensures.image told
    ∙ ap (λ i. find (is_slot_of c.args.item i) (slots_of words)) c.unwrap_or.ensures
