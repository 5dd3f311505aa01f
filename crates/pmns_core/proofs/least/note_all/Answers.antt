-- The pair that is taken is the first of those that are left.
use Rattle.std.proofs.Common.{◌≡◌, List, [], ◌∷◌, reverse, fold, sym, ap, ◌∙◌, subst}
use Rattle.std.proofs.lemmas.List.{reverse-append}
use Rattle.pmns_core.specs.Pairs.{Pair, least_with}
use Rattle.pmns_core.specs.Tables.{least_at, HasSlots}
use Rattle.pmns_core.proofs.Slots.{keeps_slots}
use Rattle.pmns_core.proofs.least.note_all.Goals as goal

pub loop-name-preserved : goal.loop-name-preserved
loop-name-preserved c =
    let p : Pair = (c.in-Some.name, c.in-Some.pmid) in
    let rest : List Pair = reverse c.pop.new.self.items in
    let front : reverse c.loop-name.left.items ≡ p ∷ rest = ap reverse c.in-Some.ensures.items ∙ reverse-append c.pop.new.self.items (p ∷ []) in
    let slots : HasSlots c.loop-name.least (p ∷ rest) = subst (HasSlots c.loop-name.least) front c.loop-name.invariant.slots in
    record {
      slots = keeps_slots c.loop-name.least c.note.new.least c.note.ensures.slots rest slots.1;
      rest = λ q. ap (λ o. fold (least_with q) o rest) (c.note.ensures.least q)
          ∙ ap (fold (least_with q) (least_at c.loop-name.least q)) (sym front)
          ∙ c.loop-name.invariant.rest q;
    }
