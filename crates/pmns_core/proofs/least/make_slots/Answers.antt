-- One more pair has its slot.
use Rattle.std.proofs.Common.{◌≡◌, ℕ, ◌+◌, ◌<◌, length, take, [], ◌∷◌, ◌++◌, arith, sym, ap, ◌∙◌, subst, add-one}
use Rattle.std.proofs.Math.Seq.{take-suc}
use Rattle.pmns_core.specs.Pairs.{Pair}
use Rattle.pmns_core.specs.Tables.{HasSlots}
use Rattle.pmns_core.proofs.Slots.{keeps_slots, one_slot_more}
use Rattle.pmns_core.proofs.least.make_slots.Goals as goal

pub loop-pair-preserved : goal.loop-pair-preserved
loop-pair-preserved c =
    let pairs = c.args.pairs.now in
    let at : ℕ = c.loop-pair.pair-index in
    let p : Pair = c.pair-item.result in
    let within : at < length pairs = omega arith in
    let split : take (at + 1) pairs ≡ take at pairs ++ p ∷ [] = rw add-one (take-suc pairs at p within) ∙ ap (λ (q : Pair). take at pairs ++ q ∷ []) (sym c.pair-item.is) in
    let kept = keeps_slots c.loop-pair.least c.make_slot.new.least c.make_slot.ensures.keeps (take at pairs) c.loop-pair.invariant.slots in
    record {
      same = λ q. c.make_slot.ensures.same q ∙ c.loop-pair.invariant.same q;
      slots = subst (HasSlots c.make_slot.new.least) (sym split) (one_slot_more c.make_slot.new.least (take at pairs) p kept (c.in_ok-make_slot.ensures.slot));
    }
