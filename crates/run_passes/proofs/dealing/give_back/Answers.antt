use Rattle.std.proofs.Common.{◌∷◌, [], ◌++◌, List, append_assoc, slice_get, sym, ap, ◌∙◌, subst}
use Rattle.std.specs.Vec.Iter.{into_iter_items}
use Rattle.region_rule.specs.Seats.{Token}
use Rattle.run_passes.specs.Dealing.{AreLaidBack, HaveRoomFor, lists_of, with_back}
use Rattle.run_passes.specs.Hands.{KnownHand}
use Rattle.run_passes.proofs.Returned.{back_more, room_first, room_rest}
use Rattle.run_passes.proofs.dealing.give_back.Goals as goal

pub lay_back-requires-clause-room : goal.lay_back-requires-clause-room
lay_back-requires-clause-room c = λ j list pass e f.
    (room_first c.loop-hand.lists.items c.in-Some.hand (into_iter_items c.next.new.self) (subst (λ (l : List KnownHand). HaveRoomFor c.loop-hand.lists.items l) c.in-Some.ensures.steps.0 c.loop-hand.invariant.1)).1 j list pass e
    (ap (λ (h : KnownHand). slice_get h.passes j) (sym c.hand.view_is) ∙ f)

pub loop-hand-preserved : goal.loop-hand-preserved
loop-hand-preserved c =
    let laid = subst (λ (h : KnownHand). AreLaidBack c.loop-hand.lists.items h.passes c.lay_back.new.lists.items) c.hand.view_is c.lay_back.ensures in (
      laid.lists_are
          ∙ (ap (λ (l : List (List Token)). with_back l c.in-Some.hand.passes) c.loop-hand.invariant.0 ∙ sym (back_more (lists_of c.args.lists.now.items) c.loop-hand.yielded c.in-Some.hand)),
      room_rest c.loop-hand.lists.items c.lay_back.new.lists.items c.in-Some.hand (into_iter_items c.next.new.self) (subst (λ (l : List KnownHand). HaveRoomFor c.loop-hand.lists.items l) c.in-Some.ensures.steps.0 c.loop-hand.invariant.1) laid,
      c.loop-hand.invariant.2
          ∙ (ap (λ (l : List KnownHand). c.loop-hand.yielded ++ l) c.in-Some.ensures.steps.0 ∙ sym (append_assoc c.loop-hand.yielded (c.in-Some.hand ∷ []) (into_iter_items c.next.new.self))),
    )
