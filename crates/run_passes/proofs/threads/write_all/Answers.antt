use Rattle.std.proofs.Common.{◌≡◌, ◌∙◌, List, drop, length, ap, sym, subst}
use Rattle.std.specs.List.{AllByRecursion}
use Rattle.run_passes.specs.Dealing.{AreDealt, HaveRoomFor, all_back, lists_of}
use Rattle.run_passes.specs.Hands.{IsHand, KnownHand}
use Rattle.run_passes.proofs.HandsDealt.{room_for, same_long}
use Rattle.run_passes.proofs.Together.{all_hands, given_back, lent_whole, on_true}
use Rattle.run_passes.proofs.threads.write_all.Goals as goal

pub run-is_well-requires-clause-hands : goal.run-is_well-requires-clause-hands
run-is_well-requires-clause-hands g c _ _ =
    subst (λ (l : List KnownHand). AllByRecursion (IsHand c.args.script.now c.args.server.now) l) (sym c.deref_mut.ensures.value)
    (all_hands c.args.script.now c.args.server.now c.args.passes.now.items c.deal.new.hands.items c.requires.ready c.deal.ensures.dealt)

pub give_back-requires : goal.give_back-requires
give_back-requires g c =
    let dealt = subst (λ (l : List KnownHand). AreDealt c.args.passes.now.items l) (sym c.deref_mut.ensures.value) c.deal.ensures.dealt in
    let many : length c.run-is_well.new.hands ≡ c.deal.new.hands.len =
    same_long c.deref_mut.result.now c.run-is_well.new.hands c.run-is_well.ensures.same_all ∙ (ap (λ (l : List KnownHand). length l) c.deref_mut.ensures.value ∙ sym c.deal.new.hands.ok.0) in
    record {
      room =
          subst (λ (l : List KnownHand). HaveRoomFor c.deal.new.lists.items l) (sym (lent_whole c.run-is_well.new.hands (drop (length c.run-is_well.new.hands) c.deal.new.hands.items) c.deal.new.hands.len many))
          (room_for c.args.script.now c.args.server.now c.args.passes.now.items c.requires.ready c.deref_mut.result.now c.run-is_well.new.hands dealt c.run-is_well.ensures.hands c.run-is_well.ensures.same_all c.deal.new.lists.items c.deal.ensures.emptied);
    }

pub returns-clause-back : goal.returns-clause-back
returns-clause-back g c =
    let dealt = subst (λ (l : List KnownHand). AreDealt c.args.passes.now.items l) (sym c.deref_mut.ensures.value) c.deal.ensures.dealt in
    let many : length c.run-is_well.new.hands ≡ c.deal.new.hands.len =
    same_long c.deref_mut.result.now c.run-is_well.new.hands c.run-is_well.ensures.same_all ∙ (ap (λ (l : List KnownHand). length l) c.deref_mut.ensures.value ∙ sym c.deal.new.hands.ok.0) in
    (given_back c.args.script.now c.args.server.now c.args.passes.now.items c.deal.new.lists.items c.give_back.new.lists.items c.deref_mut.result.now c.run-is_well.new.hands c.requires.ready dealt c.deal.ensures.emptied c.run-is_well.ensures.hands c.run-is_well.ensures.same_all
    (c.give_back.ensures ∙ ap (λ (l : List KnownHand). all_back (lists_of c.deal.new.lists.items) l) (lent_whole c.run-is_well.new.hands (drop (length c.run-is_well.new.hands) c.deal.new.hands.items) c.deal.new.hands.len many))).come

pub returns-clause-written : goal.returns-clause-written
returns-clause-written g c =
    let dealt = subst (λ (l : List KnownHand). AreDealt c.args.passes.now.items l) (sym c.deref_mut.ensures.value) c.deal.ensures.dealt in
    let many : length c.run-is_well.new.hands ≡ c.deal.new.hands.len =
    same_long c.deref_mut.result.now c.run-is_well.new.hands c.run-is_well.ensures.same_all ∙ (ap (λ (l : List KnownHand). length l) c.deref_mut.ensures.value ∙ sym c.deal.new.hands.ok.0) in
    on_true c.run-is_well.result
    (given_back c.args.script.now c.args.server.now c.args.passes.now.items c.deal.new.lists.items c.give_back.new.lists.items c.deref_mut.result.now c.run-is_well.new.hands c.requires.ready dealt c.deal.ensures.emptied c.run-is_well.ensures.hands c.run-is_well.ensures.same_all
    (c.give_back.ensures ∙ ap (λ (l : List KnownHand). all_back (lists_of c.deal.new.lists.items) l) (lent_whole c.run-is_well.new.hands (drop (length c.run-is_well.new.hands) c.deal.new.hands.items) c.deal.new.hands.len many))).written
    c.run-is_well.ensures.all_written
