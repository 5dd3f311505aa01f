use Rattle.std.proofs.Common.{◌≡◌, ◌+◌, ℕ, List, [], ◌∷◌, ◌++◌, append_assoc, length, length-append, slice_get, slice_set, Option, Some, refl, sym, ap, ◌∙◌, arith}
use Rattle.std.specs.Vec.Iter.{into_iter_items}
use Rattle.region_rule.specs.Seats.{Token}
use Rattle.run_passes.proofs.Turning.{was_there}
use Rattle.run_passes.proofs.Returned.{laid_next, laid_none, list_there, room_next}
use Rattle.run_passes.proofs.dealing.lay_back.Goals as goal

pub loop-pass-init : goal.loop-pass-init
loop-pass-init c = (refl, laid_none c.args.lists.now.items, search)

pub index_mut-requires : goal.index_mut-requires
index_mut-requires c =
    let is = c.loop-pass.invariant.2 ∙ ap (λ (l : List (Option Token)). c.loop-pass.yielded ++ l) c.in-Some.ensures.steps.0 in
    let below = list_there c.args.lists.now.items c.loop-pass.lists.items c.loop-pass.yielded c.args.passes.items (into_iter_items c.next.new.self) c.in-Some.pass c.loop-pass.invariant.1 c.requires.few is in
    let at_is = c.loop-pass.invariant.0 in
    let long = c.loop-pass.lists.ok.0 in
    omega arith

pub put_back-requires : goal.put_back-requires
put_back-requires c =
    let is = c.loop-pass.invariant.2 ∙ ap (λ (l : List (Option Token)). c.loop-pass.yielded ++ l) c.in-Some.ensures.steps.0 in
    let below = list_there c.args.lists.now.items c.loop-pass.lists.items c.loop-pass.yielded c.args.passes.items (into_iter_items c.next.new.self) c.in-Some.pass c.loop-pass.invariant.1 c.requires.few is in
    let at_is = c.loop-pass.invariant.0 in
    let there : slice_get c.loop-pass.lists.items (length c.loop-pass.yielded) ≡ Some c.index_mut.result.now =
    ap (λ (n : ℕ). slice_get c.loop-pass.lists.items n) (sym at_is) ∙ was_there c.loop-pass.lists.items c.loop-pass.at c.index_mut.result.now c.index_mut.result.now (omega arith) c.index_mut.ensures.value refl in
    record { room = room_next c.args.lists.now.items c.loop-pass.lists.items c.loop-pass.yielded c.loop-pass.invariant.1 c.index_mut.result.now there c.args.passes.items (into_iter_items c.next.new.self) c.in-Some.pass c.requires.room is }

pub loop-pass-preserved : goal.loop-pass-preserved
loop-pass-preserved c =
    let is = c.loop-pass.invariant.2 ∙ ap (λ (l : List (Option Token)). c.loop-pass.yielded ++ l) c.in-Some.ensures.steps.0 in
    let below = list_there c.args.lists.now.items c.loop-pass.lists.items c.loop-pass.yielded c.args.passes.items (into_iter_items c.next.new.self) c.in-Some.pass c.loop-pass.invariant.1 c.requires.few is in
    let at_is = c.loop-pass.invariant.0 in
    let there : slice_get c.loop-pass.lists.items (length c.loop-pass.yielded) ≡ Some c.index_mut.result.now =
    ap (λ (n : ℕ). slice_get c.loop-pass.lists.items n) (sym at_is) ∙ was_there c.loop-pass.lists.items c.loop-pass.at c.index_mut.result.now c.index_mut.result.now (omega arith) c.index_mut.ensures.value refl in (
      ap (λ (n : ℕ). n + 1) at_is ∙ sym (length-append c.loop-pass.yielded (c.in-Some.pass ∷ [])),
      laid_next c.args.lists.now.items c.loop-pass.lists.items c.loop-pass.yielded c.loop-pass.invariant.1 c.index_mut.result.now there c.in-Some.pass c.put_back.new.list _ (c.loop-pass.yielded ++ c.in-Some.pass ∷ []) c.put_back.ensures.items c.put_back.ensures.room
          (ap (λ (n : ℕ). slice_set c.loop-pass.lists.items n c.put_back.new.list) at_is) refl,
      is ∙ sym (append_assoc c.loop-pass.yielded (c.in-Some.pass ∷ []) (into_iter_items c.next.new.self)),
    )
