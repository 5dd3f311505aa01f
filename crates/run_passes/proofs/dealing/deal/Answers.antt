use Rattle.std.proofs.Common.{◌≡◌, ◌<◌, length, slice_get, Some, refl, sym, ◌∙◌, arith}
use Rattle.run_passes.proofs.Turning.{was_there}
use Rattle.run_passes.proofs.HandPlaces.{dealt_next, every_list_dealt, places_next}
use Rattle.run_passes.proofs.dealing.deal.Goals as goal

pub deal_list-requires-clause-enough : goal.deal_list-requires-clause-enough
deal_list-requires-clause-enough c =
    let d = c.loop-at.invariant.1 in
    let end = c.loop-at.invariant.0 in
    let below : c.loop-at.at < length c.args.lists.now.items = omega (arith, c.loop-at-test.true, end) in
    let inside : c.loop-at.at < length c.loop-at.lists.items = let same = d.as_many in omega arith in
    d.enough c.loop-at.at c.index_mut.result.now (sym (d.rest c.loop-at.at (omega arith)) ∙ was_there c.loop-at.lists.items c.loop-at.at c.index_mut.result.now c.index_mut.result.now inside c.index_mut.ensures.value refl)

pub deal_list-requires-clause-places : goal.deal_list-requires-clause-places
deal_list-requires-clause-places c =
    let end = c.loop-at.invariant.0 in
    places_next c.loop-at.at c.args.lists.now.items c.loop-at.lists.items c.loop-at.hands.items c.loop-at.invariant.1 (omega (arith, c.loop-at-test.true, end))

pub loop-at-preserved : goal.loop-at-preserved
loop-at-preserved c =
    let d = c.loop-at.invariant.1 in
    let end = c.loop-at.invariant.0 in
    let below : c.loop-at.at < length c.args.lists.now.items = omega (arith, c.loop-at-test.true, end) in
    let inside : c.loop-at.at < length c.loop-at.lists.items = let same = d.as_many in omega arith in
    let there : slice_get c.loop-at.lists.items c.loop-at.at ≡ Some c.index_mut.result.now = was_there c.loop-at.lists.items c.loop-at.at c.index_mut.result.now c.index_mut.result.now inside c.index_mut.ensures.value refl in (
      end,
      dealt_next c.loop-at.at c.args.lists.now.items c.loop-at.lists.items c.loop-at.hands.items d below c.index_mut.result.now c.deal_list.new.list _ c.deal_list.new.hands.items there c.deal_list.ensures.dealt c.deal_list.ensures.emptied c.deal_list.ensures.room refl,
    )

pub returns-clause-dealt : goal.returns-clause-dealt
returns-clause-dealt c =
    let end = c.loop-at.invariant.0 in
    (every_list_dealt c.loop-at.at c.args.lists.now.items c.loop-at.lists.items c.loop-at.hands.items c.loop-at.invariant.1 (omega (arith, c.loop-at-test.false, end))).0

pub returns-clause-emptied : goal.returns-clause-emptied
returns-clause-emptied c =
    let end = c.loop-at.invariant.0 in
    (every_list_dealt c.loop-at.at c.args.lists.now.items c.loop-at.lists.items c.loop-at.hands.items c.loop-at.invariant.1 (omega (arith, c.loop-at-test.false, end))).1
