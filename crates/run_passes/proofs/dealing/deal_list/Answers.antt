use Rattle.std.proofs.Common.{rules, ◌≡◌, ◌≤◌, ℕ, length, slice_get, slice_set, Some, refl, sym, ap, ◌∙◌, subst, arith}
use Rattle.run_passes.proofs.Turning.{was_there}
use Rattle.run_passes.proofs.HandPlaces.{all_dealt, dealt_more, none_dealt, place_there, writer_there}
use Rattle.run_passes.proofs.dealing.deal_list.Goals as goal

pub loop-pass-init : goal.loop-pass-init
loop-pass-init c =
    let as_long = c.args.list.now.ok.0 in
    let fits = c.args.list.now.ok.1 in
    (none_dealt c.args.at c.args.list.now.items c.args.hands.now.items, omega arith)

pub put-requires : goal.put-requires
put-requires c =
    let at_is : c.len-number.result ≡ length c.pop.new.self.items = c.len-number.ensures ∙ c.pop.new.self.ok.0 in
    let inside = writer_there c.args.at c.args.list.now.items c.loop-pass.list.items c.pop.new.self.items c.in-Some.pass c.args.hands.now.items c.loop-pass.hands.items c.loop-pass.invariant.0 c.in-Some.ensures.items c.requires.enough in
    let there : slice_get c.loop-pass.hands.items c.len-number.result ≡ Some c.index_mut.result.now =
    was_there c.loop-pass.hands.items c.len-number.result c.index_mut.result.now c.index_mut.result.now (omega arith) c.index_mut.ensures.value refl in
    record {
      place =
          place_there c.args.at c.args.list.now.items c.loop-pass.list.items c.pop.new.self.items c.in-Some.pass c.args.hands.now.items c.loop-pass.hands.items c.loop-pass.invariant.0 c.in-Some.ensures.items c.requires.places c.index_mut.result.now
          (subst (λ (n : ℕ). slice_get c.loop-pass.hands.items n ≡ Some c.index_mut.result.now) at_is there);
    }

pub loop-pass-preserved : goal.loop-pass-preserved
loop-pass-preserved c =
    let at_is : c.len-number.result ≡ length c.pop.new.self.items = c.len-number.ensures ∙ c.pop.new.self.ok.0 in
    let inside = writer_there c.args.at c.args.list.now.items c.loop-pass.list.items c.pop.new.self.items c.in-Some.pass c.args.hands.now.items c.loop-pass.hands.items c.loop-pass.invariant.0 c.in-Some.ensures.items c.requires.enough in
    let there : slice_get c.loop-pass.hands.items c.len-number.result ≡ Some c.index_mut.result.now =
    was_there c.loop-pass.hands.items c.len-number.result c.index_mut.result.now c.index_mut.result.now (omega arith) c.index_mut.ensures.value refl in (
      dealt_more c.args.at c.args.list.now.items c.loop-pass.list.items c.pop.new.self.items c.in-Some.pass c.args.hands.now.items c.loop-pass.hands.items c.loop-pass.invariant.0 c.in-Some.ensures.items c.index_mut.result.now c.put.new.hand _
          (subst (λ (n : ℕ). slice_get c.loop-pass.hands.items n ≡ Some c.index_mut.result.now) at_is there)
          c.put.ensures.number c.put.ensures.passes (ap (λ (n : ℕ). slice_set c.loop-pass.hands.items n c.put.new.hand) at_is),
      subst (λ (n : ℕ). length c.args.list.now.items ≤ n) (sym c.in-Some.ensures.capacity) c.loop-pass.invariant.1,
    )

pub returns-clause-dealt : goal.returns-clause-dealt
returns-clause-dealt c =
    let none : length c.loop-pass.list.items ≡ 0 = search rules in
    all_dealt c.args.at c.args.list.now.items c.loop-pass.list.items c.args.hands.now.items c.loop-pass.hands.items c.loop-pass.invariant.0 none
