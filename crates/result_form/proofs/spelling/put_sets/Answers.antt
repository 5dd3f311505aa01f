use Rattle.std.proofs.Common.{◌≡◌, ◌+◌, ◌++◌, drop, arith, subst, sym, refl}
use Rattle.pcp_model.specs.Words.{word}
use Rattle.pcp_model.specs.Payload.{set_words, offsets_from, blocks_of}
use Rattle.pcp_model.proofs.Payloads.{sets_next, blocks_length_next, sets_length_next}
use Rattle.result_form.specs.Ranges.{HasNumbers}
use Rattle.result_form.proofs.Ranged.{all_on}
use Rattle.result_form.proofs.spelling.put_sets.Goals as goal

pub put_set-requires-clause-room : goal.put_set-requires-clause-room
put_set-requires-clause-room c =
    omega (arith, blocks_length_next c.args.sets.now c.loop-set.set-index c.set-item.result c.loop-set-test.true c.set-item.is)

pub put_set-requires-clause-few : goal.put_set-requires-clause-few
put_set-requires-clause-few c =
    omega (arith, sets_length_next c.args.sets.now c.loop-set.set-index c.set-item.result c.loop-set-test.true c.set-item.is)

pub loop-set-preserved : goal.loop-set-preserved
loop-set-preserved c =
    let sets = c.args.sets.now in
    let rest = drop (c.loop-set.set-index + 1) sets in
    record {
      whole = subst (λ p. c.put_set.new.out.items ++ set_words (offsets_from p (blocks_of rest)) rest ≡ c.args.out.now.items ++ set_words (offsets_from c.args.at (blocks_of sets)) sets) (sym c.in_ok-offset.ensures.next)
          (sets_next sets c.loop-set.set-index c.set-item.result c.loop-set.offset c.loop-set.out.items (c.loop-set.out.items ++ word c.set-item.result.pmid) c.put_set.new.out.items _ c.loop-set-test.true c.set-item.is refl c.in_ok-offset.ensures.bytes c.loop-set.invariant.whole);
      offsets = omega (arith, c.in_ok-offset.ensures.next, blocks_length_next sets c.loop-set.set-index c.set-item.result c.loop-set-test.true c.set-item.is);
      long = omega (arith, c.in_ok-offset.ensures.grows, sets_length_next sets c.loop-set.set-index c.set-item.result c.loop-set-test.true c.set-item.is);
      few = omega (arith, sets_length_next sets c.loop-set.set-index c.set-item.result c.loop-set-test.true c.set-item.is);
      range = all_on HasNumbers sets c.loop-set.set-index c.set-item.result c.loop-set-test.true c.set-item.is c.in_ok-offset.ensures.range c.loop-set.invariant.range;
    }
