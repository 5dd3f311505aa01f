use Rattle.std.proofs.Common.{[], ◌∷◌, arith}
use Rattle.std.proofs.lemmas.List.{length-append}
use Rattle.result_form.proofs.Ranged.{zeros_on}
use Rattle.result_form.proofs.spelling.put_zeros.Goals as goal

pub loop-preserved : goal.loop-preserved
loop-preserved c = rw c.in_ok-push.ensures.items record {
  whole = zeros_on c.loop.out.items _ c.args.count c.loop.counter c.loop-test.true c.loop.invariant.whole;
  long = omega (arith, c.loop.invariant.long, length-append c.loop.out.items (0 ∷ []));
}
