use Rattle.std.proofs.Common.{arith}
use Rattle.pcp_model.proofs.Payloads.{blocks_length_next, sets_length_next}
use Rattle.result_form.proofs.sizes.length.Goals as goal

pub loop-set-preserved : goal.loop-set-preserved
loop-set-preserved c =
    let sets = c.as_slice-set-items.result.now in
    record {
      same = omega (arith, c.with_body-total.ensures, c.saturating_add.ensures, blocks_length_next sets c.loop-set.set-index c.set-item.result c.loop-set-test.true c.set-item.is, sets_length_next sets c.loop-set.set-index c.set-item.result c.loop-set-test.true c.set-item.is);
      few = omega (arith, c.with_body-total.ensures);
    }
