-- The first of one metric more.
use Rattle.std.proofs.Common.{◌≡◌, ◌==◌, ap, arith, refl, Some}
use Rattle.mmv_writer.proofs.Keeping.{first_more}
use Rattle.mmv_writer.proofs.lookups.items_of.Goals as goal

pub loop-row-preserved : goal.loop-row-preserved
loop-row-preserved c = record {
  count = omega arith;
  index = λ item. first_more (λ o p. o ≡ p) (λ row. row.item == item) c.args.rows.now c.loop-row.row-index c.row-item.result c.loop-row.at _ _ (omega arith) c.row-item.is (λ n e. cc) (λ z e. cc) refl (ap Some c.loop-row.invariant.count)
      (c.loop-row.invariant.index item) (c.in_ok-keep_item.ensures item);
}
