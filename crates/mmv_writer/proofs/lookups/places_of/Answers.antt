-- The first of one domain more.
use Rattle.std.proofs.Common.{◌==◌, arith}
use Rattle.std.proofs.lemmas.Grind.{common_steps}
use Rattle.mmv_writer.specs.Tables.{IsTold}
use Rattle.mmv_writer.proofs.Keeping.{first_more}
use Rattle.mmv_writer.proofs.Told.{get_at, placed}
use Rattle.mmv_writer.proofs.lookups.places_of.Goals as goal

pub loop-row-preserved : goal.loop-row-preserved
loop-row-preserved c = record {
  count = omega arith;
  behind = grind (arith, common_steps);
  index = λ serial. first_more (IsTold c.args.rows.now) (λ row. row.serial == serial) c.args.rows.now c.loop-row.row-index c.row-item.result c.in_ok-place.place _ _ (omega arith) c.row-item.is (λ n t. t) (λ z t. t) tt
      (c.row-item.result, get_at c.args.rows.now c.loop-row.row-index c.row-item.result (omega arith) c.row-item.is, placed c.row-item.result _ _ _ _ c.in_ok-place.place c.in_ok-place.ensures c.loop-row.invariant.count c.loop-row.invariant.behind)
      (c.loop-row.invariant.index serial) (c.in_ok-keep_domain.ensures serial);
}
