-- One string more is told.
use Rattle.std.proofs.Common.{arith, subst}
use Rattle.mmv_writer.specs.Tables.{IsIndex, Grows}
use Rattle.mmv_writer.proofs.Firsts.{index_more}
use Rattle.mmv_writer.proofs.tables.firsts_of.Goals as goal

pub loop-text-preserved : goal.loop-text-preserved
loop-text-preserved c = record {
  index =
      index_more c.loop-text.firsts c.keep_first.new.firsts c.args.strings.now c.loop-text.text-index c.text-item.result (omega arith) c.text-item.is
      (subst (Grows c.loop-text.firsts c.keep_first.new.firsts c.text-item.result) c.loop-text.invariant.at c.in_ok-keep_first.ensures.ok) c.loop-text.invariant.index;
  at = omega arith;
}
