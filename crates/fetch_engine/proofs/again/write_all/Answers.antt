-- One value more was written.
use Rattle.std.proofs.Common.{◌≡◌, ◌<◌, length, slice_index_or, slice_set, ◌∙◌, sym, refl, arith, rules}
use Rattle.std.proofs.lemmas.List.{length-set}
use Rattle.std.proofs.lemmas.Grind.{get_or_default_zero}
use Rattle.fetch_engine.proofs.Keeping.{written_step, written_all}
use Rattle.fetch_engine.proofs.again.write_all.Goals as goal

pub loop-at-preserved : goal.loop-at-preserved
loop-at-preserved c =
    let below : c.loop-at.at < length c.args.indexes.now = c.loop-at-test.true in
    let long = c.requires.long in
    record {
      written =
          written_step c.args.words.now.items c.loop-at.words.items (slice_set c.loop-at.words.items (slice_index_or c.args.indexes.now c.loop-at.at 0) (slice_index_or c.args.values.now c.loop-at.at 0))
          c.args.indexes.now c.args.values.now c.loop-at.at (slice_index_or c.args.indexes.now c.loop-at.at 0) (slice_index_or c.args.values.now c.loop-at.at 0) c.loop-at.invariant.written below c.requires.long
          (sym (get_or_default_zero c.args.indexes.now c.loop-at.at (slice_index_or c.args.indexes.now c.loop-at.at 0) below))
          (sym (get_or_default_zero c.args.values.now c.loop-at.at (slice_index_or c.args.values.now c.loop-at.at 0) (omega arith))) refl;
      wide = length-set c.loop-at.words.items (slice_index_or c.args.indexes.now c.loop-at.at 0) (slice_index_or c.args.values.now c.loop-at.at 0) ∙ c.loop-at.invariant.wide;
    }

pub returns : goal.returns
returns c =
    let last : c.loop-at.at ≡ length c.args.indexes.now = search rules in
    written_all c.args.words.now.items c.loop-at.words.items c.args.indexes.now c.args.values.now c.loop-at.at last c.requires.long c.loop-at.invariant.written
