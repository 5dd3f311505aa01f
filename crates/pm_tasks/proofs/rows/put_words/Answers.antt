-- One more value's number is put.
use Rattle.std.proofs.Common.{get_or, pos, refl, arith}
use Rattle.std.proofs.lemmas.List.{get_or_default}
use Rattle.log_summary.specs.Numbers.{word_number}
use Rattle.pm_tasks.specs.Rows.{word_pair}
use Rattle.pm_tasks.proofs.Entries.{putting_on}
use Rattle.pm_tasks.proofs.rows.put_words.Goals as goal

pub loop-value-preserved : goal.loop-value-preserved
loop-value-preserved c =
    let at = c.loop-value.value-index in
    let x = get_or c.args.values.now at (pos 0, 0) in
    record {
      putting = putting_on (word_pair c.args.code) c.args.row.now c.args.name.now c.args.values.now at x x.0 (word_number c.args.code x.1)
          c.loop-value.seen.keys c.put_word.new.seen.keys c.loop-value.row c.put_word.new.row (omega arith) (get_or_default c.args.values.now at (pos 0, 0) x (omega arith)) refl
          c.in_ok-put_word.ensures.seen c.in_ok-put_word.ensures.row c.loop-value.invariant.putting;
      values = c.in_ok-put_word.ensures.values;
    }
