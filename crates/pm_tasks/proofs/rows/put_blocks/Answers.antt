-- One more value's number is put.
use Rattle.std.proofs.Common.{◌≡◌, ℤ, FitsSigned, w32, to_z, of_z, rules, ap, ap₂, ◌∙◌, sym, arith}
use Rattle.std.proofs.lemmas.Int.{to_z-of_z}
use Rattle.log_summary.specs.Numbers.{block_number}
use Rattle.pm_tasks.specs.Rows.{block_pair, with_instance}
use Rattle.pm_tasks.proofs.Entries.{putting_on}
use Rattle.pm_tasks.proofs.rows.put_blocks.Goals as goal

pub loop-value-preserved : goal.loop-value-preserved
loop-value-preserved c =
    let x = c.value-item.result in
    let fits : FitsSigned w32 x.0 = search rules in
    let i : ℤ = to_z w32 (of_z w32 x.0) in
    let is : block_pair c.args.code x ≡ with_instance i c.block_number-number.result =
    ap₂ with_instance (sym (to_z-of_z w32 x.0 fits)) (sym (c.block_number-number.ensures.value ∙ ap (block_number c.args.code) c.bytes.ensures.value)) in
    record {
      putting = putting_on (block_pair c.args.code) c.args.row.now c.args.name.now c.args.values.now c.loop-value.value-index x i c.block_number-number.result
          c.loop-value.seen.keys c.put_number.new.seen.keys c.loop-value.row c.put_number.new.row (omega arith) c.value-item.is is c.in_ok-put_number.ensures.seen c.in_ok-put_number.ensures.row c.loop-value.invariant.putting;
      values = c.in_ok-put_number.ensures.values;
    }
