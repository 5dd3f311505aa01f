-- One instance more.
use Rattle.std.proofs.Common.{◌≡◌, ap, ◌∙◌, arith, w32, to_z, of_z, rules, ℤ}
use Rattle.std.proofs.lemmas.Int.{to_z-of_z}
use Rattle.std.specs.Ordering.{int_cmp}
use Rattle.std.specs.BTreeMap.{insert_entry}
use Rattle.fetch_answers.proofs.Steps.{ascending_step}
use Rattle.fetch_answers.proofs.facts.by_number.Goals as goal

pub loop-number-preserved : goal.loop-number-preserved
loop-number-preserved c =
    let same : to_z w32 (of_z w32 c.loop-number-item.result.0) ≡ c.loop-number-item.result.0 = to_z-of_z w32 c.loop-number-item.result.0 (search rules) in
    ascending_step c.args.instances.now c.loop-number.number-index c.loop-number-item.result c.loop-number-item.result (omega arith) c.loop-number-item.is c.loop-number.table.entries c.insert.new.self.entries
    c.loop-number.invariant
    (c.in_ok-insert.ensures.entries ∙ ap (λ (n : ℤ). insert_entry int_cmp c.loop-number.table.entries n c.in_ok-made.made) same ∙ ap (insert_entry int_cmp c.loop-number.table.entries c.loop-number-item.result.0) c.in_ok-made.ensures)
