use Rattle.std.proofs.Common.{◌≡◌, ℤ, true, length, w32, to_z, of_z, rules, refl, subst, arith}
use Rattle.std.specs.BTreeSet.{Updates}
use Rattle.std.specs.Ordering.{int_cmp}
use Rattle.std.proofs.lemmas.Int.{to_z-of_z}
use Rattle.std.proofs.lemmas.Option.{slice_get_read}
use Rattle.archive_merge.proofs.Lookups.{numbers_step}
use Rattle.archive_merge.proofs.lists.numbers_of.Goals as goal

pub loop-number-preserved : goal.loop-number-preserved
loop-number-preserved c =
    let same : to_z w32 (of_z w32 c.loop-number-item.result.0) ≡ c.loop-number-item.result.0 = to_z-of_z w32 c.loop-number-item.result.0 (search rules) in
    numbers_step c.loop-number.numbers c.insert.new.self c.args.pairs.now c.loop-number.number-index c.loop-number-item.result
    (slice_get_read c.args.pairs.now (length c.args.pairs.now) c.loop-number.number-index c.loop-number-item.result refl (omega arith) c.loop-number-item.is)
    (subst (λ (n : ℤ). Updates int_cmp c.loop-number.numbers c.insert.new.self n true) same c.in_ok-insert.ensures.updates) c.loop-number.invariant
