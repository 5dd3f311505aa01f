-- One instance more was inserted.
use Rattle.std.proofs.Common.{◌≡◌, ℤ, pos, true, cond, ap, ◌∙◌, refl, get_or, w32, to_z, of_z, rules, arith}
use Rattle.std.proofs.lemmas.Int.{to_z-of_z}
use Rattle.std.specs.Ordering.{int_cmp, is_eq}
use Rattle.std.specs.BTreeSet.{contains}
use Rattle.profile_filter.proofs.Parts.{listed_step}
use Rattle.profile_filter.proofs.choices.set_of.Goals as goal

pub loop-instance-preserved : goal.loop-instance-preserved
loop-instance-preserved c =
    let one : ℤ = get_or c.args.instances.now c.loop-instance.instance-index (pos 0) in
    let same : to_z w32 (of_z w32 one) ≡ one = to_z-of_z w32 one (search rules) in
    listed_step c.loop-instance.set c.insert.new.self c.args.instances.now c.loop-instance.instance-index one (pos 0) (omega arith) refl c.loop-instance.invariant
    (λ q. c.in_ok-insert.ensures.updates.0 q ∙ ap (λ (n : ℤ). cond (is_eq (int_cmp n q)) true (contains int_cmp c.loop-instance.set q)) same)
