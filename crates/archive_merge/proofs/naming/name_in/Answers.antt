use Rattle.std.proofs.Common.{◌≡◌, ℤ, w32, to_z, of_z, rules, sym, ap, ◌∙◌, subst, Some}
use Rattle.std.proofs.lemmas.Int.{to_z-of_z}
use Rattle.archive_merge.specs.Naming.{name_in}
use Rattle.archive_merge.proofs.Lookups.{name_behind, name_here, same_number}
use Rattle.archive_merge.proofs.naming.name_in.Goals as goal

pub returns-then-number-instance : goal.returns-then-number-instance
returns-then-number-instance c =
    let same : to_z w32 (of_z w32 c.args.instance) ≡ c.args.instance = to_z-of_z w32 c.args.instance (search rules) in
    let equal : c.in-Some.number ≡ c.args.instance = same_number c.in-Some.number c.args.instance (search rules) (search rules) c.if-number-instance.true in
    subst (λ (n : ℤ). name_in n c.args.pairs.now ≡ Some c.in-Some.name.now) same
    (sym c.loop-at.invariant ∙ name_here (to_z w32 (of_z w32 c.args.instance)) c.args.pairs.now c.loop-at.at (c.in-Some.number, c.in-Some.name.now) c.in-Some.ensures.pair (equal ∙ sym same))

pub loop-at-preserved : goal.loop-at-preserved
loop-at-preserved c =
    let same : to_z w32 (of_z w32 c.args.instance) ≡ c.args.instance = to_z-of_z w32 c.args.instance (search rules) in
    name_behind (to_z w32 (of_z w32 c.args.instance)) c.args.pairs.now c.loop-at.at (c.in-Some.number, c.in-Some.name.now) c.in-Some.ensures.pair
    (λ (e : c.in-Some.number ≡ to_z w32 (of_z w32 c.args.instance)). c.if-number-instance.false (ap (of_z w32) (e ∙ same))) ∙ c.loop-at.invariant
