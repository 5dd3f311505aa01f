-- An instance that passes is found, or is one more that doesn't.
use Rattle.std.proofs.Common.{◌≡◌, ℕ, ℤ, pos, ◌<◌, Bool, ◌||◌, length, get_or, FitsSigned, sym, ap, ap₂, ◌∙◌, arith, rules}
use Rattle.std.specs.Int.{w32}
use Rattle.std.proofs.lemmas.Int.{to_z-of_z}
use Rattle.std.proofs.lemmas.List.Folds.{list_any_at, list_any_more}
use Rattle.rule_watch.specs.Groups.{Group}
use Rattle.rule_watch.specs.Holding.{passes}
use Rattle.rule_watch.specs.Watched.{kept}
use Rattle.rule_watch.proofs.streams.any_passes.Goals as goal

pub returns-then-passes : goal.returns-then-passes
returns-then-passes c =
    let values : Group = c.args.values.now in
    let i : ℕ = c.loop-value.value-index in
    let v : ℤ × ℤ = get_or values i (pos 0, pos 0) in
    let test : ℤ × ℤ → Bool = λ v. passes c.args.condition.now (kept c.args.windows.now v.0) in
    let below : i < length values = omega arith in
    let fits : FitsSigned w32 v.0 = search rules in
    let told : test v ≡ c.passes.result = ap (λ q. passes c.args.condition.now (kept c.args.windows.now q)) (sym (to_z-of_z w32 v.0 fits)) ∙ sym c.passes.ensures in
    sym (list_any_at test values i (pos 0, pos 0) below (told ∙ c.if-passes.true))

pub loop-value-preserved : goal.loop-value-preserved
loop-value-preserved c =
    let values : Group = c.args.values.now in
    let i : ℕ = c.loop-value.value-index in
    let v : ℤ × ℤ = get_or values i (pos 0, pos 0) in
    let test : ℤ × ℤ → Bool = λ v. passes c.args.condition.now (kept c.args.windows.now v.0) in
    let below : i < length values = omega arith in
    let fits : FitsSigned w32 v.0 = search rules in
    let told : test v ≡ c.passes.result = ap (λ q. passes c.args.condition.now (kept c.args.windows.now q)) (sym (to_z-of_z w32 v.0 fits)) ∙ sym c.passes.ensures in
    list_any_more test values i (pos 0, pos 0) below ∙ ap₂ (λ a b. a || b) c.loop-value.invariant (told ∙ c.if-passes.false)
