-- A value goes into its instance's window.
use Rattle.std.proofs.Common.{ℕ, ℤ, pos, ◌<◌, cond, [], ◌∷◌, ◌++◌, length, get_or, FitsSigned, sym, ap₂, ◌∙◌, subst, arith, rules}
use Rattle.std.specs.Prelude.{IsSome}
use Rattle.std.specs.Int.{w32, w128}
use Rattle.std.specs.Ordering.{int_cmp, int_eq}
use Rattle.std.specs.BTreeMap.{get}
use Rattle.std.proofs.lemmas.Int.{to_z-of_z}
use Rattle.std.proofs.lemmas.List.{get_or_default}
use Rattle.rule_watch.specs.Groups.{Group}
use Rattle.rule_watch.specs.Watched.{Windows, kept}
use Rattle.rule_watch.specs.Windows.{last}
use Rattle.rule_watch.proofs.InstanceWindows.{still_has}
use Rattle.rule_watch.proofs.Rows.{numbers_own}
use Rattle.rule_watch.proofs.streams.push_values.Goals as goal

pub push_value-requires-clause-window : goal.push_value-requires-clause-window
push_value-requires-clause-window c =
    let values : Group = c.args.values.now in
    let i : ℕ = c.loop-value.value-index in
    let v : ℤ × ℤ = get_or values i (pos 0, pos 0) in
    let below : i < length values = omega arith in
    let fits : FitsSigned w32 v.0 = search rules in
    subst (λ n. IsSome (get int_cmp c.loop-value.windows n)) (sym (to_z-of_z w32 v.0 fits)) (c.loop-value.invariant.windows i (pos 0, pos 0) below)

pub loop-value-preserved : goal.loop-value-preserved
loop-value-preserved c =
    let values : Group = c.args.values.now in
    let size = c.args.condition.now.size in
    let i : ℕ = c.loop-value.value-index in
    let v : ℤ × ℤ = get_or values i (pos 0, pos 0) in
    let below : i < length values = omega arith in
    let old : Windows = c.loop-value.windows in
    let fits : FitsSigned w32 v.0 = search rules in
    let wide : FitsSigned w128 v.1 = search rules in
    record {
      serve = c.push_value.ensures.serve;
      windows = still_has old c.push_value.new.windows c.push_value.ensures.keeps values c.loop-value.invariant.windows;
      values = λ q.
          c.push_value.ensures.values q
          ∙ ap₂ (λ (n x : ℤ). cond (int_eq n q) (last size (kept old q ++ x ∷ [])) (kept old q)) (to_z-of_z w32 v.0 fits) (to_z-of_z w128 v.1 wide)
          ∙ numbers_own values i v below (get_or_default values i (pos 0, pos 0) v below) q size (kept c.args.windows.now q) (kept old q) (c.loop-value.invariant.values q);
    }
