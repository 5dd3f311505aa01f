-- The windows of a metric's instances: one more without a value, and a value more in one.
use Rattle.std.proofs.Common.{◌≡◌, ℤ, ◌≤◌, eqb, Bool, true, false, cond, ◌&&◌, List, [], ◌∷◌, ◌++◌, length, get_or, Option, Some, None, is_some, refl, sym, ap, ap₂, subst, ◌∙◌, arith}
use Rattle.std.specs.Prelude.{IsSome}
use Rattle.std.specs.declared.cmp.Ordering.{Ordering}
use Rattle.std.specs.declared.cmp.Ordering.TheVariants.{Less, Equal, Greater}
use Rattle.std.specs.Ordering.{int_cmp, int_eq, is_eq}
use Rattle.std.specs.FinMap.{int_cmp-IsAntisymmetric}
use Rattle.std.specs.BTreeMap.{get}
use Rattle.std.proofs.lemmas.Bool.{ne_eqb}
use Rattle.rule_watch.specs.declared.rule.Condition.{Condition}
use Rattle.rule_watch.specs.Aggregates.{aggregate_of}
use Rattle.rule_watch.specs.Groups.{Group}
use Rattle.rule_watch.specs.Holding.{compares, passes}
use Rattle.rule_watch.specs.Rules.{IsCondition}
use Rattle.rule_watch.specs.Shown.{values_kept}
use Rattle.rule_watch.specs.Watched.{HasWindows, Serves, Windows}
use Rattle.rule_watch.specs.Windows.{Recent, last}
use Rattle.rule_watch.proofs.Windows.{length_last}

is_equal : (o : Ordering) → is_eq o ≡ true → o ≡ Equal
is_equal Less h = cc
is_equal Equal h = refl
is_equal Greater h = cc

pub same_instance : (a b : ℤ) → int_eq a b ≡ true → a ≡ b
same_instance a b h = int_cmp-IsAntisymmetric a b (is_equal (int_cmp a b) h)

pub none_there : (o : Option Recent) → is_some o ≡ false → o ≡ None
none_there None h = refl
none_there (Some w) h = cc

pub some_cond : (b : Bool) (w : Recent) (o : Option Recent) → IsSome o → IsSome (cond b (Some w) o)
some_cond true w o h = refl
some_cond false w o h = h

pub serves_cond : (c : Condition) (b : Bool) (w : Recent) (o : Option Recent) → Serves c (Some w) → Serves c o → Serves c (cond b (Some w) o)
serves_cond c true w o new old = new
serves_cond c false w o new old = old

-- a window without a value
pub empty_kept : (b : Bool) (w : Recent) (o : Option Recent) → w.values ≡ [] → (b ≡ true → o ≡ None) → values_kept (cond b (Some w) o) ≡ values_kept o
empty_kept true w o empty absent = empty ∙ ap values_kept (sym (absent refl))
empty_kept false w o empty absent = refl

-- a window with one more value
pub pushed_serves : (c : Condition) (w : Recent) (vs : List ℤ) → Serves c (Some w) → Serves c (Some (record w { values = last w.size vs }))
pushed_serves c w vs serves = (serves.0, serves.1, subst (λ n. length (last w.size vs) ≤ n) serves.1 (length_last w.size vs))

pub pushed_kept : (c : Condition) (b : Bool) (w : Recent) (x : ℤ) (o : Option Recent) → Serves c (Some w) → (b ≡ true → o ≡ Some w)
    → values_kept (cond b (Some (record w { values = last w.size (w.values ++ x ∷ []) })) o) ≡ cond b (last c.size (values_kept o ++ x ∷ [])) (values_kept o)
pushed_kept c true w x o serves there = ap₂ (λ n vs. last n (vs ++ x ∷ [])) serves.1 (ap values_kept (sym (there refl)))
pushed_kept c false w x o serves there = refl

-- What a window tells

pub passes_is : (c : Condition) (w : Recent) → Serves c (Some w) → (eqb (length w.values) w.size && compares c.comparison (aggregate_of w.aggregate w.values) c.number) ≡ passes c w.values
passes_is c w serves = ap₂ (λ n a. eqb (length w.values) n && compares c.comparison (aggregate_of a w.values) c.number) serves.1 serves.0

pub none_passes : (c : Condition) → IsCondition c → false ≡ passes c []
none_passes c is = ap (λ b. b && compares c.comparison (aggregate_of c.aggregate []) c.number) (sym (ne_eqb 0 c.size (λ e. let some : 1 ≤ c.size = is.0 in absurd (omega arith))))

-- Windows of values

pub still_has : (old new : Windows) → ((q : ℤ) → IsSome (get int_cmp old q) → IsSome (get int_cmp new q)) → (values : Group) → HasWindows old values → HasWindows new values
still_has old new keeps values has k d below = keeps (get_or values k d).0 (has k d below)
