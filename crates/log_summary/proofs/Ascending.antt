-- Entries that stand where an order has them: what is found once one more is put in, and that they go on ascending.
use Rattle.std.proofs.Common.{◌≡◌, Bool, true, false, cond, List, [], ◌∷◌, Option, Some, refl, sym, ap, ◌∙◌, true≢false}
use Rattle.std.proofs.lemmas.Cmp.{alike_right}
use Rattle.std.specs.BTreeMap.{insert_entry, is_at}
use Rattle.std.specs.Cmp.{IsTotalOrder}
use Rattle.std.specs.List.{AllByRecursion}
use Rattle.std.specs.Map.{lookup}
use Rattle.std.specs.Ordering.{is_eq, match_ordering, ordering_reverse}
use Rattle.std.specs.declared.cmp.Ordering.{Ordering}
use Rattle.std.specs.declared.cmp.Ordering.TheVariants.{Less, Equal, Greater}

is_equal : (o : Ordering) → is_eq o ≡ true → o ≡ Equal
is_equal Less h = absurd (true≢false (sym h))
is_equal Equal h = refl
is_equal Greater h = absurd (true≢false (sym h))

-- two keys that are both a third one are one
alike : {K : Type 0} (R : K → K → Ordering) → IsTotalOrder R → (q k e : K) → is_eq (R q k) ≡ true → is_eq (R q e) ≡ true → R k e ≡ Equal
alike R total q k e h g = sym (total.congr q k e (is_equal (R q k) h)) ∙ is_equal (R q e) g

module _ {K X : Type 0} (R : K → K → Ordering) (total : IsTotalOrder R) where
  -- ---- what is found

  found_first : (q k : K) (v : X) (e : K × X) (es : List (K × X)) → R k e.0 ≡ Equal
      → cond (is_eq (R q e.0)) (Some v) (lookup (is_at (R q)) es) ≡ cond (is_eq (R q k)) (Some v) (cond (is_eq (R q e.0)) (Some e.1) (lookup (is_at (R q)) es))
  found_first q k v e es h = by (is_eq (R q e.0)) ∙ ap (λ b. cond b (Some v) (cond (is_eq (R q e.0)) (Some e.1) (lookup (is_at (R q)) es))) (ap is_eq (sym (alike_right total k e.0 q h)))
    where
      by : (b : Bool) → cond b (Some v) (lookup (is_at (R q)) es) ≡ cond b (Some v) (cond b (Some e.1) (lookup (is_at (R q)) es))
      by true = refl
      by false = refl

  found_later : (q k : K) (v : X) (e : K × X) (o : Option X) → R k e.0 ≡ Greater
      → cond (is_eq (R q e.0)) (Some e.1) (cond (is_eq (R q k)) (Some v) o) ≡ cond (is_eq (R q k)) (Some v) (cond (is_eq (R q e.0)) (Some e.1) o)
  found_later q k v e o h = by (is_eq (R q e.0)) refl (is_eq (R q k)) refl
    where
      by : (b : Bool) → is_eq (R q e.0) ≡ b → (c : Bool) → is_eq (R q k) ≡ c → cond b (Some e.1) (cond c (Some v) o) ≡ cond c (Some v) (cond b (Some e.1) o)
      by true p true r = absurd (true≢false (sym (ap is_eq (alike R total q k e.0 r p)) ∙ ap is_eq h))
      by true p false r = refl
      by false p true r = refl
      by false p false r = refl

  -- what is found once an entry is put in
  pub found_behind : (q k : K) (v : X) (es : List (K × X)) → lookup (is_at (R q)) (insert_entry R es k v) ≡ cond (is_eq (R q k)) (Some v) (lookup (is_at (R q)) es)
  found_behind q k v [] = refl
  found_behind q k v (e ∷ es) = by (R k e.0) refl (found_behind q k v es)
    where
      by : (o : Ordering) → R k e.0 ≡ o → lookup (is_at (R q)) (insert_entry R es k v) ≡ cond (is_eq (R q k)) (Some v) (lookup (is_at (R q)) es)
          → lookup (is_at (R q)) (match_ordering o ((k, v) ∷ e ∷ es) ((e.0, v) ∷ es) (e ∷ insert_entry R es k v)) ≡ cond (is_eq (R q k)) (Some v) (lookup (is_at (R q)) (e ∷ es))
      by Less h again = refl
      by Equal h again = found_first q k v e es h
      by Greater h again = ap (λ (o : Option X). cond (is_eq (R q e.0)) (Some e.1) o) again ∙ found_later q k v e (lookup (is_at (R q)) es) h

  -- ---- what holds of all entries, and of their order

  pub all_behind : (P : K → Type 0) (k : K) (v : X) (es : List (K × X)) → AllByRecursion (λ (e : K × X). P e.0) es → P k → AllByRecursion (λ (e : K × X). P e.0) (insert_entry R es k v)
  all_behind P k v [] all one = (one, tt)
  all_behind P k v (e ∷ es) all one = by (R k e.0) (all_behind P k v es all.1 one)
    where
      by : (o : Ordering) → AllByRecursion (λ (e : K × X). P e.0) (insert_entry R es k v) → AllByRecursion (λ (e : K × X). P e.0) (match_ordering o ((k, v) ∷ e ∷ es) ((e.0, v) ∷ es) (e ∷ insert_entry R es k v))
      by Less again = (one, all)
      by Equal again = all
      by Greater again = (all.0, again)

  -- each entry's key is below those of the entries behind it
  abbrev pub Rise : List (K × X) → Type 0
  Rise [] = Unit {0}
  Rise (e ∷ es) = AllByRecursion (λ (f : K × X). R e.0 f.0 ≡ Less) es × Rise es

  above_too : (k : K) (e : K × X) (es : List (K × X)) → R k e.0 ≡ Less → AllByRecursion (λ (f : K × X). R e.0 f.0 ≡ Less) es → AllByRecursion (λ (f : K × X). R k f.0 ≡ Less) es
  above_too k e [] lt all = tt
  above_too k e (f ∷ es) lt all = (total.trans k e.0 f.0 lt all.0, above_too k e es lt all.1)

  pub rise_behind : (k : K) (v : X) (es : List (K × X)) → Rise es → Rise (insert_entry R es k v)
  rise_behind k v [] rise = (tt, tt)
  rise_behind k v (e ∷ es) rise = by (R k e.0) refl (rise_behind k v es rise.1)
    where
      by : (o : Ordering) → R k e.0 ≡ o → Rise (insert_entry R es k v) → Rise (match_ordering o ((k, v) ∷ e ∷ es) ((e.0, v) ∷ es) (e ∷ insert_entry R es k v))
      by Less h again = ((h, above_too k e es h rise.0), rise)
      by Equal h again = rise
      by Greater h again = (all_behind (λ (x : K). R e.0 x ≡ Less) k v es rise.0 (total.antisymm e.0 k ∙ ap ordering_reverse h), again)
