-- The values of an image's metric are of instances of its domain.
use Rattle.std.proofs.Common.{◌≡◌, ℕ, suc, ℤ, Bool, true, false, ◌&&◌, ◌||◌, cond, nat_eq, List, [], ◌∷◌, fold, Option, Some, None, refl, sym, ◌∙◌, subst, arith}
use Rattle.std.specs.Prelude.{unwrap_or, negsuc}
use Rattle.std.specs.BTreeMap.{insert_entry}
use Rattle.std.specs.List.{AllByRecursion, find, list_any}
use Rattle.std.specs.Ordering.{int_cmp, int_eq}
use Rattle.std.proofs.lemmas.Bool.{eqb-true, eqb-false}
use Rattle.std.proofs.lemmas.Bool.Decides.{Decides-int_eq}
use Rattle.mmv_layout.specs.declared.rows.IndomRow.{IndomRow}
use Rattle.mmv_layout.specs.declared.rows.Layout.{Layout}
use Rattle.mmv_layout.specs.declared.rows.MetricRow.{MetricRow}
use Rattle.mmv_layout.specs.declared.rows.ValueRow.{ValueRow}
use Rattle.mmv_writer.specs.Draft.{Each, Apart, is_same_serial, IsValue, IsDraft}
use Rattle.mmv_writer.specs.Rules.{is_same_metric, has_instance, fits_instance, fits_kind, fits_metric}
use Rattle.fetch_answers.specs.Answers.{metric_with, row_instances}
use Rattle.fetch_answers.specs.Values.{ByInstance, instance_in, with_value, values_with}
use Rattle.run_archive.proofs.Keys.{HasInstance, listed_there, listed_stays, keys_with}

-- ---- rules by index are rules by recursion

pub each_row : {T : Type 0} (P : T → Type 0) (rows : List T) → Each P rows → AllByRecursion P rows
each_row P [] each = tt
each_row P (row ∷ rows) each = (each 0 row refl, each_row P rows (λ i other at. each (suc i) other at))

-- each row differs from those behind it
abbrev pub Differ : {T : Type 0} → (T → T → Bool) → List T → Type 0
Differ same [] = Unit {0}
Differ same (row ∷ rows) = AllByRecursion (λ other. same row other ≡ false) rows × Differ same rows

pub all_differ : {T : Type 0} (same : T → T → Bool) (rows : List T) → Apart same rows → Differ same rows
all_differ same [] apart = tt
all_differ same (row ∷ rows) apart = (
  each_row (λ other. same row other ≡ false) rows (λ j other at. apart 0 (suc j) row other (omega arith) refl at),
  all_differ same rows (λ i j a b less at_i at_j. apart (suc i) (suc j) a b (omega arith) at_i at_j),
)

and_left : (a b : Bool) → (a && b) ≡ true → a ≡ true
and_left true b h = refl
and_left false b h = h

and_right : (a b : Bool) → (a && b) ≡ true → b ≡ true
and_right true b h = h
and_right false b h = cc

or_left : (a b : Bool) → (a || b) ≡ false → a ≡ false
or_left true b h = h
or_left false b h = refl

-- ---- a row that is the only one of its key is the one that is found

module _ {T : Type 0} (key : T → ℕ) (k : ℕ) (test : T → Bool) (needs : (row : T) → test row ≡ true → key row ≡ k) where
  no_other : (row : T) (rows : List T) → key row ≡ k → AllByRecursion (λ other. nat_eq (key row) (key other) ≡ false) rows → list_any test rows ≡ true → ⊥
  no_other row [] here differ some = cc
  no_other row (other ∷ rows) here differ some = by (test other) refl some (λ h. no_other row rows here differ.1 h)
    where
      by : (b : Bool) → test other ≡ b → (b || list_any test rows) ≡ true → (list_any test rows ≡ true → ⊥) → ⊥
      by true e h more = eqb-false (key row) (key other) differ.0 (here ∙ sym (needs other e))
      by false e h more = more h

  pub found_row : (rows : List T) (found : Option T) → Differ (λ a b. nat_eq (key a) (key b)) rows → list_any test rows ≡ true → find (λ row. nat_eq (key row) k) rows ≡ found
      → (row : T) × (found ≡ Some row) × (test row ≡ true)
  found_row [] found differ some is = cc
  found_row (row ∷ rows) found differ some is = by (nat_eq (key row) k) refl (test row) refl some is (λ h j. found_row rows found differ.1 h j)
    where
      by : (b : Bool) → nat_eq (key row) k ≡ b → (c : Bool) → test row ≡ c → (c || list_any test rows) ≡ true → cond b (Some row) (find (λ r. nat_eq (key r) k) rows) ≡ found
          → (list_any test rows ≡ true → find (λ r. nat_eq (key r) k) rows ≡ found → (r : T) × (found ≡ Some r) × (test r ≡ true))
          → (r : T) × (found ≡ Some r) × (test r ≡ true)
      by true e true f h is more = (row, sym is, f)
      by true e false f h is more = absurd (no_other row rows (eqb-true (key row) k e) differ.0 h)
      by false e true f h is more = absurd (eqb-false (key row) k e (needs row f))
      by false e false f h is more = more h is

-- ---- instances of a domain

in_fold : (instances list : List (ℤ × List ℕ)) (id : ℤ) → HasInstance id list → HasInstance id (fold (λ (l : List (ℤ × List ℕ)) (one : ℤ × List ℕ). insert_entry int_cmp l one.0 one.1) list instances)
in_fold [] list id m = m
in_fold (one ∷ instances) list id m = in_fold instances (insert_entry int_cmp list one.0 one.1) id (listed_stays list one.0 id one.1 m)

any_listed : (instances list : List (ℤ × List ℕ)) (id : ℤ) → list_any (λ (other : ℤ × List ℕ). int_eq other.0 id) instances ≡ true
    → HasInstance id (fold (λ (l : List (ℤ × List ℕ)) (one : ℤ × List ℕ). insert_entry int_cmp l one.0 one.1) list instances)
any_listed [] list id some = cc
any_listed (one ∷ instances) list id some = by (int_eq one.0 id) refl some (λ h. any_listed instances (insert_entry int_cmp list one.0 one.1) id h)
  where
    same : int_eq one.0 id ≡ true → one.0 ≡ id
    same e = (Decides-int_eq one.0 id).0 e

    by : (b : Bool) → int_eq one.0 id ≡ b → (b || list_any (λ (other : ℤ × List ℕ). int_eq other.0 id) instances) ≡ true
        → (list_any (λ (other : ℤ × List ℕ). int_eq other.0 id) instances ≡ true → HasInstance id (fold (λ (l : List (ℤ × List ℕ)) (o : ℤ × List ℕ). insert_entry int_cmp l o.0 o.1) (insert_entry int_cmp list one.0 one.1) instances))
        → HasInstance id (fold (λ (l : List (ℤ × List ℕ)) (o : ℤ × List ℕ). insert_entry int_cmp l o.0 o.1) (insert_entry int_cmp list one.0 one.1) instances)
    by true e h more = in_fold instances (insert_entry int_cmp list one.0 one.1) id (subst (λ i. HasInstance i (insert_entry int_cmp list one.0 one.1)) (same e) (listed_there list one.0 one.1))
    by false e h more = more h

domain_has : (indoms : List IndomRow) (serial : ℕ) (id : ℤ) → Apart is_same_serial indoms → has_instance indoms serial id ≡ true
    → HasInstance id (row_instances (find (λ (row : IndomRow). nat_eq row.serial serial) indoms))
domain_has indoms serial id apart has =
    let f = found_row (λ (row : IndomRow). row.serial) serial (λ (row : IndomRow). nat_eq row.serial serial && list_any (λ (other : ℤ × List ℕ). int_eq other.0 id) row.instances)
    (λ row h. eqb-true row.serial serial (and_left (nat_eq row.serial serial) _ h)) indoms (find (λ (row : IndomRow). nat_eq row.serial serial) indoms)
    (all_differ is_same_serial indoms apart) has refl in
    subst (λ o. HasInstance id (row_instances o)) (sym f.1) (any_listed f.0.instances [] id (and_right (nat_eq f.0.serial serial) _ f.2))

-- ---- values of a metric with a domain

same_items : (metrics : List MetricRow) → Differ is_same_metric metrics → Differ (λ (a b : MetricRow). nat_eq a.item b.item) metrics
same_items [] differ = tt
same_items (m ∷ metrics) differ = (all_items metrics differ.0, same_items metrics differ.1)
  where
    all_items : (rows : List MetricRow) → AllByRecursion (λ other. is_same_metric m other ≡ false) rows → AllByRecursion (λ (other : MetricRow). nat_eq m.item other.item ≡ false) rows
    all_items [] all = tt
    all_items (row ∷ rows) all = (or_left (nat_eq m.item row.item) _ all.0, all_items rows all.1)

module _ (layout : Layout) (draft : IsDraft layout) (metric : MetricRow) (serial : ℕ) (domain : metric.serial ≡ Some serial) (found : metric_with metric.item layout.metrics ≡ Some metric) where
  abbrev IsOf : ℤ → Type 0
  IsOf id = HasInstance id (row_instances (find (λ (row : IndomRow). nat_eq row.serial serial) layout.indoms))

  of_domain : (row : ValueRow) → fits_instance layout.indoms metric.serial row.instance ≡ true → IsOf (instance_in row)
  of_domain row fits = by row.instance (subst (λ s. fits_instance layout.indoms s row.instance ≡ true) domain fits)
    where
      by : (instance : Option ℤ) → fits_instance layout.indoms (Some serial) instance ≡ true → IsOf (unwrap_or instance (negsuc 0))
      by None h = cc
      by (Some id) h = domain_has layout.indoms serial id draft.serials h

  row_of : (row : ValueRow) → IsValue layout.indoms layout.metrics row → nat_eq row.item metric.item ≡ true → IsOf (instance_in row)
  row_of row value same =
      let item : row.item ≡ metric.item = eqb-true row.item metric.item same in
      let f = found_row (λ (m : MetricRow). m.item) metric.item (λ m. fits_metric layout.indoms row m) (λ m h. eqb-true m.item row.item (and_left (nat_eq m.item row.item) _ h) ∙ item)
      layout.metrics (Some metric) (same_items layout.metrics (all_differ is_same_metric layout.metrics draft.items)) value.metric found in
      let is : metric ≡ f.0 = let e : Some metric ≡ Some f.0 = f.1 in cc in
      of_domain row (subst (λ (m : MetricRow). fits_instance layout.indoms m.serial row.instance ≡ true) (sym is) (and_left _ (fits_kind f.0.kind row.content) (and_right (nat_eq f.0.item row.item) _ f.2)))

  all_of : (rows : List ValueRow) (values : ByInstance) → AllByRecursion (IsValue layout.indoms layout.metrics) rows → AllByRecursion (λ v. IsOf v.0) values
      → AllByRecursion (λ v. IsOf v.0) (fold (with_value metric.item) values rows)
  all_of [] values each so_far = so_far
  all_of (row ∷ rows) values each so_far = all_of rows (with_value metric.item values row) each.1 (by (nat_eq row.item metric.item) refl)
    where
      by : (b : Bool) → nat_eq row.item metric.item ≡ b → AllByRecursion (λ v. IsOf v.0) (cond b (insert_entry int_cmp values (instance_in row) row.content) values)
      by true e = keys_with IsOf values (instance_in row) row.content so_far (row_of row each.0 e)
      by false e = so_far

  pub values_are_of : AllByRecursion (λ v. IsOf v.0) (values_with metric.item layout.values)
  values_are_of = all_of layout.values [] (each_row (IsValue layout.indoms layout.metrics) layout.values draft.values) tt
