-- Places of metrics by item, as their table grows row by row.
use Rattle.std.proofs.Common.{◌≡◌, ℕ, suc, Bool, true, false, List, [], ◌∷◌, ◌++◌, append_assoc, ◌+◌, ◌<◌, length, take, get_or, Option, Some, None, is_some, ap, sym, subst, ◌∙◌, refl, cond, nat_eq, add-zero, All, arith}
use Rattle.std.specs.Prelude.{IfSome, slice_get}
use Rattle.std.specs.List.{find}
use Rattle.std.specs.Option.{option_or}
use Rattle.std.specs.Cmp.{unsigned_ties}
use Rattle.std.specs.Ordering.{nat_cmp, is_eq}
use Rattle.std.specs.BTreeMap.{BTreeMap, get}
use Rattle.std.proofs.Math.Seq.{get_or-append_seam}
use Rattle.std.proofs.lemmas.Bool.{eqb-true}
use Rattle.std.proofs.lemmas.List.{length-append, length-take-le, take_more}
use Rattle.std.proofs.lemmas.Option.{slice_get_read}
use Rattle.mmv_layout.specs.declared.rows.MetricRow.{MetricRow}
use Rattle.fetch_answers.specs.Answers.{metric_with}
use Rattle.fetch_answers.specs.Bounds.{FitsMetric}
use Rattle.fetch_answers.specs.Indexes.{HasPlaces, place_from}

none_is : (o : Option ℕ) → option_or o None ≡ o
none_is (Some x) = refl
none_is None = refl

some_stays : (o : Option ℕ) (x : ℕ) → is_some o ≡ true → o ≡ option_or o (Some x)
some_stays (Some y) x h = refl
some_stays None x h = cc

-- an item that was there keeps its place
pub old_stays : (table : BTreeMap ℕ ℕ) (key place item : ℕ) → is_some (get nat_cmp table key) ≡ true
    → get nat_cmp table item ≡ option_or (get nat_cmp table item) (cond (nat_eq key item) (Some place) None)
old_stays table key place item there = here (nat_eq key item) refl
  where
    here : (b : Bool) → nat_eq key item ≡ b → get nat_cmp table item ≡ option_or (get nat_cmp table item) (cond b (Some place) None)
    here true e = some_stays (get nat_cmp table item) place (ap (λ k. is_some (get nat_cmp table k)) (sym (eqb-true key item e)) ∙ there)
    here false e = sym (none_is (get nat_cmp table item))

-- and one that wasn't has this place
pub new_found : (old new : BTreeMap ℕ ℕ) (key place item : ℕ) → get nat_cmp old key ≡ None
    → ((q : ℕ) → get nat_cmp new q ≡ cond (is_eq (nat_cmp key q)) (Some place) (get nat_cmp old q))
    → get nat_cmp new item ≡ option_or (get nat_cmp old item) (cond (nat_eq key item) (Some place) None)
new_found old new key place item none after =
    after item ∙ ap (λ b. cond b (Some place) (get nat_cmp old item)) (sym (unsigned_ties key item)) ∙ here (nat_eq key item) refl
  where
    here : (b : Bool) → nat_eq key item ≡ b → cond b (Some place) (get nat_cmp old item) ≡ option_or (get nat_cmp old item) (cond b (Some place) None)
    here true e = ap (λ o. option_or o (Some place)) (sym (ap (get nat_cmp old) (sym (eqb-true key item e)) ∙ none))
    here false e = sym (none_is (get nat_cmp old item))

-- the place behind all others is an item's only where it has no other one
place_behind : (item n : ℕ) (rows : List MetricRow) (row : MetricRow)
    → place_from item n (rows ++ row ∷ []) ≡ option_or (place_from item n rows) (cond (nat_eq row.item item) (Some (n + length rows)) None)
place_behind item n [] row = ap (λ (m : ℕ). cond (nat_eq row.item item) (Some m) None) (sym (add-zero n))
place_behind item n (r ∷ rs) row =
    let next : suc n + length rs ≡ n + suc (length rs) = omega arith in
    here (nat_eq r.item item) (place_behind item (suc n) rs row ∙ ap (λ (m : ℕ). option_or (place_from item (suc n) rs) (cond (nat_eq row.item item) (Some m) None)) next)
  where
    here : (b : Bool) → place_from item (suc n) (rs ++ row ∷ []) ≡ option_or (place_from item (suc n) rs) (cond (nat_eq row.item item) (Some (n + suc (length rs))) None)
        → cond b (Some n) (place_from item (suc n) (rs ++ row ∷ [])) ≡ option_or (cond b (Some n) (place_from item (suc n) rs)) (cond (nat_eq row.item item) (Some (n + suc (length rs))) None)
    here true rest = refl
    here false rest = rest

-- the next of many metrics
pub places_step : (old new : BTreeMap ℕ ℕ) (rows : List MetricRow) (k : ℕ) (row d : MetricRow) → k < length rows → row ≡ get_or rows k d → HasPlaces old (take k rows)
    → ((item : ℕ) → get nat_cmp new item ≡ option_or (get nat_cmp old item) (cond (nat_eq row.item item) (Some k) None)) → HasPlaces new (take (k + 1) rows)
places_step old new rows k row d below is has keeps item =
    let many : length (take k rows) ≡ k = length-take-le k rows (omega arith) in
    let first : 0 + length (take k rows) ≡ k = omega arith in
    keeps item ∙ ap (λ (o : Option ℕ). option_or o (cond (nat_eq row.item item) (Some k) None)) (has item)
    ∙ ap (λ (m : ℕ). option_or (place_from item 0 (take k rows)) (cond (nat_eq row.item item) (Some m) None)) (sym first)
    ∙ sym (place_behind item 0 (take k rows) row)
    ∙ ap (λ (s : MetricRow). place_from item 0 (take k rows ++ s ∷ [])) is
    ∙ ap (place_from item 0) (sym (take_more rows k d below))

-- the metric at a place, if there is one
abbrev pub at_place : List MetricRow → Option ℕ → Option MetricRow
at_place rows None = None
at_place rows (Some place) = slice_get rows place

here_is : (front : List MetricRow) (row : MetricRow) (rows : List MetricRow) → slice_get (front ++ row ∷ rows) (length front) ≡ Some row
here_is front row rows =
    let long : length (front ++ row ∷ rows) ≡ length front + suc (length rows) = length-append front (row ∷ rows) in
    slice_get_read (front ++ row ∷ rows) (length (front ++ row ∷ rows)) (length front) row refl (omega arith) (sym (get_or-append_seam front row rows row))

-- that at an item's place is its metric
pub find_there : (item : ℕ) (front rows : List MetricRow) → at_place (front ++ rows) (place_from item (length front) rows) ≡ metric_with item rows
find_there item front [] = refl
find_there item front (r ∷ rs) =
    let long : length (front ++ r ∷ []) ≡ length front + 1 = length-append front (r ∷ []) in
    let longer : length (front ++ r ∷ []) ≡ suc (length front) = omega arith in
    here (nat_eq r.item item)
    (subst (λ (k : ℕ). at_place (front ++ r ∷ rs) (place_from item k rs) ≡ metric_with item rs) longer
    (subst (λ (ms : List MetricRow). at_place ms (place_from item (length (front ++ r ∷ [])) rs) ≡ metric_with item rs) (append_assoc front (r ∷ []) rs) (find_there item (front ++ r ∷ []) rs)))
  where
    here : (b : Bool) → at_place (front ++ r ∷ rs) (place_from item (suc (length front)) rs) ≡ metric_with item rs
        → at_place (front ++ r ∷ rs) (cond b (Some (length front)) (place_from item (suc (length front)) rs)) ≡ cond b (Some r) (metric_with item rs)
    here true rest = here_is front r rs
    here false rest = rest

-- what holds of each item holds of the one that is found
pub find_fits : {X : Type 0} (P : X → Type 0) (p : X → Bool) (xs : List X) → All P xs → IfSome (find p xs) P
find_fits P p [] h = tt
find_fits P p (x ∷ xs) h = here (p x) (h 0 x (omega arith)) (find_fits P p xs (λ k d below. h (suc k) d (omega arith)))
  where
    here : (b : Bool) → P x → IfSome (find p xs) P → IfSome (cond b (Some x) (find p xs)) P
    here true first later = first
    here false first later = later

pub metric_fits : (item : ℕ) (rows : List MetricRow) (found : Option MetricRow) → All FitsMetric rows → found ≡ metric_with item rows → IfSome found FitsMetric
metric_fits item rows found fit is = subst (λ (o : Option MetricRow). IfSome o FitsMetric) (sym is) (find_fits FitsMetric (λ (m : MetricRow). nat_eq m.item item) rows fit)
