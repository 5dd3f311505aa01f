-- Rows of values by their numbers, and what an image says of them.
use Rattle.std.proofs.Common.{◌≡◌, ℕ, ℤ, zero, suc, ◌+◌, ◌<◌, Bool, true, false, List, [], ◌∷◌, length, take, get_or, map, fold, Option, Some, None, All, ap, sym, subst, ◌∙◌, refl, cond, nat_eq, add-zero, arith}
use Rattle.std.specs.Cmp.{unsigned_ties}
use Rattle.std.specs.declared.cmp.Ordering.{Ordering}
use Rattle.std.specs.declared.cmp.Ordering.TheVariants.{Less, Equal, Greater}
use Rattle.std.specs.Ordering.{nat_cmp, int_cmp, is_eq, match_ordering}
use Rattle.std.specs.BTreeMap.{BTreeMap, get, insert_entry}
use Rattle.std.proofs.lemmas.Bool.{eqb-true}
use Rattle.std.proofs.lemmas.List.{get_or-map, length-map, take_all}
use Rattle.std.proofs.lemmas.List.Sums.{fold_more}
use Rattle.mmv_layout.specs.Entries.{value_count, value_at}
use Rattle.mmv_layout.specs.Images.{IsImage}
use Rattle.mmv_layout.specs.declared.rows.Content.{Content}
use Rattle.mmv_layout.specs.declared.rows.MetricRow.{MetricRow}
use Rattle.mmv_layout.specs.declared.rows.ValueRow.{ValueRow}
use Rattle.mmv_layout.specs.Rows.{list_below, layout_of, value_row, values_of}
use Rattle.mmv_layout.proofs.RowLists.{rows_front, rows_length}
use Rattle.fetch_answers.specs.Indexes.{HasPlaces}
use Rattle.fetch_answers.specs.Numbers.{ByNumber, Subject, subject_of, enumeration, with_number, numbers_at, HasNumbers, content_at, contents_at}
use Rattle.std.specs.Prelude.{IfSome, slice_get}
use Rattle.fetch_answers.specs.Answers.{metric_with}
use Rattle.fetch_answers.specs.Bounds.{FitsMetric}
use Rattle.fetch_answers.proofs.Bounds.{whole}
use Rattle.fetch_answers.proofs.Indexes.{at_place, find_there, metric_fits as found_fits}
use Rattle.fetch_answers.specs.Values.{ByInstance, instance_in, with_value, values_with}

-- Tables as they grow

pub enumeration_at : (n : ℕ) (xs : List Subject) (k : ℕ) (d : ℕ × Subject) → k < length xs → get_or (enumeration n xs) k d ≡ (n + k, get_or xs k d.1)
enumeration_at n [] k d below = absurd (omega arith)
enumeration_at n (x ∷ xs) zero d below = ap (λ (m : ℕ). (m, x)) (sym (add-zero n))
enumeration_at n (x ∷ xs) (suc k) d below = let next : suc n + k ≡ n + suc k = omega arith in enumeration_at (suc n) xs k d (omega arith) ∙ ap (λ (m : ℕ). (m, get_or xs k d.1)) next

pub length-enumeration : (n : ℕ) (xs : List Subject) → length (enumeration n xs) ≡ length xs
length-enumeration n [] = refl
length-enumeration n (x ∷ xs) = let rest : length (enumeration (suc n) xs) ≡ length xs = length-enumeration (suc n) xs in omega arith

-- a row that was kept is among those of its item
pub row_kept : (old mid new : BTreeMap ℕ (BTreeMap ℤ ℕ)) (rows more : BTreeMap ℤ ℕ) (row : ValueRow) (number : ℕ) → rows.entries ≡ numbers_at (get nat_cmp old row.item)
    → ((other : ℕ) → nat_eq row.item other ≡ false → get nat_cmp mid other ≡ get nat_cmp old other) → more.entries ≡ insert_entry int_cmp rows.entries (instance_in row) number
    → ((q : ℕ) → get nat_cmp new q ≡ cond (is_eq (nat_cmp row.item q)) (Some more) (get nat_cmp mid q))
    → (item : ℕ) → numbers_at (get nat_cmp new item) ≡ with_number item (numbers_at (get nat_cmp old item)) (number, subject_of row)
row_kept old mid new rows more row number taken others added after item =
    ap numbers_at (after item) ∙ ap (λ b. numbers_at (cond b (Some more) (get nat_cmp mid item))) (sym (unsigned_ties row.item item)) ∙ here (nat_eq row.item item) refl
  where
    here : (b : Bool) → nat_eq row.item item ≡ b → numbers_at (cond b (Some more) (get nat_cmp mid item)) ≡ cond b (insert_entry int_cmp (numbers_at (get nat_cmp old item)) (instance_in row) number) (numbers_at (get nat_cmp old item))
    here true e = added ∙ ap (λ es. insert_entry int_cmp es (instance_in row) number) (taken ∙ ap (λ k. numbers_at (get nat_cmp old k)) (eqb-true row.item item e))
    here false e = ap numbers_at (others item e)

-- the next of many rows
pub rows_step : (old new : BTreeMap ℕ (BTreeMap ℤ ℕ)) (rows : List ValueRow) (k : ℕ) (row d : ValueRow) → k < length rows → row ≡ get_or rows k d → HasNumbers old (take k (enumeration 0 (map subject_of rows)))
    → ((item : ℕ) → numbers_at (get nat_cmp new item) ≡ with_number item (numbers_at (get nat_cmp old item)) (k, subject_of row)) → HasNumbers new (take (k + 1) (enumeration 0 (map subject_of rows)))
rows_step old new rows k row d below is has keeps item =
    let many : length (map subject_of rows) ≡ length rows = length-map rows subject_of in
    let wide : length (enumeration 0 (map subject_of rows)) ≡ length (map subject_of rows) = length-enumeration 0 (map subject_of rows) in
    let first : 0 + k ≡ k = omega arith in
    let there : get_or (enumeration 0 (map subject_of rows)) k (0, subject_of d) ≡ (k, subject_of row) =
    enumeration_at 0 (map subject_of rows) k (0, subject_of d) (omega arith) ∙ ap (λ (m : ℕ). (m, get_or (map subject_of rows) k (subject_of d))) first
    ∙ ap (λ (s : Subject). (k, s)) (get_or-map subject_of rows k d (subject_of d) below ∙ ap subject_of (sym is)) in
    keeps item ∙ ap (λ es. with_number item es (k, subject_of row)) (has item)
    ∙ ap (with_number item (fold (with_number item) [] (take k (enumeration 0 (map subject_of rows))))) (sym there)
    ∙ sym (fold_more (with_number item) [] (enumeration 0 (map subject_of rows)) k (0, subject_of d) (omega arith))

pub all_rows_kept : (table : BTreeMap ℕ (BTreeMap ℤ ℕ)) (rows : List ValueRow) (count : ℕ) → count ≡ length rows → HasNumbers table (take count (enumeration 0 (map subject_of rows))) → HasNumbers table (enumeration 0 (map subject_of rows))
all_rows_kept table rows count many has =
    let one : length (map subject_of rows) ≡ length rows = length-map rows subject_of in
    let wide : length (enumeration 0 (map subject_of rows)) ≡ length (map subject_of rows) = length-enumeration 0 (map subject_of rows) in
    subst (HasNumbers table) (take_all count (enumeration 0 (map subject_of rows)) (omega arith)) has

-- Contents by number

inserted : (f : ℕ → Content) (i : ℤ) (n : ℕ) (es : ByNumber) → map (λ e. (e.0, f e.1)) (insert_entry int_cmp es i n) ≡ insert_entry int_cmp (map (λ e. (e.0, f e.1)) es) i (f n)
inserted f i n [] = refl
inserted f i n (e ∷ es) = here (int_cmp i e.0) (inserted f i n es)
  where
    here : (o : Ordering) → map (λ e. (e.0, f e.1)) (insert_entry int_cmp es i n) ≡ insert_entry int_cmp (map (λ e. (e.0, f e.1)) es) i (f n)
        → map (λ e. (e.0, f e.1)) (match_ordering o ((i, n) ∷ e ∷ es) ((e.0, n) ∷ es) (e ∷ insert_entry int_cmp es i n))
        ≡ match_ordering o ((i, f n) ∷ (e.0, f e.1) ∷ map (λ e. (e.0, f e.1)) es) ((e.0, f n) ∷ map (λ e. (e.0, f e.1)) es) ((e.0, f e.1) ∷ insert_entry int_cmp (map (λ e. (e.0, f e.1)) es) i (f n))
    here Less rest = refl
    here Equal rest = refl
    here Greater rest = ap (λ (xs : ByInstance). (e.0, f e.1) ∷ xs) rest

-- where each row's content is that of its number, the rows' contents are the values
folded : (f : ℕ → Content) (item n : ℕ) (rows : List ValueRow) (numbers : ByNumber) → ((k : ℕ) (d : ValueRow) → k < length rows → (get_or rows k d).content ≡ f (n + k))
    → map (λ e. (e.0, f e.1)) (fold (with_number item) numbers (enumeration n (map subject_of rows))) ≡ fold (with_value item) (map (λ e. (e.0, f e.1)) numbers) rows
folded f item n [] numbers each = refl
folded f item n (row ∷ rows) numbers each =
    folded f item (suc n) rows (with_number item numbers (n, subject_of row)) (λ k d below. let next : n + suc k ≡ suc n + k = omega arith in each (suc k) d (omega arith) ∙ ap f next)
    ∙ ap (λ (es : ByInstance). fold (with_value item) es rows) (here (nat_eq row.item item))
  where
    first : f n ≡ row.content
    first = ap f (sym (add-zero n)) ∙ sym (each 0 row (omega arith))

    here : (b : Bool) → map (λ e. (e.0, f e.1)) (cond b (insert_entry int_cmp numbers (instance_in row) n) numbers) ≡ cond b (insert_entry int_cmp (map (λ e. (e.0, f e.1)) numbers) (instance_in row) row.content) (map (λ e. (e.0, f e.1)) numbers)
    here true = inserted f (instance_in row) n numbers ∙ ap (insert_entry int_cmp (map (λ e. (e.0, f e.1)) numbers) (instance_in row)) first
    here false = refl

row_at : {X : Type 0} (n k : ℕ) (row : ℕ → X) (d : X) → k < n → get_or (list_below n row) k d ≡ row k
row_at zero k row d below = absurd (omega arith)
row_at (suc n) zero row d below = ap (λ rows. get_or rows 0 d) (rows_front n row)
row_at (suc n) (suc k) row d below = ap (λ rows. get_or rows (suc k) d) (rows_front n row) ∙ row_at n k (λ j. row (suc j)) d (omega arith)

content_there : (words : List ℕ) (k : ℕ) (d : ValueRow) → k < length (layout_of words).values → (get_or (layout_of words).values k d).content ≡ content_at words (0 + k)
unfolding layout_of values_of value_row
content_there words k d below =
    let many : length (list_below (value_count words) (λ i. value_row words (value_at words i))) ≡ value_count words = rows_length (value_count words) (λ i. value_row words (value_at words i)) in
    let first : k ≡ 0 + k = omega arith in
    ap (λ (row : ValueRow). row.content) (row_at (value_count words) k (λ i. value_row words (value_at words i)) d (omega arith)) ∙ ap (λ (m : ℕ). content_at words m) first

pub many_rows : (words : List ℕ) → length (layout_of words).values ≡ value_count words
unfolding layout_of values_of
many_rows words = rows_length (value_count words) (λ i. value_row words (value_at words i))

-- the contents of an item's rows are its values
pub values_told : (words : List ℕ) (item : ℕ) (table : BTreeMap ℕ (BTreeMap ℤ ℕ)) (found : Option (BTreeMap ℤ ℕ)) → HasNumbers table (enumeration 0 (map subject_of (layout_of words).values)) → found ≡ get nat_cmp table item
    → contents_at words (numbers_at found) ≡ values_with item (layout_of words).values
values_told words item table found has is =
    ap (λ (o : Option (BTreeMap ℤ ℕ)). contents_at words (numbers_at o)) is ∙ ap (contents_at words) (has item)
    ∙ folded (content_at words) item 0 (layout_of words).values [] (content_there words)

-- and its metric is the one at its place
pub metric_told : (words : List ℕ) (item : ℕ) (metrics : List MetricRow) (places : BTreeMap ℕ ℕ) (place : ℕ) (found : Option MetricRow) → metrics ≡ (layout_of words).metrics → HasPlaces places metrics
    → get nat_cmp places item ≡ Some place → found ≡ slice_get metrics place → found ≡ metric_with item (layout_of words).metrics
metric_told words item metrics places place found are has there is =
    is ∙ ap (λ (o : Option ℕ). at_place metrics o) (sym there ∙ has item) ∙ find_there item [] metrics ∙ ap (λ (rows : List MetricRow). metric_with item rows) are

pub no_metric : (words : List ℕ) (item : ℕ) (metrics : List MetricRow) (places : BTreeMap ℕ ℕ) → metrics ≡ (layout_of words).metrics → HasPlaces places metrics
    → get nat_cmp places item ≡ None → None ≡ metric_with item (layout_of words).metrics
no_metric words item metrics places are has nowhere =
    ap (λ (o : Option ℕ). at_place metrics o) (sym nowhere ∙ has item) ∙ find_there item [] metrics ∙ ap (λ (rows : List MetricRow). metric_with item rows) are

pub metric_fits : (words : List ℕ) (item : ℕ) (found : Option MetricRow) → IsImage words → found ≡ metric_with item (layout_of words).metrics → IfSome found FitsMetric
metric_fits words item found image is = found_fits item (layout_of words).metrics found (whole words image).metrics is

pub metrics_fit : (words : List ℕ) (metrics rows : List MetricRow) → IsImage words → metrics ≡ (layout_of words).metrics → rows ≡ metrics → All FitsMetric rows
metrics_fit words metrics rows image are same = subst (All FitsMetric) (sym (same ∙ are)) (whole words image).metrics
