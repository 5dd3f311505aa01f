-- A map that keeps the kind of each item's first metric.
use Rattle.std.proofs.Common.{◌≡◌, ℕ, ◌+◌, ◌<◌, Bool, true, false, cond, List, [], ◌∷◌, ◌++◌, length, take, get_or, ap, sym, ◌∙◌, refl, nat_eq, Option, Some, None, is_some, unwrap_or}
use Rattle.std.specs.Cmp.{unsigned_ties}
use Rattle.std.specs.Ordering.{nat_cmp, is_eq}
use Rattle.std.specs.BTreeMap.{BTreeMap, get}
use Rattle.std.proofs.lemmas.Bool.{eqb-true}
use Rattle.std.proofs.lemmas.List.{take_more}
use Rattle.pcp_base.specs.declared.kind.Kind.{Kind}
use Rattle.pcp_base.specs.declared.kind.Kind.TheVariants as kinds
use Rattle.mmv_layout.specs.declared.rows.MetricRow.{MetricRow}
use Rattle.text_lines.specs.Whole.{kept_or, kind_in, kind_of_item}

pub kind_there : {X : Type 0} (m : BTreeMap ℕ X) (key : ℕ) (y : X) → is_some (get nat_cmp m key) ≡ true → (q : ℕ) → get nat_cmp m q ≡ kept_or (get nat_cmp m q) (nat_eq key q) y
kind_there {X} m key y some q = here (get nat_cmp m q) (nat_eq key q) refl refl
  where
    here : (o : Option X) (b : Bool) → get nat_cmp m q ≡ o → nat_eq key q ≡ b → o ≡ kept_or o b y
    here (Some x) b e f = refl
    here None false e f = refl
    here None true e f = let gone : is_some (get nat_cmp m key) ≡ false = ap (λ k. is_some (get nat_cmp m k)) (eqb-true key q f) ∙ ap is_some e in cc

pub kind_new : {X : Type 0} (m n : BTreeMap ℕ X) (key : ℕ) (y : X) → is_some (get nat_cmp m key) ≡ false → ((q : ℕ) → get nat_cmp n q ≡ cond (is_eq (nat_cmp key q)) (Some y) (get nat_cmp m q)) → (q : ℕ) → get nat_cmp n q ≡ kept_or (get nat_cmp m q) (nat_eq key q) y
kind_new {X} m n key y none put q = put q ∙ ap (λ b. cond b (Some y) (get nat_cmp m q)) (sym (unsigned_ties key q)) ∙ here (get nat_cmp m q) (nat_eq key q) refl refl
  where
    here : (o : Option X) (b : Bool) → get nat_cmp m q ≡ o → nat_eq key q ≡ b → cond b (Some y) o ≡ kept_or o b y
    here None b e f = refl
    here (Some x) false e f = refl
    here (Some x) true e f = let some : is_some (get nat_cmp m key) ≡ true = ap (λ k. is_some (get nat_cmp m k)) (eqb-true key q f) ∙ ap is_some e in cc

kind_snoc : (item : ℕ) (rows : List MetricRow) (row : MetricRow) → kind_in item (rows ++ row ∷ []) ≡ kept_or (kind_in item rows) (nat_eq row.item item) row.kind
kind_snoc item [] row = refl
kind_snoc item (x ∷ rows) row = here (nat_eq x.item item) (kind_snoc item rows row)
  where
    here : (b : Bool) → kind_in item (rows ++ row ∷ []) ≡ kept_or (kind_in item rows) (nat_eq row.item item) row.kind → cond b (Some x.kind) (kind_in item (rows ++ row ∷ [])) ≡ kept_or (cond b (Some x.kind) (kind_in item rows)) (nat_eq row.item item) row.kind
    here true h = refl
    here false h = h

-- one metric more than a loop has passed
pub kind_more : (item : ℕ) (rows : List MetricRow) (i : ℕ) (row : MetricRow) (old new : Option Kind) → i < length rows → row ≡ get_or rows i row → old ≡ kind_in item (take i rows) → new ≡ kept_or old (nat_eq row.item item) row.kind → new ≡ kind_in item (take (i + 1) rows)
kind_more item rows i row old new below is was e =
    e ∙ ap (λ o. kept_or o (nat_eq row.item item) row.kind) was ∙ sym (kind_snoc item (take i rows) row) ∙ ap (λ r. kind_in item (take i rows ++ r ∷ [])) is
    ∙ ap (kind_in item) (sym (take_more rows i row below))

pub kind_is : (item : ℕ) (rows : List MetricRow) → unwrap_or (kind_in item rows) kinds.U64 ≡ kind_of_item item rows
kind_is item [] = refl
kind_is item (x ∷ rows) = here (nat_eq x.item item) (kind_is item rows)
  where
    here : (b : Bool) → unwrap_or (kind_in item rows) kinds.U64 ≡ kind_of_item item rows → unwrap_or (cond b (Some x.kind) (kind_in item rows)) kinds.U64 ≡ cond b x.kind (kind_of_item item rows)
    here true h = refl
    here false h = h
