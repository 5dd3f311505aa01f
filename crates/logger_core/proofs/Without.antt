-- Files without their old volumes, and what they are read as.
use Rattle.std.proofs.Common.{zero, suc, ◌≡◌, inl, inr, ⊎_elim, ℕ, ◌+◌, ◌<◌, ◌≤◌, pos, List, [], ◌∷◌, ◌++◌, length, map, refl, sym, ap, ◌∙◌, subst, append_assoc, arith, length-append}
use Rattle.std.specs.Prelude.{Bool, Contains, if◌then◌else◌}
use Rattle.std.specs.List.{AllByRecursion}
use Rattle.std.proofs.lemmas.Bool.{cases_lt, le-ltb, lt-ltb}
use Rattle.pcp_base.specs.declared.file.FileId.TheVariants.{Meta, Index, Volume}
use Rattle.pcp_base.specs.declared.result.Item.{Item}
use Rattle.pcp_model.specs.Archive.{ArchiveContents, AreVolumes, IsArchive, IsIndex, IsLastVolume, LabelledFile, items_of}
use Rattle.pcp_model.specs.Disk.{Files}
use Rattle.pcp_model.specs.LabelFields.{LabelFields}
use Rattle.pcp_model.specs.Payload.{IsItem}
use Rattle.logger_core.specs.Retiring.{RetiredItemsAreFirst, RetiringGoesOn, contents_without, volumes_below, volumes_from, without}
use Rattle.logger_core.proofs.Whole.{next_contains}

-- ---- one file

module _ (files : Files) (j : ℕ) where
  abbrev rest : Files
  rest = without files j

  pub gone : (n : ℕ) → n < j → rest (Volume n) ≡ []
  gone n low = ap (λ (b : Bool). if b then [] else files (Volume n)) (lt-ltb n j low)

  pub left : (n : ℕ) → j ≤ n → rest (Volume n) ≡ files (Volume n)
  left n high = ap (λ (b : Bool). if b then [] else files (Volume n)) (le-ltb n j high)

  -- a volume that holds anything isn't retired
  pub not_gone : (n : ℕ) → 0 < length (rest (Volume n)) → j ≤ n
  not_gone n some = ⊎_elim (λ (low : n < j). absurd (omega (arith, some, ap length (gone n low)))) (λ (high : j ≤ n). high) (cases_lt n j)

pub goes_on : RetiringGoesOn
goes_on files from below le Meta = refl
goes_on files from below le Index = refl
goes_on files from below le (Volume n) = ⊎_elim
    (λ (low : n < below). gone (without files from) below n low ∙ sym (gone files below n low))
    (λ (high : below ≤ n). left (without files from) below n high ∙ left files from n (omega (arith, le, high)) ∙ sym (left files below n high)) (cases_lt n below)

-- ---- volumes, by whether they are retired

pub first_gone : (j : ℕ) (v : ℕ × List Item) (vs : List (ℕ × List Item)) → v.0 < j → volumes_from j (v ∷ vs) ≡ volumes_from j vs
first_gone j v vs low = ap (λ (b : Bool). if b then volumes_from j vs else v ∷ volumes_from j vs) (lt-ltb v.0 j low)

pub first_left : (j : ℕ) (v : ℕ × List Item) (vs : List (ℕ × List Item)) → j ≤ v.0 → volumes_from j (v ∷ vs) ≡ v ∷ volumes_from j vs
first_left j v vs high = ap (λ (b : Bool). if b then volumes_from j vs else v ∷ volumes_from j vs) (le-ltb v.0 j high)

below_gone : (j : ℕ) (v : ℕ × List Item) (vs : List (ℕ × List Item)) → v.0 < j → volumes_below j (v ∷ vs) ≡ v ∷ volumes_below j vs
below_gone j v vs low = ap (λ (b : Bool). if b then v ∷ volumes_below j vs else volumes_below j vs) (lt-ltb v.0 j low)

below_left : (j : ℕ) (v : ℕ × List Item) (vs : List (ℕ × List Item)) → j ≤ v.0 → volumes_below j (v ∷ vs) ≡ volumes_below j vs
below_left j v vs high = ap (λ (b : Bool). if b then v ∷ volumes_below j vs else volumes_below j vs) (le-ltb v.0 j high)

pub each_from : (P : (ℕ × List Item) → Type 0) (j : ℕ) (vs : List (ℕ × List Item)) → AllByRecursion P vs → AllByRecursion P (volumes_from j vs)
each_from P j [] all = tt
each_from P j (v ∷ vs) all = ⊎_elim
    (λ (low : v.0 < j). subst (AllByRecursion P) (sym (first_gone j v vs low)) (each_from P j vs all.1))
    (λ (high : j ≤ v.0). subst (AllByRecursion P) (sym (first_left j v vs high)) (all.0, each_from P j vs all.1)) (cases_lt v.0 j)

abbrev pub AreFrom : ℕ → List (ℕ × List Item) → Type 0
AreFrom j vs = AllByRecursion (λ (v : ℕ × List Item). j ≤ v.0) vs

pub from_high : (j : ℕ) (vs : List (ℕ × List Item)) → AreFrom j (volumes_from j vs)
from_high j [] = tt
from_high j (v ∷ vs) = ⊎_elim
    (λ (low : v.0 < j). subst (AreFrom j) (sym (first_gone j v vs low)) (from_high j vs))
    (λ (high : j ≤ v.0). subst (AreFrom j) (sym (first_left j v vs high)) (high, from_high j vs)) (cases_lt v.0 j)

pub all_from : (j : ℕ) (vs : List (ℕ × List Item)) → AreFrom j vs → volumes_from j vs ≡ vs
all_from j [] all = refl
all_from j (v ∷ vs) all = first_left j v vs all.0 ∙ ap (λ ws. v ∷ ws) (all_from j vs all.1)

none_below : (j : ℕ) (vs : List (ℕ × List Item)) → AreFrom j vs → volumes_below j vs ≡ []
none_below j [] all = refl
none_below j (v ∷ vs) all = below_left j v vs all.0 ∙ none_below j vs all.1

pub from_append : (j : ℕ) (vs ws : List (ℕ × List Item)) → volumes_from j (vs ++ ws) ≡ volumes_from j vs ++ volumes_from j ws
from_append j [] ws = refl
from_append j (v ∷ vs) ws = ⊎_elim
    (λ (low : v.0 < j). first_gone j v (vs ++ ws) low ∙ from_append j vs ws ∙ ap (λ xs. xs ++ volumes_from j ws) (sym (first_gone j v vs low)))
    (λ (high : j ≤ v.0). first_left j v (vs ++ ws) high ∙ ap (λ xs. v ∷ xs) (from_append j vs ws) ∙ ap (λ xs. xs ++ volumes_from j ws) (sym (first_left j v vs high))) (cases_lt v.0 j)

pub below_append : (j : ℕ) (vs ws : List (ℕ × List Item)) → volumes_below j (vs ++ ws) ≡ volumes_below j vs ++ volumes_below j ws
below_append j [] ws = refl
below_append j (v ∷ vs) ws = ⊎_elim
    (λ (low : v.0 < j). below_gone j v (vs ++ ws) low ∙ ap (λ xs. v ∷ xs) (below_append j vs ws) ∙ ap (λ xs. xs ++ volumes_below j ws) (sym (below_gone j v vs low)))
    (λ (high : j ≤ v.0). below_left j v (vs ++ ws) high ∙ below_append j vs ws ∙ ap (λ xs. xs ++ volumes_below j ws) (sym (below_left j v vs high))) (cases_lt v.0 j)

-- one volume that isn't retired
pub one_from : (j : ℕ) (v : ℕ × List Item) → j ≤ v.0 → (volumes_from j (v ∷ []) ≡ v ∷ []) × (volumes_below j (v ∷ []) ≡ [])
one_from j v high = (first_left j v [] high, below_left j v [] high)

-- of the items of all volumes some are retired, and the others are left
pub counts : (j : ℕ) (vs : List (ℕ × List Item)) → length (items_of vs) ≡ length (items_of (volumes_below j vs)) + length (items_of (volumes_from j vs))
counts j [] = refl
counts j (v ∷ vs) =
    let rest : length (items_of vs) ≡ length (items_of (volumes_below j vs)) + length (items_of (volumes_from j vs)) = counts j vs in
    ⊎_elim
    (λ (low : v.0 < j). omega (arith, length-append v.1 (items_of vs), length-append v.1 (items_of (volumes_below j vs)), rest, ap (λ ws. length (items_of ws)) (below_gone j v vs low), ap (λ ws. length (items_of ws)) (first_gone j v vs low)))
    (λ (high : j ≤ v.0). omega (arith, length-append v.1 (items_of vs), length-append v.1 (items_of (volumes_from j vs)), rest, ap (λ ws. length (items_of ws)) (below_left j v vs high), ap (λ ws. length (items_of ws)) (first_left j v vs high)))
    (cases_lt v.0 j)

-- a volume that isn't retired is still listed
pub kept_number : (j : ℕ) (vs : List (ℕ × List Item)) (n : ℕ) → Contains (map (λ (v : ℕ × List Item). v.0) vs) n → j ≤ n → Contains (map (λ (v : ℕ × List Item). v.0) (volumes_from j vs)) n
kept_number j [] n has high = absurd (omega (arith, has.1))
kept_number j (v ∷ vs) n (zero, low, is) high = subst (λ ws. Contains (map (λ (v : ℕ × List Item). v.0) ws) n) (sym (first_left j v vs (omega (arith, high, is)))) (0, omega arith, is)
kept_number j (v ∷ vs) n (suc k, low, is) high =
    let there : Contains (map (λ (v : ℕ × List Item). v.0) (volumes_from j vs)) n = kept_number j vs n (k, omega (arith, low), is) high in
    ⊎_elim
    (λ (gone_first : v.0 < j). subst (λ ws. Contains (map (λ (v : ℕ × List Item). v.0) ws) n) (sym (first_gone j v vs gone_first)) there)
    (λ (stays : j ≤ v.0). subst (λ ws. Contains (map (λ (v : ℕ × List Item). v.0) ws) n) (sym (first_left j v vs stays)) (next_contains v.0 (map (λ (v : ℕ × List Item). v.0) (volumes_from j vs)) n there))
    (cases_lt v.0 j)

-- ---- an archive

-- volumes ascend: where the first isn't retired none is
pub rises : (files : Files) (l : LabelFields) (j : ℕ) (v : ℕ × List Item) (vs : List (ℕ × List Item)) → AreVolumes files l (v ∷ vs) → j ≤ v.0 → AreFrom j (v ∷ vs)
rises files l j v [] are high = (high, tt)
rises files l j v (w ∷ vs) are high = (high, rises files l j w vs are.2 (omega (arith, high, are.1)))

pub items_split : (files : Files) (l : LabelFields) (j : ℕ) (vs : List (ℕ × List Item)) → AreVolumes files l vs → items_of vs ≡ items_of (volumes_below j vs) ++ items_of (volumes_from j vs)
items_split files l j [] are = refl
items_split files l j (v ∷ []) are = ⊎_elim
    (λ (low : v.0 < j). sym (ap (λ xs. xs ++ items_of (volumes_from j (v ∷ []))) (ap items_of (below_gone j v [] low)) ∙ ap (λ ws. (v.1 ++ []) ++ items_of ws) (first_gone j v [] low) ∙ append_nil (v.1 ++ [])))
    (λ (high : j ≤ v.0). sym (ap (λ ws. items_of ws ++ items_of (volumes_from j (v ∷ []))) (none_below j (v ∷ []) (high, tt)) ∙ ap items_of (all_from j (v ∷ []) (high, tt)))) (cases_lt v.0 j)
  where
    append_nil : (xs : List Item) → xs ++ [] ≡ xs
    append_nil [] = refl
    append_nil (x ∷ xs) = ap (λ ys. x ∷ ys) (append_nil xs)
items_split files l j (v ∷ w ∷ vs) are =
    let more : items_of (w ∷ vs) ≡ items_of (volumes_below j (w ∷ vs)) ++ items_of (volumes_from j (w ∷ vs)) = items_split files l j (w ∷ vs) are.2 in
    ⊎_elim
    (λ (low : v.0 < j).
    ap (λ xs. v.1 ++ xs) more ∙ sym (append_assoc v.1 (items_of (volumes_below j (w ∷ vs))) (items_of (volumes_from j (w ∷ vs))))
    ∙ sym (ap (λ ws. items_of ws ++ items_of (volumes_from j (v ∷ w ∷ vs))) (below_gone j v (w ∷ vs) low) ∙ ap (λ ws. (v.1 ++ items_of (volumes_below j (w ∷ vs))) ++ items_of ws) (first_gone j v (w ∷ vs) low)))
    (λ (high : j ≤ v.0).
    let all : AreFrom j (v ∷ w ∷ vs) = rises files l j v (w ∷ vs) are high in
    sym (ap (λ ws. items_of ws ++ items_of (volumes_from j (v ∷ w ∷ vs))) (none_below j (v ∷ w ∷ vs) all) ∙ ap items_of (all_from j (v ∷ w ∷ vs) all)))
    (cases_lt v.0 j)

pub items_first : RetiredItemsAreFirst
items_first files c below is = items_split files c.label below c.volumes is.volumes

module _ (files : Files) (l : LabelFields) (j : ℕ) where
  still : (vs : List (ℕ × List Item)) → AreFrom j vs → AreVolumes files l vs → AreVolumes (without files j) l vs
  still [] all are = tt
  still (v ∷ []) all are = subst (λ t. IsLastVolume t l v.0 v.1) (sym (left files j v.0 all.0)) are
  still (v ∷ w ∷ vs) all are = (subst (λ t. LabelledFile IsItem t l (pos v.0) v.1 []) (sym (left files j v.0 all.0)) are.0, are.1, still (w ∷ vs) all.1 are.2)

  are_from : (vs : List (ℕ × List Item)) → AreVolumes files l vs → AreVolumes (without files j) l (volumes_from j vs)
  are_from [] are = tt
  are_from (v ∷ []) are = ⊎_elim
      (λ (low : v.0 < j). subst (AreVolumes (without files j) l) (sym (first_gone j v [] low)) tt)
      (λ (high : j ≤ v.0). subst (AreVolumes (without files j) l) (sym (first_left j v [] high)) (still (v ∷ []) (high, tt) are)) (cases_lt v.0 j)
  are_from (v ∷ w ∷ vs) are = ⊎_elim
      (λ (low : v.0 < j). subst (AreVolumes (without files j) l) (sym (first_gone j v (w ∷ vs) low)) (are_from (w ∷ vs) are.2))
      (λ (high : j ≤ v.0).
      let all : AreFrom j (v ∷ w ∷ vs) = rises files l j v (w ∷ vs) are high in
      subst (AreVolumes (without files j) l) (sym (all_from j (v ∷ w ∷ vs) all)) (still (v ∷ w ∷ vs) all are)) (cases_lt v.0 j)

module _ (files : Files) (c : ArchiveContents) (j n : ℕ) (is : IsArchive files c) (high : j ≤ n) (long : 132 ≤ length (files (Volume n))) where
  still_index : IsIndex (files Index) c → IsIndex (files Index) (contents_without c j)
  still_index (inl none) = inl none
  still_index (inr has) = inr (record { head = has.head; label = has.label; fit = has.fit; rest = has.rest; short = has.short; is = has.is })

  pub still_long : 132 ≤ length (without files j (Volume n))
  still_long = omega (arith, long, ap length (left files j n high))

  pub still_archive : IsArchive (without files j) (contents_without c j)
  still_archive = record {
    meta = record { torn = is.meta.torn; is_torn = is.meta.is_torn; holds = is.meta.holds; consistent = is.meta.consistent };
    index = still_index is.index;
    volumes = are_from files c.label j c.volumes is.volumes;
    others = λ k other. ⊎_elim
        (λ (low : k < j). gone files j k low)
        (λ (stays : j ≤ k). left files j k stays ∙ is.others k (λ has. other (kept_number j c.volumes k has stays))) (cases_lt k j);
    labelled = inr (n, still_long);
  }
