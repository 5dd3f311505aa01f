-- Recovery leaves one thing.
use Rattle.std.proofs.Common.{zero, suc, ◌≡◌, ◌⊎◌, inl, inr, ⊎_elim, ℕ, ℤ, ◌+◌, ◌<◌, ◌≤◌, pos, negsuc, List, [], ◌∷◌, ◌++◌, length, map, sym, ap, ◌∙◌, subst, append_assoc, arith, length-append}
use Rattle.std.specs.Prelude.{Contains, slice_index_or}
use Rattle.std.specs.List.{AllByRecursion}
use Rattle.std.proofs.lemmas.Bool.{cases_lt}
use Rattle.std.proofs.lemmas.List.{append-nil}
use Rattle.pcp_base.specs.declared.file.FileId.{FileId}
use Rattle.pcp_base.specs.declared.file.FileId.TheVariants.{Meta, Index, Volume}
use Rattle.pcp_base.specs.declared.result.Item.{Item}
use Rattle.pcp_model.specs.Archive.{ArchiveContents, ArchiveReading, LabelledFile, HasEntries}
use Rattle.pcp_model.specs.Disk.{Files}
use Rattle.pcp_model.specs.Frame.{frames}
use Rattle.pcp_model.specs.LabelFields.{LabelFields}
use Rattle.pcp_model.specs.Payload.{IsItem}
use Rattle.pcp_model.specs.Records.{IsRecord, entries}
use Rattle.pcp_model.specs.Recovered.{IsMended, IsMendedIndex, labelled_volumes, or_first_volume, AreMended, IsRecovered, Recovers}
use Rattle.pcp_model.proofs.Cuts.{length_of_label}
use Rattle.pcp_model.proofs.OneItem.{one_item}
use Rattle.pcp_model.proofs.OneReading.{entries_long}
use Rattle.pcp_model.proofs.OneRecord.{one_record}
use Rattle.pcp_model.proofs.Unique.{both, one_file, IsReadOnce, SameFile}

module _ {X : Type 0} (R : List ℕ → X → Type 0) (bytes : List ℕ) (l : LabelFields) (number : ℤ) (values : List X) where
  -- the file before it was mended
  pub torn_file : (left : List ℕ) → (m : IsMended R bytes l number values left) → LabelledFile R bytes l number values m.torn
  torn_file left m = record {
    head = m.whole.head;
    label = m.whole.label;
    payloads = m.whole.payloads;
    read = m.whole.read;
    is = m.is ∙ ap (λ t. t ++ m.torn) (m.whole.is ∙ ap (λ t. m.whole.head ++ t) (append-nil (frames m.whole.payloads))) ∙ append_assoc m.whole.head (frames m.whole.payloads) m.torn;
  }

  pub one_mended : IsReadOnce R → (a b : List ℕ) → IsMended R bytes l number values a → IsMended R bytes l number values b → a ≡ b
  one_mended one a b p q =
      let same : SameFile l l number number values values p.torn q.torn = one_file R one bytes l l number number values values p.torn q.torn (torn_file a p) (torn_file b q) p.is_torn q.is_torn in
      let sizes : length a + length p.torn ≡ length b + length q.torn = sym (length-append a p.torn) ∙ ap length (sym p.is ∙ q.is) ∙ length-append b q.torn in
      let ends : length p.torn ≡ length q.torn = ap length same.rest in
      (both a b p.torn q.torn (omega arith) (sym p.is ∙ q.is)).0

one_index_left : (bytes : List ℕ) (c : ArchiveContents) (a b : List ℕ) → IsMendedIndex bytes c a → IsMendedIndex bytes c b → a ≡ b
one_index_left bytes c a b (inl p) (inl q) = p.1 ∙ sym q.1
one_index_left bytes c a b (inl p) (inr q) = absurd (omega (arith, p.0, entries_long bytes c q.0))
one_index_left bytes c a b (inr p) (inl q) = absurd (omega (arith, q.0, entries_long bytes c p.0))
one_index_left bytes c a b (inr p) (inr q) =
    let x : HasEntries bytes c = p.0 in
    let y : HasEntries bytes c = q.0 in
    let heads : x.head ≡ y.head =
    (both x.head y.head (entries c.entries ++ x.rest) (entries c.entries ++ y.rest) (length_of_label x.head c.label (negsuc 1) x.label ∙ sym (length_of_label y.head c.label (negsuc 1) y.label)) (sym x.is ∙ y.is)).0 in
    p.1 ∙ ap (λ t. t ++ entries c.entries) heads ∙ sym q.1

abbrev numbers : List (ℕ × List Item) → List ℕ
numbers vs = map (λ v. v.0) vs

not_listed : (n : ℕ) (v : ℕ × List Item) (vs : List (ℕ × List Item)) → (v.0 ≡ n → ⊥) → (Contains (numbers vs) n → ⊥) → (k : ℕ) → k < length (numbers (v ∷ vs)) → slice_index_or (numbers (v ∷ vs)) k n ≡ n → ⊥
not_listed n v vs other none zero h is = other is
not_listed n v vs other none (suc k) h is = none (k, omega arith, is)

-- a number is listed or not
listed_or_not : (n : ℕ) (vs : List (ℕ × List Item)) → Contains (numbers vs) n ⊎ (Contains (numbers vs) n → ⊥)
listed_or_not n [] = inr (λ c. omega (arith, c.1))
listed_or_not n (v ∷ vs) =
    let later : (v.0 ≡ n → ⊥) → Contains (numbers (v ∷ vs)) n ⊎ (Contains (numbers (v ∷ vs)) n → ⊥) =
    λ other. ⊎_elim (λ (c : Contains (numbers vs) n). inl (suc c.0, omega (arith, c.1), c.2)) (λ (none : Contains (numbers vs) n → ⊥). inr (λ c. not_listed n v vs other none c.0 c.1 c.2)) (listed_or_not n vs) in
    ⊎_elim (λ (lt : v.0 < n). later (λ e. omega arith))
    (λ (ge : n ≤ v.0). ⊎_elim (λ (gt : n < v.0). later (λ e. omega arith)) (λ (le : v.0 ≤ n). inl (0, omega arith, (let e : v.0 ≡ n = omega arith in e))) (cases_lt n v.0)) (cases_lt v.0 n)

module _ (files a b : Files) (l : LabelFields) where
  mended_same : (v : ℕ × List Item) → IsMended IsItem (files (Volume v.0)) l (pos v.0) v.1 (a (Volume v.0)) → IsMended IsItem (files (Volume v.0)) l (pos v.0) v.1 (b (Volume v.0)) → a (Volume v.0) ≡ b (Volume v.0)
  mended_same v p q = one_mended IsItem (files (Volume v.0)) l (pos v.0) v.1 one_item (a (Volume v.0)) (b (Volume v.0)) p q

  each_same : (n : ℕ) (vs : List (ℕ × List Item)) → AllByRecursion (λ (v : ℕ × List Item). IsMended IsItem (files (Volume v.0)) l (pos v.0) v.1 (a (Volume v.0))) vs
      → AllByRecursion (λ (v : ℕ × List Item). IsMended IsItem (files (Volume v.0)) l (pos v.0) v.1 (b (Volume v.0))) vs
      → (k : ℕ) → k < length (numbers vs) → slice_index_or (numbers vs) k n ≡ n → a (Volume n) ≡ b (Volume n)
  each_same n [] p q k h is = absurd (omega arith)
  each_same n (v ∷ vs) p q zero h is = subst (λ m. a (Volume m) ≡ b (Volume m)) is (mended_same v p.0 q.0)
  each_same n (v ∷ vs) p q (suc k) h is = each_same n vs p.1 q.1 k (omega arith) is

  listed_same : (n : ℕ) (vs : List (ℕ × List Item)) → AreMended files l a vs → AreMended files l b vs → (k : ℕ) → k < length (numbers (or_first_volume vs)) → slice_index_or (numbers (or_first_volume vs)) k n ≡ n → a (Volume n) ≡ b (Volume n)
  listed_same n [] p q zero h is = subst (λ m. a (Volume m) ≡ b (Volume m)) is (p ∙ sym q)
  listed_same n [] p q (suc k) h is = absurd (omega arith)
  listed_same n (v ∷ vs) p q k h is = each_same n (v ∷ vs) p q k h is

same_recovered : (files a b : Files) (c : ArchiveContents) → IsRecovered files c a → IsRecovered files c b → (file : FileId) → a file ≡ b file
same_recovered files a b c p q Meta = one_mended IsRecord (files Meta) c.label (negsuc 0) c.records one_record (a Meta) (b Meta) p.meta q.meta
same_recovered files a b c p q Index = one_index_left (files Index) c (a Index) (b Index) p.index q.index
same_recovered files a b c p q (Volume n) =
    ⊎_elim (λ (has : Contains (numbers (or_first_volume (labelled_volumes files c.volumes))) n). listed_same files a b c.label n (labelled_volumes files c.volumes) p.volumes q.volumes has.0 has.1 has.2)
    (λ (none : Contains (numbers (or_first_volume (labelled_volumes files c.volumes))) n → ⊥). p.others n none ∙ sym (q.others n none)) (listed_or_not n (or_first_volume (labelled_volumes files c.volumes)))

pub one_recovery : (files a b : Files) (r : ArchiveReading) → Recovers files r a → Recovers files r b → (file : FileId) → a file ≡ b file
one_recovery files a b ArchiveReading.nothing p q file = p file ∙ sym (q file)
one_recovery files a b (ArchiveReading.archive c) p q file = same_recovered files a b c p q file
