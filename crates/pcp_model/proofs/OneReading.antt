-- Files are read in one way.
use Rattle.std.proofs.Common.{zero, suc, ◌≡◌, inl, inr, ⊎_elim, ℕ, ◌+◌, ◌<◌, ◌≤◌, pos, negsuc, List, [], ◌∷◌, ◌++◌, length, map, refl, sym, ap, ◌∙◌, subst, arith, length-append}
use Rattle.std.specs.Prelude.{Contains, slice_index_or}
use Rattle.std.specs.List.{AllByRecursion}
use Rattle.std.proofs.lemmas.Bool.{cases_lt}
use Rattle.pcp_base.specs.declared.file.FileId.TheVariants.{Meta, Index, Volume}
use Rattle.pcp_base.specs.declared.result.Item.{Item}
use Rattle.pcp_model.specs.Archive.{ArchiveContents, ArchiveReading, LabelledFile, HasEntries, IsIndex, IsLastVolume, AreVolumes, IsArchive, IsStoppedCreation, Reads}
use Rattle.pcp_model.specs.Disk.{Files}
use Rattle.pcp_model.specs.Frame.{IsTorn}
use Rattle.pcp_model.specs.LabelFields.{LabelFields}
use Rattle.pcp_model.specs.Payload.{IsItem}
use Rattle.pcp_model.specs.Records.{IsRecord, entries}
use Rattle.pcp_model.proofs.Cuts.{length_of_label}
use Rattle.pcp_model.proofs.Lists.{each-map, same-cons}
use Rattle.pcp_model.proofs.OneItem.{one_item}
use Rattle.pcp_model.proofs.OneRecord.{one_record}
use Rattle.pcp_model.proofs.Sound.{labelled_long}
use Rattle.pcp_model.proofs.Unique.{both, one_file, one_index, SameFile}

nothing_torn : IsTorn []
nothing_torn = inl (omega arith)

-- ---- the items of one volume

one_last : (bytes : List ℕ) (l : LabelFields) (n : ℕ) (xs ys : List Item) → IsLastVolume bytes l n xs → IsLastVolume bytes l n ys → xs ≡ ys
one_last bytes l n xs ys (inl p) (inl q) = p.1 ∙ sym q.1
one_last bytes l n xs ys (inl p) (inr q) = absurd (omega (arith, p.2.short, labelled_long IsItem bytes l (pos n) ys q.0 q.2))
one_last bytes l n xs ys (inr p) (inl q) = absurd (omega (arith, q.2.short, labelled_long IsItem bytes l (pos n) xs p.0 p.2))
one_last bytes l n xs ys (inr p) (inr q) =
    let same : SameFile l l (pos n) (pos n) xs ys p.0 q.0 = one_file IsItem one_item bytes l l (pos n) (pos n) xs ys p.0 q.0 p.2 q.2 p.1 q.1 in
    same.values

one_whole : (bytes : List ℕ) (l : LabelFields) (n : ℕ) (xs ys : List Item) → LabelledFile IsItem bytes l (pos n) xs [] → LabelledFile IsItem bytes l (pos n) ys [] → xs ≡ ys
one_whole bytes l n xs ys p q =
    let same : SameFile l l (pos n) (pos n) xs ys [] [] = one_file IsItem one_item bytes l l (pos n) (pos n) xs ys [] [] p q nothing_torn nothing_torn in
    same.values

-- ---- which volumes are listed

pub last_has_bytes : (bytes : List ℕ) (l : LabelFields) (n : ℕ) (items : List Item) → IsLastVolume bytes l n items → 0 < length bytes
last_has_bytes bytes l n items (inl begins) = begins.0
last_has_bytes bytes l n items (inr whole) = omega (arith, labelled_long IsItem bytes l (pos n) items whole.0 whole.2)

module _ (files : Files) (l : LabelFields) where
  first_has_bytes : (v : ℕ × List Item) (vs : List (ℕ × List Item)) → AreVolumes files l (v ∷ vs) → 0 < length (files (Volume v.0))
  first_has_bytes v [] are = last_has_bytes (files (Volume v.0)) l v.0 v.1 are
  first_has_bytes v (w ∷ vs) are = omega (arith, labelled_long IsItem (files (Volume v.0)) l (pos v.0) v.1 [] are.0)

  others_are : (v : ℕ × List Item) (vs : List (ℕ × List Item)) → AreVolumes files l (v ∷ vs) → AreVolumes files l vs
  others_are v [] are = tt
  others_are v (w ∷ vs) are = are.2

  -- the numbers rise
  pub others_above : (v : ℕ × List Item) (vs : List (ℕ × List Item)) → AreVolumes files l (v ∷ vs) → AllByRecursion (λ (w : ℕ × List Item). v.0 < w.0) vs
  others_above v [] are = tt
  others_above v (w ∷ vs) are =
      (are.1, each-map (λ (x : ℕ × List Item). w.0 < x.0) (λ (x : ℕ × List Item). v.0 < x.0) (λ x h. omega (arith, are.1)) vs (others_above w vs are.2))

abbrev numbers : List (ℕ × List Item) → List ℕ
numbers vs = map (λ v. v.0) vs

-- a number below all of these is none of them
below_all : (n : ℕ) (vs : List (ℕ × List Item)) → AllByRecursion (λ (v : ℕ × List Item). n < v.0) vs → (k : ℕ) → k < length (numbers vs) → slice_index_or (numbers vs) k n ≡ n → ⊥
below_all n [] all k h is = omega arith
below_all n (v ∷ vs) all zero h is = let e : v.0 ≡ n = is in omega (arith, all.0)
below_all n (v ∷ vs) all (suc k) h is = below_all n vs all.1 k (omega arith) is

-- and one above the first stands behind it
behind_first : (n : ℕ) (v : ℕ × List Item) (vs : List (ℕ × List Item)) → v.0 < n → (Contains (numbers vs) n → ⊥) → (k : ℕ) → k < length (numbers (v ∷ vs)) → slice_index_or (numbers (v ∷ vs)) k n ≡ n → ⊥
behind_first n v vs above none zero h is = let e : v.0 ≡ n = is in omega arith
behind_first n v vs above none (suc k) h is = none (k, omega arith, is)

-- from a number on, only these volumes have bytes
abbrev Cover : Files → ℕ → List (ℕ × List Item) → Type 0
Cover files low vs = (n : ℕ) → low ≤ n → (Contains (numbers vs) n → ⊥) → files (Volume n) ≡ []

none_missing : (files : Files) (low n : ℕ) (vs : List (ℕ × List Item)) → Cover files low vs → low ≤ n → 0 < length (files (Volume n)) → AllByRecursion (λ (v : ℕ × List Item). n < v.0) vs → ⊥
none_missing files low n vs cover h some all =
    let empty : files (Volume n) ≡ [] = cover n h (λ c. below_all n vs all c.0 c.1 c.2) in
    let none : length (files (Volume n)) ≡ 0 = ap length empty in
    omega arith

later_cover : (files : Files) (low next : ℕ) (v : ℕ × List Item) (vs : List (ℕ × List Item)) → Cover files low (v ∷ vs) → low ≤ next → v.0 < next → Cover files next vs
later_cover files low next v vs cover le above n h none = cover n (omega arith) (λ c. behind_first n v vs (omega arith) none c.0 c.1 c.2)

one_first : (files : Files) (l : LabelFields) (v w : ℕ × List Item) (vs : List (ℕ × List Item)) → v.0 ≡ w.0 → AreVolumes files l (v ∷ vs) → AreVolumes files l (w ∷ vs) → v.1 ≡ w.1
one_first files l v w [] same p q = one_last (files (Volume v.0)) l v.0 v.1 w.1 p (subst (λ n. IsLastVolume (files (Volume n)) l n w.1) (sym same) q)
one_first files l v w (x ∷ vs) same p q = one_whole (files (Volume v.0)) l v.0 v.1 w.1 p.0 (subst (λ n. LabelledFile IsItem (files (Volume n)) l (pos n) w.1 []) (sym same) q.0)

same_volume : (v w : ℕ × List Item) → v.0 ≡ w.0 → v.1 ≡ w.1 → v ≡ w
same_volume v w number items = ap (λ n. (n, v.1)) number ∙ ap (λ t. (w.0, t)) items

abbrev From : ℕ → List (ℕ × List Item) → Type 0
From low vs = AllByRecursion (λ v. low ≤ v.0) vs

from_next : (low : ℕ) (vs : List (ℕ × List Item)) → AllByRecursion (λ (v : ℕ × List Item). low < v.0) vs → From (suc low) vs
from_next low vs all = each-map (λ (v : ℕ × List Item). low < v.0) (λ (v : ℕ × List Item). suc low ≤ v.0) (λ v h. omega arith) vs all

from_zero : (vs : List (ℕ × List Item)) → From 0 vs
from_zero [] = tt
from_zero (v ∷ vs) = (omega arith, from_zero vs)

one_number : (files : Files) (l : LabelFields) (low : ℕ) (v w : ℕ × List Item) (vs ws : List (ℕ × List Item)) → AreVolumes files l (v ∷ vs) → AreVolumes files l (w ∷ ws) → low ≤ v.0 → Cover files low (w ∷ ws) → v.0 < w.0 → ⊥
one_number files l low v w vs ws p q h cover lt =
    none_missing files low v.0 (w ∷ ws) cover h (first_has_bytes files l v vs p)
    (lt, each-map (λ (x : ℕ × List Item). w.0 < x.0) (λ (x : ℕ × List Item). v.0 < x.0) (λ x above. omega arith) ws (others_above files l w ws q))

one_list : (files : Files) (l : LabelFields) (low : ℕ) (vs ws : List (ℕ × List Item)) → AreVolumes files l vs → AreVolumes files l ws → From low vs → From low ws → Cover files low vs → Cover files low ws → vs ≡ ws
one_list files l low [] [] p q a b c d = refl
one_list files l low [] (w ∷ ws) p q a b c d = absurd (none_missing files low w.0 [] c b.0 (first_has_bytes files l w ws q) tt)
one_list files l low (v ∷ vs) [] p q a b c d = absurd (none_missing files low v.0 [] d a.0 (first_has_bytes files l v vs p) tt)
one_list files l low (v ∷ vs) (w ∷ ws) p q a b c d =
    let number : v.0 ≡ w.0 =
    ⊎_elim (λ (lt : v.0 < w.0). absurd (one_number files l low v w vs ws p q a.0 d lt))
    (λ (ge : w.0 ≤ v.0). ⊎_elim (λ (lt : w.0 < v.0). absurd (one_number files l low w v ws vs q p b.0 c lt)) (λ (le : v.0 ≤ w.0). let e : v.0 ≡ w.0 = omega arith in e) (cases_lt w.0 v.0)) (cases_lt v.0 w.0) in
    let low_v : low ≤ v.0 = a.0 in
    let behind : From (suc v.0) ws = subst (λ n. From (suc n) ws) (sym number) (from_next w.0 ws (others_above files l w ws q)) in
    let more : vs ≡ ws =
    one_list files l (suc v.0) vs ws (others_are files l v vs p) (others_are files l w ws q) (from_next v.0 vs (others_above files l v vs p)) behind
    (later_cover files low (suc v.0) v vs c (omega arith) (omega arith)) (later_cover files low (suc v.0) w ws d (omega arith) (omega arith)) in
    let items : v.1 ≡ w.1 = one_first files l v w vs number p (subst (λ xs. AreVolumes files l (w ∷ xs)) (sym more) q) in
    same-cons v w vs ws (same_volume v w number items) more

-- ---- the index

pub entries_long : (bytes : List ℕ) (c : ArchiveContents) → HasEntries bytes c → 132 ≤ length bytes
entries_long bytes c h =
    let size : length bytes ≡ length h.head + length (entries c.entries ++ h.rest) = ap length h.is ∙ length-append h.head (entries c.entries ++ h.rest) in
    omega (arith, length_of_label h.head c.label (negsuc 1) h.label)

one_entries : (bytes : List ℕ) (c d : ArchiveContents) → IsIndex bytes c → IsIndex bytes d → c.entries ≡ d.entries
one_entries bytes c d (inl p) (inl q) = p.0 ∙ sym q.0
one_entries bytes c d (inl p) (inr q) = absurd (omega (arith, p.1.short, entries_long bytes d q))
one_entries bytes c d (inr p) (inl q) = absurd (omega (arith, q.1.short, entries_long bytes c p))
one_entries bytes c d (inr p) (inr q) =
    let behind : (p.head ≡ q.head) × (entries c.entries ++ p.rest ≡ entries d.entries ++ q.rest) =
    both p.head q.head (entries c.entries ++ p.rest) (entries d.entries ++ q.rest) (length_of_label p.head c.label (negsuc 1) p.label ∙ sym (length_of_label q.head d.label (negsuc 1) q.label)) (sym p.is ∙ q.is) in
    (one_index c.entries d.entries p.rest q.rest p.fit q.fit p.short q.short behind.1).0

-- ---- the whole

same_contents : (c d : ArchiveContents) → c.label ≡ d.label → c.records ≡ d.records → c.entries ≡ d.entries → c.volumes ≡ d.volumes → c ≡ d
same_contents c d l r e v =
    ap (λ x. record { label = x; records = c.records; entries = c.entries; volumes = c.volumes }) l
    ∙ ap (λ x. record { label = d.label; records = x; entries = c.entries; volumes = c.volumes }) r
    ∙ ap (λ x. record { label = d.label; records = d.records; entries = x; volumes = c.volumes }) e
    ∙ ap (λ x. record { label = d.label; records = d.records; entries = d.entries; volumes = x }) v

one_archive : (files : Files) (c d : ArchiveContents) → IsArchive files c → IsArchive files d → c ≡ d
one_archive files c d p q =
    let meta : SameFile c.label d.label (negsuc 0) (negsuc 0) c.records d.records p.meta.torn q.meta.torn =
    one_file IsRecord one_record (files Meta) c.label d.label (negsuc 0) (negsuc 0) c.records d.records p.meta.torn q.meta.torn p.meta.holds q.meta.holds p.meta.is_torn q.meta.is_torn in
    let volumes : c.volumes ≡ d.volumes =
    one_list files c.label 0 c.volumes d.volumes p.volumes (subst (λ l. AreVolumes files l d.volumes) (sym meta.label) q.volumes) (from_zero c.volumes) (from_zero d.volumes)
    (λ n low none. p.others n none) (λ n low none. q.others n none) in
    same_contents c d meta.label meta.values (one_entries (files Index) c d p.index q.index) volumes

stopped_short : (files : Files) → IsStoppedCreation files → length (files Meta) < 132
stopped_short files stopped =
    ⊎_elim (λ (none : files Meta ≡ []). let e : length (files Meta) ≡ 0 = ap length none in omega arith) (λ begins. omega (arith, begins.1.short)) stopped.meta

never_stopped : (files : Files) (c : ArchiveContents) → IsStoppedCreation files → IsArchive files c → ⊥
never_stopped files c stopped is =
    omega (arith, stopped_short files stopped, labelled_long IsRecord (files Meta) c.label (negsuc 0) c.records is.meta.torn is.meta.holds)

pub one_reading : (files : Files) (a b : ArchiveReading) → Reads files a → Reads files b → a ≡ b
one_reading files ArchiveReading.nothing ArchiveReading.nothing p q = refl
one_reading files ArchiveReading.nothing (ArchiveReading.archive d) p q = absurd (never_stopped files d p q)
one_reading files (ArchiveReading.archive c) ArchiveReading.nothing p q = absurd (never_stopped files c q p)
one_reading files (ArchiveReading.archive c) (ArchiveReading.archive d) p q = ap ArchiveReading.archive (one_archive files c d p q)
