-- The items of a readable archive stand in its volumes, from the first place on and from each boundary.
use Rattle.std.proofs.Common.{zero, suc, ◌≡◌, ◌≢◌, inl, inr, ⊎_elim, ℕ, pos, negsuc, ◌+◌, ◌-◌, ◌<◌, ◌≤◌, List, [], ◌∷◌, ◌++◌, length, take, drop, map, refl, sym, ap, ◌∙◌, subst, append_assoc, arith}
use Rattle.std.specs.Prelude.{Contains}
use Rattle.std.specs.List.{AllByRecursion}
use Rattle.std.proofs.lemmas.Bool.{cases_lt}
use Rattle.std.proofs.lemmas.List.{take-append-drop, drop_at, drop_all, drop-drop, append-nil, nil_from_length, length-append, length-take, length-drop}
use Rattle.std.proofs.lemmas.List.Elements.{All-contains, All-from_recursion}
use Rattle.pcp_base.specs.declared.file.FileId.TheVariants.{Meta, Index, Volume}
use Rattle.pcp_base.specs.declared.result.Item.{Item}
use Rattle.pcp_model.specs.declared.records.MetaRecord.{MetaRecord}
use Rattle.pcp_model.specs.declared.records.Entry.{Entry}
use Rattle.pcp_model.specs.Archive.{ArchiveContents, ArchiveReading, AreRead, LabelledFile, IsMeta, IsIndex, IsLastVolume, AreVolumes, IsArchive, items_of}
use Rattle.pcp_model.specs.Disk.{Files}
use Rattle.pcp_model.specs.Frame.{frame, frames, IsFrameable, IsTorn}
use Rattle.pcp_model.specs.LabelFields.{LabelFields}
use Rattle.pcp_model.specs.Payload.{IsItem}
use Rattle.pcp_model.specs.Records.{IsRecord}
use Rattle.pcp_model.specs.Sound.{IsBoundary}
use Rattle.pcp_model.proofs.Boundaries.{boundary_of_file}
use Rattle.pcp_model.proofs.Cuts.{length_of_label, frames-append}
use Rattle.pcp_model.proofs.Lengths.{length-frame}
use Rattle.pcp_model.proofs.Lists.{each-map}
use Rattle.pcp_model.proofs.OneReading.{one_reading, last_has_bytes, others_above}
use Rattle.pcp_model.proofs.OneRecord.{one_record}
use Rattle.pcp_model.proofs.Sound.{label_boundary, labelled_long}
use Rattle.pcp_model.proofs.Unique.{one_file, SameFile}
use Rattle.archive_loading.specs.Standing.{ItemStands}
use Rattle.archive_loading.specs.Loaded.{contents_with, IsHeaded, Rises, IsLabelledArchive, numbers}
use Rattle.archive_reader.specs.Walks.{next_volumes, next_offset, StandsNext, StepsOver, EndsThere, IsEnd, Leads, AllFrom}
use Rattle.archive_reader.proofs.Stepping.{next_over, next_here}

-- ---- numbers that rise, of all volumes that aren't empty

abbrev pub Rising : List ℕ → Type 0
Rising [] = Unit {0}
Rising (n ∷ ns) = AllByRecursion (λ m. n < m) ns × Rising ns

abbrev pub HasBytes : Files → ℕ → Type 0
HasBytes files n = 0 < length (files (Volume n))

abbrev pub Cover : Files → ℕ → List ℕ → Type 0
Cover files low ns = (n : ℕ) → low ≤ n → (Contains ns n → ⊥) → files (Volume n) ≡ []

none_of : (n : ℕ) (ns : List ℕ) → AllByRecursion (λ m. n < m) ns → Contains ns n → ⊥
none_of n ns all there = let lt : n < n = All-contains (λ m. n < m) ns n (All-from_recursion (λ m. n < m) ns all) there in omega (arith, lt)

none_behind : (n k : ℕ) (ns : List ℕ) → n < k → (Contains ns k → ⊥) → Contains (n ∷ ns) k → ⊥
none_behind n k ns lt none (zero, h, is) = let same : n ≡ k = is in omega (arith, lt, same)
none_behind n k ns lt none (suc i, h, is) = none (i, omega (arith, h), is)

missing : (files : Files) (low n : ℕ) (ns : List ℕ) → Cover files low ns → low ≤ n → HasBytes files n → (Contains ns n → ⊥) → ⊥
missing files low n ns cover le some none = omega (arith, some, ap length (cover n le none))

above_first : (n m : ℕ) (ns : List ℕ) → n < m → AllByRecursion (λ k. m < k) ns → AllByRecursion (λ k. n < k) (m ∷ ns)
above_first n m ns lt all = (lt, each-map (λ k. m < k) (λ k. n < k) (λ k h. omega (arith, lt, h)) ns all)

pub one_numbers : (files : Files) (low : ℕ) (ns ms : List ℕ) → Rising ns → Rising ms → AllByRecursion (HasBytes files) ns → AllByRecursion (HasBytes files) ms → AllByRecursion (λ n. low ≤ n) ns → AllByRecursion (λ n. low ≤ n) ms
    → Cover files low ns → Cover files low ms → ns ≡ ms
one_numbers files low [] [] a b c d e f p q = refl
one_numbers files low [] (m ∷ ms) a b c d e f p q = absurd (missing files low m [] p f.0 d.0 (none_of m [] tt))
one_numbers files low (n ∷ ns) [] a b c d e f p q = absurd (missing files low n [] q e.0 c.0 (none_of n [] tt))
one_numbers files low (n ∷ ns) (m ∷ ms) a b c d e f p q =
    let same : n ≡ m =
    ⊎_elim (λ (lt : n < m). absurd (missing files low n (m ∷ ms) q e.0 c.0 (none_of n (m ∷ ms) (above_first n m ms lt b.0))))
    (λ (ge : m ≤ n). ⊎_elim (λ (lt : m < n). absurd (missing files low m (n ∷ ns) p f.0 d.0 (none_of m (n ∷ ns) (above_first m n ns lt a.0)))) (λ (le : n ≤ m). let e : n ≡ m = omega (arith, ge, le) in e) (cases_lt m n)) (cases_lt n m) in
    let more : ns ≡ ms =
    one_numbers files (suc n) ns ms a.1 b.1 c.1 d.1 (each-map (λ k. n < k) (λ k. suc n ≤ k) (λ k h. omega (arith, h)) ns a.0) (each-map (λ k. m < k) (λ k. suc n ≤ k) (λ k h. omega (arith, h, same)) ms b.0)
    (λ k le none. p k (omega (arith, le, e.0)) (none_behind n k ns (omega (arith, le)) none)) (λ k le none. q k (omega (arith, le, e.0)) (none_behind m k ms (omega (arith, le, same)) none)) in
    ap (λ k. k ∷ ns) same ∙ ap (λ ks. m ∷ ks) more

pub from_zero : (ns : List ℕ) → AllByRecursion (λ n. 0 ≤ n) ns
from_zero [] = tt
from_zero (n ∷ ns) = (omega arith, from_zero ns)

-- ---- the volumes that a reader keeps, beside those that the files are read as

abbrev pub Matches : Files → List (ℕ × ℕ) → List (ℕ × List Item) → Type 0
Matches files [] [] = Unit {0}
Matches files (v ∷ vs) (c ∷ cs) = (v.0 ≡ c.0) × (v.1 ≡ length (files (Volume v.0))) × Matches files vs cs
Matches files [] (c ∷ cs) = ⊥
Matches files (v ∷ vs) [] = ⊥

all_match : (files : Files) (l : LabelFields) (vs : List (ℕ × ℕ)) (cs : List (ℕ × List Item)) → AllByRecursion (IsHeaded files l) vs → numbers vs ≡ map (λ (c : ℕ × List Item). c.0) cs → Matches files vs cs
all_match files l [] [] headed same = tt
all_match files l [] (c ∷ cs) headed same = absurd (omega (arith, ap length same))
all_match files l (v ∷ vs) [] headed same = absurd (omega (arith, ap length same))
all_match files l (v ∷ vs) (c ∷ cs) headed same = (first same, headed.0.0, all_match files l vs cs headed.1 (others same))
  where
    first : numbers (v ∷ vs) ≡ map (λ (c : ℕ × List Item). c.0) (c ∷ cs) → v.0 ≡ c.0
    first same = cc

    others : numbers (v ∷ vs) ≡ map (λ (c : ℕ × List Item). c.0) (c ∷ cs) → numbers vs ≡ map (λ (c : ℕ × List Item). c.0) cs
    others same = cc

pub kept_rise : (vs : List (ℕ × ℕ)) → Rises vs → Rising (numbers vs)
kept_rise [] rises = tt
kept_rise (v ∷ vs) rises = (up vs rises.0, kept_rise vs rises.1)
  where
    up : (ws : List (ℕ × ℕ)) → AllByRecursion (λ (w : ℕ × ℕ). v.0 < w.0) ws → AllByRecursion (λ n. v.0 < n) (numbers ws)
    up [] all = tt
    up (w ∷ ws) all = (all.0, up ws all.1)

pub kept_filled : (files : Files) (l : LabelFields) (vs : List (ℕ × ℕ)) → AllByRecursion (IsHeaded files l) vs → AllByRecursion (HasBytes files) (numbers vs)
kept_filled files l [] headed = tt
kept_filled files l (v ∷ vs) headed = (omega (arith, headed.0.0, headed.0.1), kept_filled files l vs headed.1)

module _ (files : Files) (l : LabelFields) where
  numbers_up : (n : ℕ) (cs : List (ℕ × List Item)) → AllByRecursion (λ (c : ℕ × List Item). n < c.0) cs → AllByRecursion (λ m. n < m) (map (λ (c : ℕ × List Item). c.0) cs)
  numbers_up n [] all = tt
  numbers_up n (c ∷ cs) all = (all.0, numbers_up n cs all.1)

  read_rise : (cs : List (ℕ × List Item)) → AreVolumes files l cs → Rising (map (λ (c : ℕ × List Item). c.0) cs)
  read_rise [] are = tt
  read_rise (c ∷ []) are = (tt, tt)
  read_rise (c ∷ d ∷ cs) are = (numbers_up c.0 (d ∷ cs) (others_above files l c (d ∷ cs) are), read_rise (d ∷ cs) are.2)

  read_filled : (cs : List (ℕ × List Item)) → AreVolumes files l cs → AllByRecursion (HasBytes files) (map (λ (c : ℕ × List Item). c.0) cs)
  read_filled [] are = tt
  read_filled (c ∷ []) are = (last_has_bytes (files (Volume c.0)) l c.0 c.1 are, tt)
  read_filled (c ∷ d ∷ cs) are = (omega (arith, labelled_long IsItem (files (Volume c.0)) l (pos c.0) c.1 [] are.0), read_filled (d ∷ cs) are.2)

  pub they_match : (vs : List (ℕ × ℕ)) (cs : List (ℕ × List Item)) → AllByRecursion (IsHeaded files l) vs → Rises vs → ((n : ℕ) → (Contains (numbers vs) n → ⊥) → files (Volume n) ≡ [])
      → AreVolumes files l cs → ((n : ℕ) → (Contains (map (λ c. c.0) cs) n → ⊥) → files (Volume n) ≡ []) → Matches files vs cs
  they_match vs cs headed rises others are none =
      all_match files l vs cs headed
      (one_numbers files 0 (numbers vs) (map (λ (c : ℕ × List Item). c.0) cs) (kept_rise vs rises) (read_rise cs are) (kept_filled files l vs headed) (read_filled cs are) (from_zero (numbers vs))
      (from_zero (map (λ (c : ℕ × List Item). c.0) cs)) (λ n le told. others n told) (λ n le told. none n told))

-- ---- records of one volume

stays : (v : ℕ × ℕ) (vs : List (ℕ × ℕ)) (at : ℕ) → at ≢ v.1 → (next_volumes (v ∷ vs) at ≡ v ∷ vs) × (next_offset (v ∷ vs) at ≡ at)
stays v [] at ne = (refl, refl)
stays v (w ∷ vs) at ne = next_here v w vs at ne

module _ (files : Files) (v : ℕ × ℕ) (vs : List (ℕ × ℕ)) (long : v.1 ≡ length (files (Volume v.0))) where
  steps : (at : ℕ) (p : List ℕ) (x : Item) (rest : List ℕ) → IsFrameable p → IsItem p x → drop at (files (Volume v.0)) ≡ frame p ++ rest → at < v.1 → StepsOver files (v ∷ vs) at x (v ∷ vs) (at + length p + 8)
  steps at p x rest fits reads is lt =
      let bytes : List ℕ = files (Volume v.0) in
      let here = stays v vs at (λ same. omega (arith, lt, same)) in
      let stands : ItemStands bytes at (at + length p + 8) x =
      record {
        payload = p;
        stands = record {
          fits = fits;
          front = take at bytes;
          rest = rest;
          is = sym (take-append-drop at bytes) ∙ ap (λ t. take at bytes ++ t) is;
          begins = omega (arith, length-take at bytes, lt, long);
          ends = refl;
        };
        reads = reads;
      } in
      record { volumes = sym here.0; stands = subst (λ o. StandsNext files (v ∷ vs) o x (at + length p + 8)) (sym here.1) stands }

  pub leads_in : (ps : List (List ℕ)) (xs : List Item) (at : ℕ) (rest : List ℕ) → AreRead IsItem ps xs → drop at (files (Volume v.0)) ≡ frames ps ++ rest → at ≤ v.1
      → Leads files (v ∷ vs) at xs (v ∷ vs) (at + length (frames ps)) × (drop (at + length (frames ps)) (files (Volume v.0)) ≡ rest) × (at + length (frames ps) ≤ v.1)
  leads_in [] [] at rest read is le = ((refl, omega arith), (let none : at + 0 ≡ at = omega arith in ap (λ n. drop n (files (Volume v.0))) none) ∙ is, omega (arith, le))
  leads_in [] (x ∷ xs) at rest read is le = absurd (read tt)
  leads_in (p ∷ ps) [] at rest read is le = absurd (read tt)
  leads_in (p ∷ ps) (x ∷ xs) at rest read is le =
      let bytes : List ℕ = files (Volume v.0) in
      let one : drop at bytes ≡ frame p ++ (frames ps ++ rest) = is ∙ append_assoc (frame p) (frames ps) rest in
      let size : length bytes - at ≡ length p + 8 + length (frames ps ++ rest) = omega (arith, length-drop at bytes, ap length one, length-append (frame p) (frames ps ++ rest), length-frame p) in
      let next : ℕ = at + length p + 8 in
      let behind : drop next bytes ≡ frames ps ++ rest =
      (let e : next ≡ at + length (frame p) = omega (arith, length-frame p) in ap (λ n. drop n bytes) e) ∙ sym (drop-drop (length (frame p)) at bytes) ∙ ap (drop (length (frame p))) one
      ∙ drop_at (frame p) (frames ps ++ rest) (length (frame p)) refl in
      let more = leads_in ps xs next rest read.2 behind (omega (arith, size, long)) in
      let to : next + length (frames ps) ≡ at + length (frame p ++ frames ps) = omega (arith, length-append (frame p) (frames ps), length-frame p) in (
        (v ∷ vs, next, steps at p x (frames ps ++ rest) read.0 read.1 one (omega (arith, size, long)), subst (λ n. Leads files (v ∷ vs) next xs (v ∷ vs) n) to more.0),
        subst (λ n. drop n bytes ≡ rest) to more.1,
        subst (λ n. n ≤ v.1) to more.2,
      )

-- ---- records over the ends of volumes

leads_join : (files : Files) (xs ys : List Item) (vs : List (ℕ × ℕ)) (at : ℕ) (us : List (ℕ × ℕ)) (mid : ℕ) (ws : List (ℕ × ℕ)) (to : ℕ) → Leads files vs at xs us mid → Leads files us mid ys ws to → Leads files vs at (xs ++ ys) ws to
leads_join files [] ys vs at us mid ws to first more = subst (λ o. Leads files vs o ys ws to) first.1 (subst (λ l. Leads files l mid ys ws to) first.0 more)
leads_join files (x ∷ xs) ys vs at us mid ws to (ms, m, step, rest) more = (ms, m, step, leads_join files xs ys ms m us mid ws to rest more)

joined : (files : Files) (xs ys : List Item) (vs : List (ℕ × ℕ)) (at : ℕ) (us : List (ℕ × ℕ)) (mid : ℕ) → Leads files vs at xs us mid → AllFrom files us mid ys → AllFrom files vs at (xs ++ ys)
joined files xs ys vs at us mid first a = record { last = a.last; to = a.to; leads = leads_join files xs ys vs at us mid a.last a.to first a.leads; ends = a.ends }

-- from the end of a volume what stands in those behind it
hop : (files : Files) (v w : ℕ × ℕ) (vs : List (ℕ × ℕ)) (at : ℕ) (items : List Item) → at ≡ v.1 → AllFrom files (w ∷ vs) 132 items → AllFrom files (v ∷ w ∷ vs) at items
hop files v w vs at [] end a =
    let over = next_over v w vs at end in
    let there : IsEnd files (w ∷ vs) 132 = subst (λ o. IsEnd files (w ∷ vs) o) a.leads.1 (subst (λ l. IsEnd files l a.to) a.leads.0 a.ends) in
    record {
      last = v ∷ w ∷ vs;
      to = at;
      leads = (refl, refl);
      ends = subst (λ o. EndsThere files (next_volumes (v ∷ w ∷ vs) at) o) (sym over.1) (subst (λ l. EndsThere files l (next_offset (w ∷ vs) 132)) (sym over.0) there);
    }
hop files v w vs at (x ∷ items) end a =
    let over = next_over v w vs at end in
    let us : List (ℕ × ℕ) = a.leads.0 in
    let next : ℕ = a.leads.1 in
    let step : StepsOver files (w ∷ vs) 132 x us next = a.leads.2 in
    record {
      last = a.last;
      to = a.to;
      leads = (us, next, record { volumes = step.volumes ∙ sym over.0; stands = subst (λ o. StandsNext files us o x next) (sym over.1) step.stands }, a.leads.3);
      ends = a.ends;
    }

read_drop : (k : ℕ) (ps : List (List ℕ)) (xs : List Item) → AreRead IsItem ps xs → AreRead IsItem (drop k ps) (drop k xs)
read_drop zero ps xs read = read
read_drop (suc k) [] [] read = tt
read_drop (suc k) [] (x ∷ xs) read = absurd (read tt)
read_drop (suc k) (p ∷ ps) [] read = absurd (read tt)
read_drop (suc k) (p ∷ ps) (x ∷ xs) read = read_drop k ps xs read.2

-- behind a boundary of a volume the rest of its records stand
pub behind_boundary : (bytes : List ℕ) (l : LabelFields) (n : ℕ) (items : List Item) (torn : List ℕ) (offset count : ℕ) → (h : LabelledFile IsItem bytes l (pos n) items torn) → IsTorn torn → IsBoundary bytes offset count
    → (drop offset bytes ≡ frames (drop count h.payloads) ++ torn) × (offset ≤ length bytes)
behind_boundary bytes l n items torn offset count h is_torn b =
    let own : (count ≤ length items) × (offset ≡ 132 + length (frames (take count h.payloads))) = boundary_of_file IsItem bytes l (pos n) items torn offset count h is_torn b in
    let head : length h.head ≡ 132 = length_of_label h.head l (pos n) h.label in
    let front : List ℕ = h.head ++ frames (take count h.payloads) in
    let parts : frames h.payloads ≡ frames (take count h.payloads) ++ frames (drop count h.payloads) = ap frames (sym (take-append-drop count h.payloads)) ∙ frames-append (take count h.payloads) (drop count h.payloads) in
    let is : bytes ≡ front ++ (frames (drop count h.payloads) ++ torn) =
    h.is ∙ ap (λ t. h.head ++ (t ++ torn)) parts ∙ ap (λ t. h.head ++ t) (append_assoc (frames (take count h.payloads)) (frames (drop count h.payloads)) torn)
    ∙ sym (append_assoc h.head (frames (take count h.payloads)) (frames (drop count h.payloads) ++ torn)) in
    let long : length front ≡ offset = omega (arith, length-append h.head (frames (take count h.payloads)), head, own.1) in (
      ap (drop offset) is ∙ drop_at front (frames (drop count h.payloads) ++ torn) offset long,
      omega (arith, ap length is, length-append front (frames (drop count h.payloads) ++ torn), long),
    )

-- a boundary of a file that ends within its label
pub short_boundary : (bytes : List ℕ) (offset count : ℕ) → length bytes < 132 → IsBoundary bytes offset count → (offset ≡ 132) × (count ≡ 0)
short_boundary bytes offset count short b = go b.payloads refl
  where
    go : (ps : List (List ℕ)) → b.payloads ≡ ps → (offset ≡ 132) × (count ≡ 0)
    go [] none = (b.is ∙ ap (λ ps. 132 + length (frames ps)) none, sym b.many ∙ ap length none)
    go (p ∷ ps) some = absurd (omega (arith, ap length b.stand, ap (λ qs. length (frames qs ++ b.behind)) some, length-drop 132 bytes, short, length-append (frame p ++ frames ps) b.behind, length-append (frame p) (frames ps), length-frame p))

drop_none : (k : ℕ) (items : List Item) → items ≡ [] → drop k items ≡ []
drop_none k items none = nil_from_length (drop k items) (omega (arith, length-drop k items, ap length none))

module _ (files : Files) (l : LabelFields) where
  in_last : (v : ℕ × ℕ) (n : ℕ) (items : List Item) (offset count : ℕ) → v.0 ≡ n → v.1 ≡ length (files (Volume v.0)) → IsLastVolume (files (Volume n)) l n items → IsBoundary (files (Volume n)) offset count
      → AllFrom files (v ∷ []) offset (drop count items)
  in_last v n items offset count same long (inl (some, none, begins)) b =
      let here = short_boundary (files (Volume n)) offset count begins.short b in
      let empty : drop offset (files (Volume v.0)) ≡ [] = drop_all offset (files (Volume v.0)) (omega (arith, here.0, begins.short, ap (λ k. length (files (Volume k))) same)) in
      let nothing : drop count items ≡ [] = drop_none count items none in
      subst (AllFrom files (v ∷ []) offset) (sym nothing) (record { last = v ∷ []; to = offset; leads = (refl, refl); ends = subst IsTorn (sym empty) (inl (omega arith)) })
  in_last v n items offset count same long (inr (torn, is_torn, h)) b =
      let own = behind_boundary (files (Volume n)) l n items torn offset count h is_torn b in
      let there : drop offset (files (Volume v.0)) ≡ frames (drop count h.payloads) ++ torn = ap (λ k. drop offset (files (Volume k))) same ∙ own.0 in
      let walk = leads_in files v [] long (drop count h.payloads) (drop count items) offset torn (read_drop count h.payloads items h.read) there (omega (arith, own.1, long, ap (λ k. length (files (Volume k))) same)) in
      record { last = v ∷ []; to = offset + length (frames (drop count h.payloads)); leads = walk.0; ends = subst IsTorn (sym walk.1) is_torn }

  pub from_boundary : (v : ℕ × ℕ) (vs : List (ℕ × ℕ)) (c : ℕ × List Item) (cs : List (ℕ × List Item)) → Matches files (v ∷ vs) (c ∷ cs) → AreVolumes files l (c ∷ cs) → (offset count : ℕ) → IsBoundary (files (Volume c.0)) offset count
      → AllFrom files (v ∷ vs) offset (drop count c.1 ++ items_of cs)
  from_boundary v [] c [] match are offset count b =
      subst (AllFrom files (v ∷ []) offset) (sym (append-nil (drop count c.1))) (in_last v c.0 c.1 offset count match.0 match.1 are b)
  from_boundary v [] c (d ∷ cs) match are offset count b = absurd match.2
  from_boundary v (w ∷ vs) c [] match are offset count b = absurd match.2
  from_boundary v (w ∷ vs) c (d ∷ cs) match are offset count b =
      let h : LabelledFile IsItem (files (Volume c.0)) l (pos c.0) c.1 [] = are.0 in
      let own = behind_boundary (files (Volume c.0)) l c.0 c.1 [] offset count h (inl (omega arith)) b in
      let there : drop offset (files (Volume v.0)) ≡ frames (drop count h.payloads) ++ [] = ap (λ k. drop offset (files (Volume k))) match.0 ∙ own.0 in
      let walk = leads_in files v (w ∷ vs) match.1 (drop count h.payloads) (drop count c.1) offset [] (read_drop count h.payloads c.1 h.read) there (omega (arith, own.1, match.1, ap (λ k. length (files (Volume k))) match.0)) in
      let to : ℕ = offset + length (frames (drop count h.payloads)) in
      let end : to ≡ v.1 = omega (arith, walk.2, ap length walk.1, length-drop to (files (Volume v.0)), match.1) in
      let next : AllFrom files (w ∷ vs) 132 (drop 0 d.1 ++ items_of cs) = from_boundary w vs d cs match.2 are.2 132 0 (label_boundary (files (Volume d.0))) in
      joined files (drop count c.1) (items_of (d ∷ cs)) (v ∷ w ∷ vs) offset (v ∷ w ∷ vs) to walk.0 (hop files v w vs to (items_of (d ∷ cs)) end next)

  pub from_first : (vs : List (ℕ × ℕ)) (cs : List (ℕ × List Item)) → Matches files vs cs → AreVolumes files l cs → AllFrom files vs 132 (items_of cs)
  from_first [] [] match are = record { last = []; to = 132; leads = (refl, refl); ends = tt }
  from_first [] (c ∷ cs) match are = absurd match
  from_first (v ∷ vs) [] match are = absurd match
  from_first (v ∷ vs) (c ∷ cs) match are = from_boundary v vs c cs match are 132 0 (label_boundary (files (Volume c.0)))

-- ---- what a reader keeps is what the files are read as

meta_with : (bytes : List ℕ) (l : LabelFields) (records : List MetaRecord) (entries : List Entry) (volumes : List (ℕ × List Item)) → IsMeta bytes (contents_with l records [] []) → IsMeta bytes (contents_with l records entries volumes)
meta_with bytes l records entries volumes m = record { torn = m.torn; is_torn = m.is_torn; holds = m.holds; consistent = m.consistent }

index_with : (bytes : List ℕ) (l : LabelFields) (records : List MetaRecord) (entries : List Entry) (volumes : List (ℕ × List Item)) → IsIndex bytes (contents_with l [] entries []) → IsIndex bytes (contents_with l records entries volumes)
index_with bytes l records entries volumes (inl none) = inl none
index_with bytes l records entries volumes (inr has) = inr (record { head = has.head; label = has.label; fit = has.fit; rest = has.rest; short = has.short; is = has.is })

pub record IsSameAs (files : Files) (c : ArchiveContents) (l : LabelFields) (records : List MetaRecord) (entries : List Entry) (vs : List (ℕ × ℕ)) : Type 0 where
  pub label : c.label ≡ l
  pub records_are : c.records ≡ records
  pub entries_are : c.entries ≡ entries
  pub volumes : Matches files vs c.volumes
  pub are : AreVolumes files l c.volumes

pub same_as : (files : Files) (c : ArchiveContents) (l : LabelFields) (records : List MetaRecord) (entries : List Entry) (vs : List (ℕ × ℕ)) → IsArchive files c → IsLabelledArchive files l records entries vs → IsSameAs files c l records entries vs
same_as files c l records entries vs p q =
    let meta : SameFile c.label l (negsuc 0) (negsuc 0) c.records records p.meta.torn q.meta.torn =
    one_file IsRecord one_record (files Meta) c.label l (negsuc 0) (negsuc 0) c.records records p.meta.torn q.meta.torn p.meta.holds q.meta.holds p.meta.is_torn q.meta.is_torn in
    let are : AreVolumes files l c.volumes = subst (λ m. AreVolumes files m c.volumes) meta.label p.volumes in
    let kept : IsArchive files (contents_with l records entries c.volumes) =
    record {
      meta = meta_with (files Meta) l records entries c.volumes q.meta;
      index = index_with (files Index) l records entries c.volumes q.index;
      volumes = are;
      others = p.others;
      labelled = q.beside;
    } in
    let same : ArchiveReading.archive c ≡ ArchiveReading.archive (contents_with l records entries c.volumes) = one_reading files (ArchiveReading.archive c) (ArchiveReading.archive (contents_with l records entries c.volumes)) p kept in
    let contents : c ≡ contents_with l records entries c.volumes = cc in
    record {
      label = meta.label;
      records_are = meta.values;
      entries_are = ap (λ (d : ArchiveContents). d.entries) contents;
      volumes = they_match files l vs c.volumes q.labelled.0 q.labelled.1 q.others are p.others;
      are = are;
    }
