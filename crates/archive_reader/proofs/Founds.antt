-- What the searches find in a sound archive: where they begin, and the record before that place.
use Rattle.std.proofs.Common.{zero, suc, ◌≡◌, ◌⊎◌, inl, inr, ℕ, pos, ◌+◌, ◌<◌, ◌≤◌, Bool, true, false, List, [], ◌∷◌, ◌++◌, length, take, drop, refl, sym, ap, ◌∙◌, subst, append_assoc, arith, ltb-true, eqb-true, eq-eqb, Option, Some, None}
use Rattle.std.proofs.lemmas.Bool.{cases_lt, lt-ltb, le-ltb, ltb-false}
use Rattle.std.proofs.lemmas.List.{take-append-drop, take_all, append-nil, length-append, length-take, nil_from_length}
use Rattle.std.specs.List.{AllByRecursion}
use Rattle.std.specs.Prelude.{if◌then◌else◌, nat_lt, nat_eq, Contains}
use Rattle.pcp_base.specs.declared.file.FileId.TheVariants.{Volume}
use Rattle.pcp_base.specs.declared.result.Item.{Item}
use Rattle.pcp_model.specs.Archive.{AreRead, LabelledFile, IsLastVolume, AreVolumes, items_of}
use Rattle.pcp_model.specs.Disk.{Files}
use Rattle.pcp_model.specs.Frame.{frame, frames, IsFrameable, IsTorn}
use Rattle.pcp_model.specs.LabelFields.{LabelFields}
use Rattle.pcp_model.specs.Payload.{IsItem}
use Rattle.pcp_model.specs.Sound.{IsBoundary}
use Rattle.pcp_model.proofs.Boundaries.{boundary_of_file}
use Rattle.pcp_model.proofs.Cuts.{length_of_label, frames-append, as_many}
use Rattle.pcp_model.proofs.Lengths.{length-frame}
use Rattle.pcp_model.proofs.Sound.{end_boundary}
use Rattle.archive_frame.specs.Steps.{Stands}
use Rattle.archive_loading.specs.Ending.{ItemEnds}
use Rattle.archive_reader.specs.Asked.{volumes_below, last_filled, first_at, back_end}
use Rattle.archive_loading.specs.Loaded.{Rises, numbers}
use Rattle.archive_reader.specs.Searches.{or_else, last_of, items_before, items_from}
use Rattle.archive_reader.specs.Walks.{volumes_from, AllFrom}
use Rattle.archive_reader.proofs.Archives.{Matches, from_boundary, short_boundary}
use Rattle.archive_reader.proofs.Stepping.{from_skips, from_stops}

-- ---- the last of a list

pub last_append : {A : Type 0} (xs ys : List A) → last_of (xs ++ ys) ≡ or_else (last_of ys) (last_of xs)
last_append [] ys = none_behind (last_of ys)
  where
    none_behind : {A : Type 0} (o : Option A) → o ≡ or_else o None
    none_behind None = refl
    none_behind (Some y) = refl
last_append (x ∷ xs) ys = ap (λ o. or_else o (Some x)) (last_append xs ys) ∙ assoc (last_of ys) (last_of xs) (Some x)
  where
    assoc : {A : Type 0} (o p q : Option A) → or_else (or_else o p) q ≡ or_else o (or_else p q)
    assoc None p q = refl
    assoc (Some x) p q = refl

-- ---- the record that ends at a boundary

-- of records that are read as items one, and those before it
pub record HasRead (ps : List (List ℕ)) (xs : List Item) (k : ℕ) : Type 0 where
  pub payload : List ℕ
  pub item : Item
  pub last : last_of (take (suc k) xs) ≡ Some item
  pub fits : IsFrameable payload
  pub reads : IsItem payload item
  pub parts : frames (take (suc k) ps) ≡ frames (take k ps) ++ frame payload

read_at : (ps : List (List ℕ)) (xs : List Item) (k : ℕ) → AreRead IsItem ps xs → k < length xs → HasRead ps xs k
read_at [] [] k read lt = absurd (omega (arith, lt))
read_at [] (x ∷ xs) k read lt = absurd (read tt)
read_at (p ∷ ps) [] k read lt = absurd (read tt)
read_at (p ∷ ps) (x ∷ xs) zero read lt = record { payload = p; item = x; last = refl; fits = read.0; reads = read.1; parts = append-nil (frame p) }
read_at (p ∷ ps) (x ∷ xs) (suc k) read lt =
    let more : HasRead ps xs k = read_at ps xs k read.2 (omega (arith, lt)) in
    record {
      payload = more.payload;
      item = more.item;
      last = ap (λ o. or_else o (Some x)) more.last;
      fits = more.fits;
      reads = more.reads;
      parts = ap (λ t. frame p ++ t) more.parts ∙ sym (append_assoc (frame p) (frames (take k ps)) (frame more.payload));
    }

-- the last of the items before a boundary ends there
pub record LastEnds (bytes : List ℕ) (offset : ℕ) (before : List Item) : Type 0 where
  pub item : Item
  pub last : last_of before ≡ Some item
  pub ends : ItemEnds bytes offset item

pub ends_at : (bytes : List ℕ) (l : LabelFields) (n : ℕ) (items : List Item) (torn : List ℕ) (offset count k : ℕ) → (h : LabelledFile IsItem bytes l (pos n) items torn) → IsTorn torn → IsBoundary bytes offset count → count ≡ suc k
    → LastEnds bytes offset (take count items)
ends_at bytes l n items torn offset count k h is_torn b some =
    let own : (count ≤ length items) × (offset ≡ 132 + length (frames (take count h.payloads))) = boundary_of_file IsItem bytes l (pos n) items torn offset count h is_torn b in
    let r : HasRead h.payloads items k = read_at h.payloads items k h.read (omega (arith, own.0, some)) in
    let head : length h.head ≡ 132 = length_of_label h.head l (pos n) h.label in
    let front : List ℕ = h.head ++ frames (take k h.payloads) in
    let first : ℕ = length front in
    let rest : List ℕ = frames (drop (suc k) h.payloads) ++ torn in
    let all : frames h.payloads ≡ frames (take k h.payloads) ++ (frame r.payload ++ frames (drop (suc k) h.payloads)) =
    ap frames (sym (take-append-drop (suc k) h.payloads)) ∙ frames-append (take (suc k) h.payloads) (drop (suc k) h.payloads) ∙ ap (λ t. t ++ frames (drop (suc k) h.payloads)) r.parts
    ∙ append_assoc (frames (take k h.payloads)) (frame r.payload) (frames (drop (suc k) h.payloads)) in
    let is : bytes ≡ front ++ (frame r.payload ++ rest) =
    h.is ∙ ap (λ t. h.head ++ (t ++ torn)) all
    ∙ ap (λ t. h.head ++ t) (append_assoc (frames (take k h.payloads)) (frame r.payload ++ frames (drop (suc k) h.payloads)) torn ∙ ap (λ t. frames (take k h.payloads) ++ t) (append_assoc (frame r.payload) (frames (drop (suc k) h.payloads)) torn))
    ∙ sym (append_assoc h.head (frames (take k h.payloads)) (frame r.payload ++ rest)) in
    let size : length (frames (take count h.payloads)) ≡ length (frames (take k h.payloads)) + length (frame r.payload) =
    ap (λ n. length (frames (take n h.payloads))) some ∙ ap length r.parts ∙ length-append (frames (take k h.payloads)) (frame r.payload) in
    let begins : first ≡ 132 + length (frames (take k h.payloads)) = omega (arith, length-append h.head (frames (take k h.payloads)), head) in
    let stands : Stands bytes r.payload first offset =
    record { fits = r.fits; front = front; rest = rest; is = is; begins = refl; ends = omega (arith, own.1, size, begins, length-frame r.payload) } in
    record {
      item = r.item;
      last = ap (λ n. last_of (take n items)) some ∙ r.last;
      ends = record { first = first; behind = omega (arith, begins); stands = record { payload = r.payload; stands = stands; reads = r.reads } };
    }

-- ---- one of the volumes

abbrev pub IsOf : ℕ → List (ℕ × ℕ) → Type 0
IsOf n [] = ⊥
IsOf n (v ∷ vs) = (v.0 ≡ n) ⊎ IsOf n vs

pub is_of : (n : ℕ) (vs : List (ℕ × ℕ)) → IsOf n vs ⊎ (Contains (numbers vs) n → ⊥)
is_of n [] = inr (λ (k, lt, is). omega (arith, lt))
is_of n (v ∷ vs) = go (nat_eq v.0 n) refl (is_of n vs)
  where
    none : (v.0 ≡ n → ⊥) → (Contains (numbers vs) n → ⊥) → Contains (numbers (v ∷ vs)) n → ⊥
    none other more (zero, h, is) = other is
    none other more (suc k, h, is) = more (k, omega (arith, h), is)

    go : (b : Bool) → nat_eq v.0 n ≡ b → IsOf n vs ⊎ (Contains (numbers vs) n → ⊥) → IsOf n (v ∷ vs) ⊎ (Contains (numbers (v ∷ vs)) n → ⊥)
    go true e more = inl (inl (eqb-true v.0 n e))
    go false e (inl there) = inl (inr there)
    go false e (inr more) = inr (none (λ same. let both : true ≡ false = sym (eq-eqb v.0 n same) ∙ e in cc) more)

pub up : (v : ℕ × ℕ) (n : ℕ) (vs : List (ℕ × ℕ)) → AllByRecursion (λ (w : ℕ × ℕ). v.0 < w.0) vs → IsOf n vs → v.0 < n
up v n [] all there = absurd there
up v n (w ∷ vs) all (inl same) = omega (arith, all.0, same)
up v n (w ∷ vs) all (inr there) = up v n vs all.1 there

some_from : (n : ℕ) (ws : List (ℕ × ℕ)) → IsOf n ws → volumes_from n ws ≡ [] → ⊥
some_from n [] there empty = there
some_from n (w ∷ ws) there empty = go (cases_lt w.0 n) there (some_from n ws)
  where
    go : (w.0 < n) ⊎ (n ≤ w.0) → (w.0 ≡ n) ⊎ IsOf n ws → (IsOf n ws → volumes_from n ws ≡ [] → ⊥) → ⊥
    go (inl lt) (inl same) more = omega (arith, lt, same)
    go (inl lt) (inr later) more = more later (sym (from_skips n w ws lt) ∙ empty)
    go (inr le) here more = let e : w ∷ ws ≡ [] = sym (from_stops n w ws le) ∙ empty in cc

some_frames : (ps : List (List ℕ)) → 0 < length ps → 0 < length (frames ps)
some_frames [] lt = absurd (omega (arith, lt))
some_frames (p ∷ ps) lt = omega (arith, length-append (frame p) (frames ps), length-frame p)

no_frames : (ps : List (List ℕ)) → length (frames ps) ≡ 0 → ps ≡ []
no_frames [] size = refl
no_frames (p ∷ ps) size = absurd (omega (arith, size, length-append (frame p) (frames ps), length-frame p))

-- its items from a place in it on, and those before
from_here : (n count : ℕ) (c : ℕ × List Item) (cs : List (ℕ × List Item)) → c.0 ≡ n → items_from n count (c ∷ cs) ≡ drop count c.1 ++ items_of cs
from_here n count c cs same =
    ap (λ (b : Bool). if b then items_from n count cs else (if nat_eq c.0 n then drop count c.1 ++ items_of cs else c.1 ++ items_of cs)) (le-ltb c.0 n (omega (arith, same)))
    ∙ ap (λ (b : Bool). if b then drop count c.1 ++ items_of cs else c.1 ++ items_of cs) (eq-eqb c.0 n same)

from_later : (n count : ℕ) (c : ℕ × List Item) (cs : List (ℕ × List Item)) → c.0 < n → items_from n count (c ∷ cs) ≡ items_from n count cs
from_later n count c cs lt = ap (λ (b : Bool). if b then items_from n count cs else (if nat_eq c.0 n then drop count c.1 ++ items_of cs else c.1 ++ items_of cs)) (lt-ltb c.0 n lt)

before_here : (n count : ℕ) (c : ℕ × List Item) (cs : List (ℕ × List Item)) → c.0 ≡ n → items_before n count (c ∷ cs) ≡ take count c.1
before_here n count c cs same =
    ap (λ (b : Bool). if b then c.1 ++ items_before n count cs else (if nat_eq c.0 n then take count c.1 else [])) (le-ltb c.0 n (omega (arith, same)))
    ∙ ap (λ (b : Bool). if b then take count c.1 else []) (eq-eqb c.0 n same)

before_later : (n count : ℕ) (c : ℕ × List Item) (cs : List (ℕ × List Item)) → c.0 < n → items_before n count (c ∷ cs) ≡ c.1 ++ items_before n count cs
before_later n count c cs lt = ap (λ (b : Bool). if b then c.1 ++ items_before n count cs else (if nat_eq c.0 n then take count c.1 else [])) (lt-ltb c.0 n lt)

below_here : (n : ℕ) (v : ℕ × ℕ) (vs : List (ℕ × ℕ)) → n ≤ v.0 → volumes_below n (v ∷ vs) ≡ []
below_here n v vs le = ap (λ (b : Bool). if b then v ∷ volumes_below n vs else []) (le-ltb v.0 n le)

below_later : (n : ℕ) (v : ℕ × ℕ) (vs : List (ℕ × ℕ)) → v.0 < n → volumes_below n (v ∷ vs) ≡ v ∷ volumes_below n vs
below_later n v vs lt = ap (λ (b : Bool). if b then v ∷ volumes_below n vs else []) (lt-ltb v.0 n lt)

-- what ends where a search looks back
abbrev pub BackIs : Files → Option (ℕ × ℕ) → List Item → Type 0
BackIs files None before = before ≡ []
BackIs files (Some w) before = LastEnds (files (Volume w.0)) w.1 before

two_backs : (files : Files) (o p : Option (ℕ × ℕ)) (xs ys : List Item) → BackIs files o ys → BackIs files p xs → BackIs files (or_else o p) (xs ++ ys)
two_backs files (Some w) p xs ys last front =
    record { item = last.item; last = last_append xs ys ∙ ap (λ o. or_else o (last_of xs)) last.last; ends = last.ends }
two_backs files None p xs ys none front = subst (BackIs files p) (sym (ap (λ l. xs ++ l) none ∙ append-nil xs)) front

module _ (files : Files) (l : LabelFields) where
  others_are : (c : ℕ × List Item) (cs : List (ℕ × List Item)) → AreVolumes files l (c ∷ cs) → AreVolumes files l cs
  others_are c [] are = tt
  others_are c (d ∷ cs) are = are.2

  pub from_of : (n offset count : ℕ) (vs : List (ℕ × ℕ)) (cs : List (ℕ × List Item)) → Matches files vs cs → AreVolumes files l cs → Rises vs → IsOf n vs → IsBoundary (files (Volume n)) offset count
      → AllFrom files (volumes_from n vs) offset (items_from n count cs)
  from_of n offset count [] cs match are rises there b = absurd there
  from_of n offset count (v ∷ vs) [] match are rises there b = absurd match
  from_of n offset count (v ∷ vs) (c ∷ cs) match are rises (inl same) b =
      let number : c.0 ≡ n = sym match.0 ∙ same in
      subst (λ xs. AllFrom files (volumes_from n (v ∷ vs)) offset xs) (sym (from_here n count c cs number))
      (subst (λ ws. AllFrom files ws offset (drop count c.1 ++ items_of cs)) (sym (from_stops n v vs (omega (arith, same))))
      (from_boundary files l v vs c cs match are offset count (subst (λ k. IsBoundary (files (Volume k)) offset count) (sym number) b)))
  from_of n offset count (v ∷ vs) (c ∷ cs) match are rises (inr there) b =
      let lt : v.0 < n = up v n vs rises.0 there in
      subst (λ xs. AllFrom files (volumes_from n (v ∷ vs)) offset xs) (sym (from_later n count c cs (omega (arith, lt, match.0))))
      (subst (λ ws. AllFrom files ws offset (items_from n count cs)) (sym (from_skips n v vs lt)) (from_of n offset count vs cs match.2 (others_are c cs are) rises.1 there b))

  -- the items of one volume up to a boundary
  last_volume : (n : ℕ) (items : List Item) (offset count k : ℕ) → IsLastVolume (files (Volume n)) l n items → IsBoundary (files (Volume n)) offset count → count ≡ suc k → LastEnds (files (Volume n)) offset (take count items)
  last_volume n items offset count k (inl (some, none, begins)) b more = absurd (omega (arith, (short_boundary (files (Volume n)) offset count begins.short b).1, more))
  last_volume n items offset count k (inr (torn, is_torn, h)) b more = ends_at (files (Volume n)) l n items torn offset count k h is_torn b more

  this_volume : (c : ℕ × List Item) (cs : List (ℕ × List Item)) (offset count k : ℕ) → AreVolumes files l (c ∷ cs) → IsBoundary (files (Volume c.0)) offset count → count ≡ suc k → LastEnds (files (Volume c.0)) offset (take count c.1)
  this_volume c [] offset count k are b more = last_volume c.0 c.1 offset count k are b more
  this_volume c (d ∷ cs) offset count k are b more = ends_at (files (Volume c.0)) l c.0 c.1 [] offset count k are.0 (inl (omega arith)) b more

  -- behind the start of a volume's records
  back_within_volume : (n offset count k : ℕ) (vs : List (ℕ × ℕ)) (cs : List (ℕ × List Item)) → Matches files vs cs → AreVolumes files l cs → Rises vs → IsOf n vs → IsBoundary (files (Volume n)) offset count → count ≡ suc k
      → BackIs files (first_at offset (volumes_from n vs)) (items_before n count cs)
  back_within_volume n offset count k [] cs match are rises there b more = absurd there
  back_within_volume n offset count k (v ∷ vs) [] match are rises there b more = absurd match
  back_within_volume n offset count k (v ∷ vs) (c ∷ cs) match are rises (inl same) b more =
      let number : c.0 ≡ n = sym match.0 ∙ same in
      subst (λ ws. BackIs files (first_at offset ws) (items_before n count (c ∷ cs))) (sym (from_stops n v vs (omega (arith, same))))
      (subst (λ xs. LastEnds (files (Volume v.0)) offset xs) (sym (before_here n count c cs number))
      (subst (λ m. LastEnds (files (Volume m)) offset (take count c.1)) (sym match.0) (this_volume c cs offset count k are (subst (λ m. IsBoundary (files (Volume m)) offset count) (sym number) b) more)))
  back_within_volume n offset count k (v ∷ vs) (c ∷ cs) match are rises (inr there) b more =
      let lt : v.0 < n = up v n vs rises.0 there in
      subst (λ ws. BackIs files (first_at offset ws) (items_before n count (c ∷ cs))) (sym (from_skips n v vs lt))
      (subst (λ xs. BackIs files (first_at offset (volumes_from n vs)) xs) (sym (before_later n count c cs (omega (arith, lt, match.0))))
      (longer (volumes_from n vs) (back_within_volume n offset count k vs cs match.2 (others_are c cs are) rises.1 there b more) (some_from n vs there)))
    where
      longer : (ws : List (ℕ × ℕ)) → BackIs files (first_at offset ws) (items_before n count cs) → (ws ≡ [] → ⊥) → BackIs files (first_at offset ws) (c.1 ++ items_before n count cs)
      longer [] back some = absurd (some refl)
      longer (w ∷ ws) back some = record { item = back.item; last = last_append c.1 (items_before n count cs) ∙ ap (λ o. or_else o (last_of c.1)) back.last; ends = back.ends }

  -- a whole volume that holds more than its label
  whole_volume : (v : ℕ × ℕ) (c : ℕ × List Item) → v.0 ≡ c.0 → v.1 ≡ length (files (Volume v.0)) → LabelledFile IsItem (files (Volume c.0)) l (pos c.0) c.1 [] → (b : Bool) → nat_lt 132 v.1 ≡ b → BackIs files (if b then Some v else None) c.1
  whole_volume v c same long h b e = go c.1 refl b e
    where
      bytes : List ℕ
      bytes = files (Volume c.0)

      size : v.1 ≡ length bytes
      size = long ∙ ap (λ n. length (files (Volume n))) same

      end : IsBoundary bytes (length bytes) (length c.1)
      end = end_boundary IsItem bytes l (pos c.0) c.1 h

      empty : (items : List Item) → c.1 ≡ items → length items ≡ 0 → v.1 ≡ 132
      empty items is none =
          let own : (length c.1 ≤ length c.1) × (length bytes ≡ 132 + length (frames (take (length c.1) h.payloads))) = boundary_of_file IsItem bytes l (pos c.0) c.1 [] (length bytes) (length c.1) h (inl (omega arith)) end in
          let nothing : take (length c.1) h.payloads ≡ [] = ap (λ n. take n h.payloads) (ap length is ∙ none) in
          omega (arith, size, own.1, ap (λ ps. length (frames ps)) nothing)

      go : (items : List Item) → c.1 ≡ items → (b : Bool) → nat_lt 132 v.1 ≡ b → BackIs files (if b then Some v else None) c.1
      go [] is true e = absurd (omega (arith, ltb-true 132 v.1 e, empty [] is refl))
      go [] is false e = is
      go (x ∷ items) is true e =
          let there : LastEnds bytes (length bytes) (take (length c.1) c.1) = ends_at bytes l c.0 c.1 [] (length bytes) (length c.1) (length items) h (inl (omega arith)) end (let m : length c.1 ≡ suc (length items) = ap length is in m) in
          subst (λ n. LastEnds (files (Volume n)) v.1 c.1) (sym same) (subst (λ o. LastEnds bytes o c.1) (sym size) (subst (λ xs. LastEnds bytes (length bytes) xs) (take_all (length c.1) c.1 (omega arith)) there))
      go (x ∷ items) is false e =
          let there : LastEnds bytes (length bytes) (take (length c.1) c.1) = ends_at bytes l c.0 c.1 [] (length bytes) (length c.1) (length items) h (inl (omega arith)) end (let m : length c.1 ≡ suc (length items) = ap length is in m) in
          let own : (length c.1 ≤ length c.1) × (length bytes ≡ 132 + length (frames (take (length c.1) h.payloads))) = boundary_of_file IsItem bytes l (pos c.0) c.1 [] (length bytes) (length c.1) h (inl (omega arith)) end in
          let many : length h.payloads ≡ length c.1 = as_many IsItem h.payloads c.1 h.read in
          absurd (omega (arith, ltb-false 132 v.1 e, size, own.1, some_frames (take (length c.1) h.payloads) (omega (arith, length-take (length c.1) h.payloads, many, ap length is))))

  -- at the start of a volume's records
  back_over : (n : ℕ) (vs : List (ℕ × ℕ)) (cs : List (ℕ × List Item)) → Matches files vs cs → AreVolumes files l cs → Rises vs → IsOf n vs → BackIs files (last_filled (volumes_below n vs)) (items_before n 0 cs)
  back_over n [] cs match are rises there = absurd there
  back_over n (v ∷ vs) [] match are rises there = absurd match
  back_over n (v ∷ vs) (c ∷ cs) match are rises (inl same) =
      subst (λ ws. BackIs files (last_filled ws) (items_before n 0 (c ∷ cs))) (sym (below_here n v vs (omega (arith, same)))) (before_here n 0 c cs (sym match.0 ∙ same))
  back_over n (v ∷ []) (c ∷ cs) match are rises (inr there) = absurd there
  back_over n (v ∷ w ∷ vs) (c ∷ []) match are rises (inr there) = absurd match.2
  back_over n (v ∷ w ∷ vs) (c ∷ d ∷ cs) match are rises (inr there) =
      let lt : v.0 < n = up v n (w ∷ vs) rises.0 there in
      let more : BackIs files (last_filled (volumes_below n (w ∷ vs))) (items_before n 0 (d ∷ cs)) = back_over n (w ∷ vs) (d ∷ cs) match.2 are.2 rises.1 there in
      subst (λ ws. BackIs files (last_filled ws) (items_before n 0 (c ∷ d ∷ cs))) (sym (below_later n v (w ∷ vs) lt))
      (subst (λ xs. BackIs files (last_filled (v ∷ volumes_below n (w ∷ vs))) xs) (sym (before_later n 0 c (d ∷ cs) (omega (arith, lt, match.0))))
      (two_backs files (last_filled (volumes_below n (w ∷ vs))) (if nat_lt 132 v.1 then Some v else None) c.1 (items_before n 0 (d ∷ cs)) more (whole_volume v c match.0 match.1 are.0 (nat_lt 132 v.1) refl)))

  pub back_of : (n offset count : ℕ) (vs : List (ℕ × ℕ)) (cs : List (ℕ × List Item)) → Matches files vs cs → AreVolumes files l cs → Rises vs → IsOf n vs → IsBoundary (files (Volume n)) offset count
      → BackIs files (back_end vs n offset) (items_before n count cs)
  back_of n offset count vs cs match are rises there b = go (nat_eq offset 132) refl count refl
    where
      none : offset ≡ 132 → b.payloads ≡ []
      none same = no_frames b.payloads (omega (arith, same, b.is))

      go : (t : Bool) → nat_eq offset 132 ≡ t → (k : ℕ) → count ≡ k → BackIs files (if t then last_filled (volumes_below n vs) else first_at offset (volumes_from n vs)) (items_before n count cs)
      go true e k is =
          let nothing : count ≡ 0 = sym b.many ∙ ap length (none (eqb-true offset 132 e)) in
          subst (λ m. BackIs files (last_filled (volumes_below n vs)) (items_before n m cs)) (sym nothing) (back_over n vs cs match are rises there)
      go false e zero is =
          let start : offset ≡ 132 = b.is ∙ ap (λ ps. 132 + length (frames ps)) (nil_from_length b.payloads (b.many ∙ is)) in
          absurd (let both : true ≡ false = sym (eq-eqb offset 132 start) ∙ e in cc)
      go false e (suc k) is = back_within_volume n offset count k vs cs match are rises there b is
