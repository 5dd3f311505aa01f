-- Searches by time over items whose stamps never fall.
use Rattle.std.proofs.Common.{zero, suc, ◌≡◌, ℕ, ◌<◌, ◌≤◌, Bool, true, false, ◌||◌, List, [], ◌∷◌, ◌++◌, length, take, drop, refl, sym, ap, ◌∙◌, subst, append_assoc, arith, ltb-true, eqb-true, eq-eqb, Option, Some, None}
use Rattle.std.proofs.lemmas.Bool.{lt-ltb, le-ltb}
use Rattle.std.proofs.lemmas.List.{take-append-drop}
use Rattle.std.specs.List.{AllByRecursion}
use Rattle.std.specs.Prelude.{if◌then◌else◌, nat_lt, nat_eq, IfSome}
use Rattle.pcp_base.specs.Time.{Moment, microseconds}
use Rattle.pcp_base.specs.declared.file.FileId.TheVariants.{Volume}
use Rattle.pcp_base.specs.declared.result.Item.{Item}
use Rattle.pcp_model.proofs.Lists.{each-append, each-split, each-map}
use Rattle.pcp_model.proofs.Sound.{label_boundary}
use Rattle.pcp_model.specs.declared.records.Entry.{Entry}
use Rattle.pcp_model.specs.Archive.{ArchiveContents, ArchiveReading, items_of}
use Rattle.pcp_model.specs.Disk.{Files}
use Rattle.pcp_model.specs.Payload.{stamp_of}
use Rattle.pcp_model.specs.Sound.{NeverFalls, IsItemBy, NoItemAfter, PointsWell, IsSoundEntry, IsSound}
use Rattle.archive_reader.specs.Laws.{EndsWithSegment, IsEntry, LastIsFound, RangeIsFound, IsEnough}
use Rattle.archive_reader.specs.Searches.{is_after, is_before, or_else, last_of, at, between, segment, items_before, items_from, first_number, chosen_place}

-- ---- what is there or not

or_none : {A : Type 0} (o : Option A) → or_else o None ≡ o
or_none None = refl
or_none (Some x) = refl

or_assoc : {A : Type 0} (o p q : Option A) → or_else (or_else o p) q ≡ or_else o (or_else p q)
or_assoc None p q = refl
or_assoc (Some x) p q = refl

-- ---- stamps that never fall

falls_tail : (x : Item) (items : List Item) → NeverFalls (x ∷ items) → NeverFalls items
falls_tail x [] h = tt
falls_tail x (y ∷ items) h = h.1

falls_behind : (front back : List Item) → NeverFalls (front ++ back) → NeverFalls back
falls_behind [] back h = h
falls_behind (x ∷ front) back h = falls_behind front back (falls_tail x (front ++ back) h)

-- behind an item after t all are
none_later : (t : Moment) (x : Item) (items : List Item) → microseconds t < microseconds (stamp_of x) → NeverFalls (x ∷ items) → at t items ≡ None
none_later t x [] lt h = refl
none_later t x (y ∷ items) lt h =
    let up : microseconds (stamp_of x) ≤ microseconds (stamp_of y) = h.0 in
    let later : microseconds t < microseconds (stamp_of y) = omega (arith, lt, up) in
    ap (λ (b : Bool). or_else (at t items) (if b then None else Some y)) (lt-ltb (microseconds t) (microseconds (stamp_of y)) later)
    ∙ or_none (at t items) ∙ none_later t y items later h.1

or_true : (b : Bool) → (b || true) ≡ true
or_true true = refl
or_true false = refl

none_between : (from to : Moment) (x : Item) (items : List Item) → microseconds to < microseconds (stamp_of x) → NeverFalls (x ∷ items) → between from to items ≡ []
none_between from to x [] lt h = refl
none_between from to x (y ∷ items) lt h =
    let up : microseconds (stamp_of x) ≤ microseconds (stamp_of y) = h.0 in
    let later : microseconds to < microseconds (stamp_of y) = omega (arith, lt, up) in
    let skipped : (is_before from y || is_after to y) ≡ true =
    ap (λ (b : Bool). is_before from y || b) (lt-ltb (microseconds to) (microseconds (stamp_of y)) later) ∙ or_true (is_before from y) in
    ap (λ (b : Bool). if b then between from to items else y ∷ between from to items) skipped ∙ none_between from to y items later h.1

-- the last item, by whether the first is after t
last_step : (t : Moment) (x : Item) (items : List Item) → NeverFalls (x ∷ items) → at t items ≡ last_of (segment t items) → (b : Bool) → is_after t x ≡ b
    → or_else (at t items) (if b then None else Some x) ≡ last_of (if b then [] else x ∷ segment t items)
last_step t x items h more true e = or_none (at t items) ∙ none_later t x items (ltb-true (microseconds t) (microseconds (stamp_of x)) e) h
last_step t x items h more false e = ap (λ (o : Option Item). or_else o (Some x)) more

pub last_in_segment : (t : Moment) (items : List Item) → NeverFalls items → at t items ≡ last_of (segment t items)
last_in_segment t [] h = refl
last_in_segment t (x ∷ items) h = last_step t x items h (last_in_segment t items (falls_tail x items h)) (is_after t x) refl

range_step : (from to : Moment) (x : Item) (items : List Item) → NeverFalls (x ∷ items) → between from to items ≡ between from to (segment to items) → (b : Bool) → is_after to x ≡ b
    → (if is_before from x || b then between from to items else x ∷ between from to items) ≡ between from to (if b then [] else x ∷ segment to items)
range_step from to x items h more true e =
    ap (λ (b : Bool). if b then between from to items else x ∷ between from to items) (or_true (is_before from x))
    ∙ none_between from to x items (ltb-true (microseconds to) (microseconds (stamp_of x)) e) h
range_step from to x items h more false e =
    ap (λ (l : List Item). if is_before from x || false then l else x ∷ l) more
    ∙ ap (λ (b : Bool). if is_before from x || b then between from to (segment to items) else x ∷ between from to (segment to items)) (sym e)

pub range_in_segment : (from to : Moment) (items : List Item) → NeverFalls items → between from to items ≡ between from to (segment to items)
range_in_segment from to [] h = refl
range_in_segment from to (x ∷ items) h = range_step from to x items h (range_in_segment from to items (falls_tail x items h)) (is_after to x) refl

pub ends_with_segment : (items : List Item) → NeverFalls items → EndsWithSegment items
ends_with_segment items h = record { last = λ t. last_in_segment t items h; range = λ from to. range_in_segment from to items h }

-- ---- items before a place

-- none of which is after t
last_of_front : (t : Moment) (front back : List Item) → NoItemAfter t front → at t (front ++ back) ≡ or_else (at t back) (last_of front)
last_of_front t [] back none = sym (or_none (at t back))
last_of_front t (x ∷ front) back none =
    let by : microseconds (stamp_of x) ≤ microseconds t = none.0 in
    ap (λ (b : Bool). or_else (at t (front ++ back)) (if b then None else Some x)) (le-ltb (microseconds t) (microseconds (stamp_of x)) by)
    ∙ ap (λ (o : Option Item). or_else o (Some x)) (last_of_front t front back none.1) ∙ or_assoc (at t back) (last_of front) (Some x)

-- all of which are before a range
range_behind : (from to : Moment) (front back : List Item) → AllByRecursion (λ x. microseconds (stamp_of x) < microseconds from) front → between from to (front ++ back) ≡ between from to back
range_behind from to [] back all = refl
range_behind from to (x ∷ front) back all =
    let early : microseconds (stamp_of x) < microseconds from = all.0 in
    ap (λ (b : Bool). if b || is_after to x then between from to (front ++ back) else x ∷ between from to (front ++ back)) (lt-ltb (microseconds (stamp_of x)) (microseconds from) early)
    ∙ range_behind from to front back all.1

part_here : (volume count : ℕ) (items : List Item) (vs : List (ℕ × List Item)) (b : Bool)
    → items ++ items_of vs ≡ (if b then take count items else []) ++ (if b then drop count items ++ items_of vs else items ++ items_of vs)
part_here volume count items vs true = ap (λ (l : List Item). l ++ items_of vs) (sym (take-append-drop count items)) ∙ append_assoc (take count items) (drop count items) (items_of vs)
part_here volume count items vs false = refl

part_step : (volume count : ℕ) (v : ℕ × List Item) (vs : List (ℕ × List Item)) → items_of vs ≡ items_before volume count vs ++ items_from volume count vs → (b : Bool)
    → v.1 ++ items_of vs ≡ (if b then v.1 ++ items_before volume count vs else (if nat_eq v.0 volume then take count v.1 else []))
    ++ (if b then items_from volume count vs else (if nat_eq v.0 volume then drop count v.1 ++ items_of vs else v.1 ++ items_of vs))
part_step volume count v vs more true = ap (λ (l : List Item). v.1 ++ l) more ∙ sym (append_assoc v.1 (items_before volume count vs) (items_from volume count vs))
part_step volume count v vs more false = part_here volume count v.1 vs (nat_eq v.0 volume)

pub places_part : (volume count : ℕ) (volumes : List (ℕ × List Item)) → items_of volumes ≡ items_before volume count volumes ++ items_from volume count volumes
places_part volume count [] = refl
places_part volume count (v ∷ vs) = part_step volume count v vs (places_part volume count vs) (nat_lt v.0 volume)

-- ---- before an entry that points well

here_by : (s : Moment) (volume count number : ℕ) (items : List Item) → (number ≡ volume → NoItemAfter s (take count items)) → (b : Bool) → nat_eq number volume ≡ b
    → NoItemAfter s (if b then take count items else [])
here_by s volume count number items this true e = this (eqb-true number volume e)
here_by s volume count number items this false e = tt

before_step : (s : Moment) (volume count : ℕ) (v : ℕ × List Item) (vs : List (ℕ × List Item)) → (v.0 ≡ volume → NoItemAfter s (take count v.1)) → (v.0 < volume → NoItemAfter s v.1)
    → NoItemAfter s (items_before volume count vs) → (b : Bool) → nat_lt v.0 volume ≡ b
    → NoItemAfter s (if b then v.1 ++ items_before volume count vs else (if nat_eq v.0 volume then take count v.1 else []))
before_step s volume count v vs this earlier more true e = each-append (IsItemBy s) v.1 (items_before volume count vs) (earlier (ltb-true v.0 volume e)) more
before_step s volume count v vs this earlier more false e = here_by s volume count v.0 v.1 this (nat_eq v.0 volume) refl

before_by : (s : Moment) (volume count : ℕ) (vs : List (ℕ × List Item)) → AllByRecursion (λ (v : ℕ × List Item). v.0 ≡ volume → NoItemAfter s (take count v.1)) vs
    → AllByRecursion (λ (v : ℕ × List Item). v.0 < volume → NoItemAfter s v.1) vs → NoItemAfter s (items_before volume count vs)
before_by s volume count [] this earlier = tt
before_by s volume count (v ∷ vs) this earlier =
    before_step s volume count v vs this.0 earlier.0 (before_by s volume count vs this.1 earlier.1) (nat_lt v.0 volume) refl

module _ (volumes : List (ℕ × List Item)) (stamp : Moment) (volume count : ℕ) (rises : NeverFalls (items_of volumes)) (front_by : NoItemAfter stamp (items_before volume count volumes)) where
  abbrev front : List Item
  front = items_before volume count volumes

  abbrev back : List Item
  back = items_from volume count volumes

  parted : items_of volumes ≡ front ++ back
  parted = places_part volume count volumes

  back_rises : NeverFalls back
  back_rises = falls_behind front back (subst NeverFalls parted rises)

  pub found_last : (t : Moment) → microseconds stamp ≤ microseconds t → at t (items_of volumes) ≡ or_else (last_of (segment t back)) (last_of front)
  found_last t low =
      let by : NoItemAfter t front = each-map (IsItemBy stamp) (IsItemBy t) (λ x h. omega (arith, h, low)) front front_by in
      ap (at t) parted ∙ last_of_front t front back by ∙ ap (λ (o : Option Item). or_else o (last_of front)) (last_in_segment t back back_rises)

  pub found_range : (from to : Moment) → microseconds stamp < microseconds from → between from to (items_of volumes) ≡ between from to (segment to back)
  found_range from to low =
      let early : AllByRecursion (λ (x : Item). microseconds (stamp_of x) < microseconds from) front =
      each-map (IsItemBy stamp) (λ (x : Item). microseconds (stamp_of x) < microseconds from) (λ x h. omega (arith, h, low)) front front_by in
      ap (between from to) parted ∙ range_behind from to front back early ∙ range_in_segment from to back back_rises

-- ---- from the first record on

all_from : (volumes : List (ℕ × List Item)) → items_from (first_number volumes) 0 volumes ≡ items_of volumes
all_from [] = refl
all_from (v ∷ vs) =
    ap (λ (b : Bool). if b then items_from v.0 0 vs else (if nat_eq v.0 v.0 then drop 0 v.1 ++ items_of vs else v.1 ++ items_of vs)) (le-ltb v.0 v.0 (omega arith))
    ∙ ap (λ (b : Bool). if b then drop 0 v.1 ++ items_of vs else v.1 ++ items_of vs) (eq-eqb v.0 v.0 refl)

none_before : (volumes : List (ℕ × List Item)) → items_before (first_number volumes) 0 volumes ≡ []
none_before [] = refl
none_before (v ∷ vs) =
    ap (λ (b : Bool). if b then v.1 ++ items_before v.0 0 vs else (if nat_eq v.0 v.0 then take 0 v.1 else [])) (le-ltb v.0 v.0 (omega arith))
    ∙ ap (λ (b : Bool). if b then take 0 v.1 else []) (eq-eqb v.0 v.0 refl)

last_from_first : (files : Files) (volumes : List (ℕ × List Item)) (t : Moment) → NeverFalls (items_of volumes) → LastIsFound files volumes t (first_number volumes, 132)
last_from_first files volumes t rises =
    let first : ℕ = first_number volumes in
    record {
      count = 0;
      boundary = label_boundary (files (Volume first));
      last = last_in_segment t (items_of volumes) rises
          ∙ sym (or_none (last_of (segment t (items_of volumes))))
          ∙ ap (λ (l : List Item). or_else (last_of (segment t l)) None) (sym (all_from volumes))
          ∙ ap (λ (l : List Item). or_else (last_of (segment t (items_from first 0 volumes))) (last_of l)) (sym (none_before volumes));
    }

range_from_first : (files : Files) (volumes : List (ℕ × List Item)) (from to : Moment) → NeverFalls (items_of volumes) → RangeIsFound files volumes from to (first_number volumes, 132)
range_from_first files volumes from to rises = record {
  count = 0;
  boundary = label_boundary (files (Volume (first_number volumes)));
  range = range_in_segment from to (items_of volumes) rises ∙ ap (λ (l : List Item). between from to (segment to l)) (sym (all_from volumes));
}

-- ---- from an entry on

positive : (n : ℕ) → nat_eq n 0 ≡ false → 0 < n
positive zero e = cc
positive (suc n) e = omega arith

module _ (files : Files) (c : ArchiveContents) (rises : NeverFalls (items_of c.volumes)) (sound : AllByRecursion (IsSoundEntry files c) c.entries) where
  its_points : (Such : Moment → Type 0) (e : Entry) → IsEntry c Such e → 0 < length (files (Volume e.volume)) → PointsWell files c e
  its_points Such e entry some =
      let all : AllByRecursion (IsSoundEntry files c) (entry.front ++ e ∷ entry.behind) = subst (AllByRecursion (IsSoundEntry files c)) entry.is sound in
      let this : IsSoundEntry files c e = (each-split (IsSoundEntry files c) entry.front (e ∷ entry.behind) all).1.0 in this.points some

  front_of : (e : Entry) → (p : PointsWell files c e) → NoItemAfter e.stamp (items_before e.volume p.items c.volumes)
  front_of e p = before_by e.stamp e.volume p.items c.volumes p.before p.earlier

  last_from_entry : (t : Moment) (e : Entry) → IsEntry c (λ s. microseconds s ≤ microseconds t) e → (b : Bool) → nat_eq (length (files (Volume e.volume))) 0 ≡ b
      → LastIsFound files c.volumes t (if b then (first_number c.volumes, 132) else (e.volume, e.offset))
  last_from_entry t e entry true none = last_from_first files c.volumes t rises
  last_from_entry t e entry false some =
      let p : PointsWell files c e = its_points (λ s. microseconds s ≤ microseconds t) e entry (positive (length (files (Volume e.volume))) some) in
      record { count = p.items; boundary = p.volume; last = found_last c.volumes e.stamp e.volume p.items rises (front_of e p) t entry.such }

  range_from_entry : (from to : Moment) (e : Entry) → IsEntry c (λ s. microseconds s < microseconds from) e → (b : Bool) → nat_eq (length (files (Volume e.volume))) 0 ≡ b
      → RangeIsFound files c.volumes from to (if b then (first_number c.volumes, 132) else (e.volume, e.offset))
  range_from_entry from to e entry true none = range_from_first files c.volumes from to rises
  range_from_entry from to e entry false some =
      let p : PointsWell files c e = its_points (λ s. microseconds s < microseconds from) e entry (positive (length (files (Volume e.volume))) some) in
      record { count = p.items; boundary = p.volume; range = found_range c.volumes e.stamp e.volume p.items rises (front_of e p) from to entry.such }

  last_found : (t : Moment) (found : Option Entry) → IfSome found (IsEntry c (λ s. microseconds s ≤ microseconds t)) → LastIsFound files c.volumes t (chosen_place files c.volumes found)
  last_found t None entry = last_from_first files c.volumes t rises
  last_found t (Some e) entry = last_from_entry t e entry (nat_eq (length (files (Volume e.volume))) 0) refl

  range_found : (from to : Moment) (found : Option Entry) → IfSome found (IsEntry c (λ s. microseconds s < microseconds from)) → RangeIsFound files c.volumes from to (chosen_place files c.volumes found)
  range_found from to None entry = range_from_first files c.volumes from to rises
  range_found from to (Some e) entry = range_from_entry from to e entry (nat_eq (length (files (Volume e.volume))) 0) refl

pub chosen_is_enough : (files : Files) (c : ArchiveContents) (found : Option Entry) → IsSound files (ArchiveReading.archive c) → IsEnough files c found
chosen_is_enough files c found sound = record {
  last = λ t entry. last_found files c sound.0 sound.1 t found entry;
  range = λ from to entry. range_found files c sound.0 sound.1 from to found entry;
}
