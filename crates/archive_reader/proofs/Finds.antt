-- Over readable and sound archives the searches find what the scan has.
use Rattle.std.proofs.Common.{◌≡◌, ◌⊎◌, inl, inr, ⊎_elim, ℕ, ◌+◌, ◌-◌, ◌<◌, ◌≤◌, Bool, true, false, List, [], ◌∷◌, ◌++◌, length, negsuc, refl, sym, ap, ◌∙◌, subst, arith, ltb-true, eqb-true, eq-eqb, Option, Some, None}
use Rattle.std.proofs.lemmas.Bool.{cases_lt, le-ltb, ltb-false}
use Rattle.std.proofs.lemmas.List.{length-append, length-drop}
use Rattle.std.specs.List.{AllByRecursion}
use Rattle.std.specs.Prelude.{if◌then◌else◌, nat_lt, nat_eq, IfSome, Contains}
use Rattle.pcp_base.specs.Time.{Moment, microseconds}
use Rattle.pcp_base.specs.declared.file.FileId.{FileId}
use Rattle.pcp_base.specs.declared.file.FileId.TheVariants.{Meta, Volume}
use Rattle.pcp_base.specs.declared.result.Item.{Item}
use Rattle.pcp_model.specs.declared.records.MetaRecord.{MetaRecord}
use Rattle.pcp_model.specs.declared.records.Entry.{Entry}
use Rattle.pcp_model.specs.Archive.{ArchiveContents, ArchiveReading, IsArchive, IsStoppedCreation, AreVolumes, Reads, items_of, scan, records_in}
use Rattle.pcp_model.specs.Disk.{Files}
use Rattle.pcp_model.specs.Frame.{frames}
use Rattle.pcp_model.specs.LabelFields.{LabelFields}
use Rattle.pcp_model.specs.Payload.{stamp_of}
use Rattle.pcp_model.specs.Records.{IsRecord}
use Rattle.pcp_model.proofs.Sound.{label_boundary, labelled_long}
use Rattle.pcp_model.specs.Sound.{IsBoundary, PointsWell, IsSoundEntry, IsSound}
use Rattle.pcp_model.proofs.Lists.{each-split}
use Rattle.pcp_model.proofs.OneReading.{one_reading}
use Rattle.archive_reader.specs.declared.beginning.Begin.{Begin}
use Rattle.archive_reader.specs.declared.beginning.Begin.TheVariants.{At, Outside}
use Rattle.archive_reader.specs.declared.fault.ReaderFault.TheVariants.{NotArchive}
use Rattle.archive_reader.specs.Asked.{last_entry, is_entry_before, is_entry_by, own_length, length_of, first_volume, begin_in, begin_of, back_end, unless_after, IsBackAt, IsLastOr, BackStops, IsAtFrom, IsAtFault, IsRangeFrom, IsRangeFault}
use Rattle.archive_reader.specs.Laws.{IsEntry, LastIsFound, RangeIsFound}
use Rattle.archive_loading.specs.Loaded.{Loaded, IsOver, IsKeptOf, IsHeaded, IsLabelledArchive, Rises, numbers}
use Rattle.archive_reader.specs.Searches.{or_else, last_of, at, between, segment, is_after, items_before, items_from, first_number, chosen_place}
use Rattle.archive_reader.specs.Sounds.{StandsAs, BeginsInCutLabel, FindsLast, FindsRange}
use Rattle.archive_reader.specs.Walks.{volumes_from, Leads, IsBad, AllFrom}
use Rattle.archive_reader.proofs.Archives.{Matches, IsSameAs, same_as, from_first}
use Rattle.archive_reader.proofs.Backs.{from_has}
use Rattle.archive_reader.proofs.Founds.{IsOf, is_of, up, BackIs, from_of, back_of}
use Rattle.archive_reader.proofs.Searching.{chosen_is_enough}
use Rattle.archive_reader.proofs.Segmented.{segment_is, segment_whole, never_bad, same_end, no_other_end}
use Rattle.archive_reader.proofs.Stepping.{from_skips, from_stops}

-- ---- readable archives stand

never : (files : Files) (items : List Item) (vs : List (ℕ × ℕ)) → AllFrom files vs 132 items → (front : List Item) (ws : List (ℕ × ℕ)) (to : ℕ) (file : FileId) (offset : ℕ) → Leads files vs 132 front ws to → IsBad files ws to file offset → ⊥
never files items vs a front ws to file offset leads bad = never_bad files front items vs 132 ws to a.last a.to file offset leads bad a.leads a.ends

stopped : (files : Files) (vs : List (ℕ × ℕ)) → vs ≡ [] → AllFrom files vs 132 []
stopped files vs none = subst (λ ws. AllFrom files ws 132 []) (sym none) (record { last = []; to = 132; leads = (refl, refl); ends = tt })

short_meta : (files : Files) → IsStoppedCreation files → length (files Meta) < 132
short_meta files stop = ⊎_elim (λ (none : files Meta ≡ []). omega (arith, ap length none)) (λ begins. omega (arith, begins.1.short)) stop.meta

reads_as : (files : Files) (reading : ArchiveReading) (label : Option LabelFields) (records : List MetaRecord) (entries : List Entry) (vs : List (ℕ × ℕ)) → Reads files reading → IsKeptOf files label records entries vs
    → AllFrom files vs 132 (scan reading) × (records ≡ records_in reading)
reads_as files ArchiveReading.nothing None records entries vs reads kept = (stopped files vs kept.3, kept.1)
reads_as files (ArchiveReading.archive c) None records entries vs reads kept = absurd (let both : ArchiveReading.archive c ≡ ArchiveReading.nothing = one_reading files (ArchiveReading.archive c) ArchiveReading.nothing reads kept.0 in cc)
reads_as files (ArchiveReading.archive c) (Some l) records entries vs reads kept =
    let same : IsSameAs files c l records entries vs = same_as files c l records entries vs reads kept in
    (from_first files l vs c.volumes same.volumes same.are, sym same.records_are)
reads_as files ArchiveReading.nothing (Some l) records entries vs reads kept =
    absurd (omega (arith, short_meta files reads, labelled_long IsRecord (files Meta) l (negsuc 0) records kept.meta.torn kept.meta.holds))

pub readable_stands : (files : Files) (reading : ArchiveReading) (r : Loaded) → Reads files reading → IsOver files r → StandsAs files reading r
readable_stands files reading r reads over =
    let stood = reads_as files reading r.label r.records r.entries r.volumes reads over in
    record { all = stood.0; records_are = stood.1; good = λ front ws to file offset leads bad. never files (scan reading) r.volumes stood.0 front ws to file offset leads bad }

-- ---- where a search begins

-- the entry that was found
abbrev Found : (Entry → Bool) → List Entry → Option Entry → Type 0
Found test es None = Unit {0}
Found test es (Some e) = (front : List Entry) × (behind : List Entry) × (es ≡ front ++ e ∷ behind) × (test e ≡ true)

found_in : (test : Entry → Bool) (es : List Entry) → Found test es (last_entry test es)
found_in test [] = tt
found_in test (e ∷ es) = step (last_entry test es) (test e) refl (found_in test es)
  where
    step : (o : Option Entry) (b : Bool) → test e ≡ b → Found test es o → Found test (e ∷ es) (or_else o (if b then Some e else None))
    step (Some f) b is (front, behind, whole, such) = (e ∷ front, behind, ap (λ l. e ∷ l) whole, such)
    step None true is f = ([], es, refl, is)
    step None false is f = tt

entry_of : (Such : Moment → Type 0) (test : Entry → Bool) → ((e : Entry) → test e ≡ true → Such e.stamp) → (c : ArchiveContents) (es : List Entry) → c.entries ≡ es → IfSome (last_entry test es) (IsEntry c Such)
entry_of Such test says c es same = lift (last_entry test es) (found_in test es)
  where
    lift : (o : Option Entry) → Found test es o → IfSome o (IsEntry c Such)
    lift None f = tt
    lift (Some e) (front, behind, whole, such) = record { front = front; behind = behind; is = same ∙ whole; such = says e such }

by_says : (t : Moment) (e : Entry) → is_entry_by t e ≡ true → microseconds e.stamp ≤ microseconds t
by_says t e is = go (nat_lt (microseconds t) (microseconds e.stamp)) refl is
  where
    go : (b : Bool) → nat_lt (microseconds t) (microseconds e.stamp) ≡ b → (if b then false else true) ≡ true → microseconds e.stamp ≤ microseconds t
    go true less is = absurd (let e : false ≡ true = is in cc)
    go false less is = ltb-false (microseconds t) (microseconds e.stamp) less

before_says : (t : Moment) (e : Entry) → is_entry_before t e ≡ true → microseconds e.stamp < microseconds t
before_says t e is = ltb-true (microseconds e.stamp) (microseconds t) is

abbrev BeginIs : Files → List (ℕ × ℕ) → Begin → ℕ × ℕ → Type 0
BeginIs files vs (At n offset) place = (n ≡ place.0) × (offset ≡ place.1) × ((vs ≡ []) ⊎ IsOf n vs)
BeginIs files vs (Outside n offset) place = (0 < length (files (Volume n))) × (length (files (Volume n)) < 132)

first_is : (files : Files) (vs : List (ℕ × ℕ)) (cs : List (ℕ × List Item)) → Matches files vs cs → BeginIs files vs (At (first_volume vs) 132) (first_number cs, 132)
first_is files [] [] match = (refl, refl, inl refl)
first_is files [] (c ∷ cs) match = absurd match
first_is files (v ∷ vs) [] match = absurd match
first_is files (v ∷ vs) (c ∷ cs) match = (match.0, refl, inr (inl refl))

own_none : (files : Files) (l : LabelFields) (n : ℕ) (ws : List (ℕ × ℕ)) → AllByRecursion (IsHeaded files l) ws → length (files (Volume n)) ≡ 0 → own_length n ws ≡ None
own_none files l n [] headed empty = refl
own_none files l n (w ∷ ws) headed empty = go (nat_eq w.0 n) refl
  where
    go : (b : Bool) → nat_eq w.0 n ≡ b → (if b then Some w.1 else None) ≡ None
    go true same = absurd (omega (arith, headed.0.0, headed.0.1, ap (λ k. length (files (Volume k))) (eqb-true w.0 n same), empty))
    go false same = refl

own_here : (files : Files) (l : LabelFields) (n : ℕ) (vs : List (ℕ × ℕ)) → AllByRecursion (IsHeaded files l) vs → Rises vs → IsOf n vs → own_length n (volumes_from n vs) ≡ Some (length (files (Volume n)))
own_here files l n [] headed rises there = absurd there
own_here files l n (v ∷ vs) headed rises (inl same) =
    ap (own_length n) (from_stops n v vs (omega (arith, same))) ∙ ap (λ (b : Bool). if b then Some v.1 else None) (eq-eqb v.0 n same)
    ∙ ap Some (headed.0.0 ∙ ap (λ k. length (files (Volume k))) same)
own_here files l n (v ∷ vs) headed rises (inr there) = ap (own_length n) (from_skips n v vs (up v n vs rises.0 there)) ∙ own_here files l n vs headed.1 rises.1 there

boundary_in : (bytes : List ℕ) (offset count : ℕ) → 132 ≤ length bytes → IsBoundary bytes offset count → (132 ≤ offset) × (offset ≤ length bytes)
boundary_in bytes offset count long b =
    let size : length bytes - 132 ≡ length (frames b.payloads) + length b.behind = sym (length-drop 132 bytes) ∙ ap length b.stand ∙ length-append (frames b.payloads) b.behind in
    (omega (arith, b.is), omega (arith, b.is, size, long))

module _ (files : Files) (l : LabelFields) (c : ArchiveContents) (vs : List (ℕ × ℕ)) (match : Matches files vs c.volumes) (headed : AllByRecursion (IsHeaded files l) vs) (rises : Rises vs)
    (others : (n : ℕ) → (Contains (numbers vs) n → ⊥) → files (Volume n) ≡ []) where
  at_entry : (e : Entry) → (b : Bool) → nat_eq (length (files (Volume e.volume))) 0 ≡ b → (0 < length (files (Volume e.volume)) → PointsWell files c e)
      → BeginIs files vs (begin_in vs e (length_of e.volume vs)) (if b then (first_number c.volumes, 132) else (e.volume, e.offset))
  at_entry e true empty points =
      subst (λ o. BeginIs files vs (begin_in vs e o) (first_number c.volumes, 132))
      (sym (own_none files l e.volume (volumes_from e.volume vs) (from_has (IsHeaded files l) e.volume vs headed) (eqb-true (length (files (Volume e.volume))) 0 empty)))
      (first_is files vs c.volumes match)
  at_entry e false empty points =
      subst (λ o. BeginIs files vs (begin_in vs e o) (e.volume, e.offset)) (sym (own_here files l e.volume vs headed rises there)) (test (nat_lt e.offset 132) refl (nat_lt (length (files (Volume e.volume))) e.offset) refl)
    where
      some : 0 < length (files (Volume e.volume))
      some = ⊎_elim (λ h. h) (λ le. absurd (let both : true ≡ false = sym (eq-eqb (length (files (Volume e.volume))) 0 (omega (arith, le))) ∙ empty in cc)) (cases_lt 0 (length (files (Volume e.volume))))

      there : IsOf e.volume vs
      there = ⊎_elim (λ h. h) (λ none. absurd (omega (arith, some, ap length (others e.volume none)))) (is_of e.volume vs)

      boundary : IsBoundary (files (Volume e.volume)) e.offset ((points some).items)
      boundary = (points some).volume

      test : (b : Bool) → nat_lt e.offset 132 ≡ b → (d : Bool) → nat_lt (length (files (Volume e.volume))) e.offset ≡ d
          → BeginIs files vs (if b then Outside e.volume e.offset else (if d then Outside e.volume e.offset else At e.volume e.offset)) (e.volume, e.offset)
      test true low d past = absurd (omega (arith, boundary.is, ltb-true e.offset 132 low))
      test false low true past =
          ⊎_elim (λ (short : length (files (Volume e.volume)) < 132). (some, short))
          (λ (long : 132 ≤ length (files (Volume e.volume))). absurd (omega (arith, (boundary_in (files (Volume e.volume)) e.offset (points some).items long boundary).1, ltb-true (length (files (Volume e.volume))) e.offset past)))
          (cases_lt (length (files (Volume e.volume))) 132)
      test false low false past = (refl, refl, inr there)

  pub begins : (Such : Moment → Type 0) (o : Option Entry) → IfSome o (IsEntry c Such) → AllByRecursion (IsSoundEntry files c) c.entries → BeginIs files vs (begin_of vs o) (chosen_place files c.volumes o)
  begins Such None entry sound = first_is files vs c.volumes match
  begins Such (Some e) entry sound =
      let all : AllByRecursion (IsSoundEntry files c) (entry.front ++ e ∷ entry.behind) = subst (AllByRecursion (IsSoundEntry files c)) entry.is sound in
      let this : IsSoundEntry files c e = (each-split (IsSoundEntry files c) entry.front (e ∷ entry.behind) all).1.0 in
      at_entry e (nat_eq (length (files (Volume e.volume))) 0) refl this.points

-- ---- what is found from there

-- the last item not after a moment isn't after it
at_by : (t : Moment) (items : List Item) (y : Item) → at t items ≡ Some y → microseconds (stamp_of y) ≤ microseconds t
at_by t [] y is = absurd (let e : None ≡ Some y = is in cc)
at_by t (x ∷ items) y is = go (at t items) refl (is_after t x) refl (at_by t items) is
  where
    go : (o : Option Item) → at t items ≡ o → (b : Bool) → is_after t x ≡ b → ((z : Item) → at t items ≡ Some z → microseconds (stamp_of z) ≤ microseconds t) → or_else o (if b then None else Some x) ≡ Some y
        → microseconds (stamp_of y) ≤ microseconds t
    go (Some z) same b after more is = let e : z ≡ y = cc in subst (λ w. microseconds (stamp_of w) ≤ microseconds t) e (more z same)
    go None same true after more is = absurd (let e : None ≡ Some y = is in cc)
    go None same false after more is = let e : x ≡ y = cc in subst (λ w. microseconds (stamp_of w) ≤ microseconds t) e (ltb-false (microseconds t) (microseconds (stamp_of x)) after)

not_after : (t : Moment) (y : Item) → microseconds (stamp_of y) ≤ microseconds t → unless_after t y ≡ Some y
not_after t y by = ap (λ (b : Bool). if b then None else Some y) (le-ltb (microseconds t) (microseconds (stamp_of y)) by)

module _ (files : Files) (l : LabelFields) (vs : List (ℕ × ℕ)) (cs : List (ℕ × List Item)) (match : Matches files vs cs) (are : AreVolumes files l cs) (rises : Rises vs) where
  no_volumes : (n offset count : ℕ) → vs ≡ [] → AllFrom files (volumes_from n vs) offset (items_from n count cs) × BackIs files (back_end vs n offset) (items_before n count cs)
  no_volumes n offset count none = go cs (subst (λ ws. Matches files ws cs) none match)
    where
      test : (b : Bool) → BackIs files (if b then None else None) []
      test true = refl
      test false = refl

      nothing : BackIs files (back_end [] n offset) []
      nothing = test (nat_eq offset 132)

      go : (ds : List (ℕ × List Item)) → Matches files [] ds → AllFrom files (volumes_from n vs) offset (items_from n count ds) × BackIs files (back_end vs n offset) (items_before n count ds)
      go [] match = (
        subst (λ ws. AllFrom files (volumes_from n ws) offset []) (sym none) (record { last = []; to = offset; leads = (refl, refl); ends = tt }),
        subst (λ ws. BackIs files (back_end ws n offset) []) (sym none) nothing,
      )
      go (d ∷ ds) match = absurd match

  -- behind the place stand these items, and before it those
  around : (n offset count : ℕ) → (vs ≡ []) ⊎ IsOf n vs → IsBoundary (files (Volume n)) offset count → AllFrom files (volumes_from n vs) offset (items_from n count cs) × BackIs files (back_end vs n offset) (items_before n count cs)
  around n offset count (inl none) b = no_volumes n offset count none
  around n offset count (inr there) b = (from_of files l n offset count vs cs match are rises there b, back_of files l n offset count vs cs match are rises there b)

  looks_back : (t : Moment) (back : Option (ℕ × ℕ)) (before : List Item) (x : Option Item) → BackIs files back before → IsBackAt files back t x → ((y : Item) → last_of before ≡ Some y → microseconds (stamp_of y) ≤ microseconds t) → x ≡ last_of before
  looks_back t None before x none found by = found ∙ sym (ap last_of none)
  looks_back t (Some w) before x last (y, ends, found) by =
      let same : y ≡ last.item = same_end (files (Volume w.0)) w.1 y last.item ends last.ends in
      found ∙ ap (unless_after t) same ∙ not_after t last.item (by last.item last.last) ∙ sym last.last

  is_last : (t : Moment) (back : Option (ℕ × ℕ)) (before all : List Item) (o x : Option Item) → BackIs files back before → at t all ≡ or_else o (last_of before) → IsLastOr files back t o x → x ≡ at t all
  is_last t back before all (Some y) x b is found = found ∙ sym is
  is_last t back before all None x b is found = looks_back t back before x b found (λ y last. at_by t all y (is ∙ last)) ∙ sym is

  never_back : (back : Option (ℕ × ℕ)) (before : List Item) (file : FileId) (offset : ℕ) → BackIs files back before → BackStops files back file offset → ⊥
  never_back None before file offset b stops = stops
  never_back (Some w) before file offset b (same, inl (here, none)) = none b.ends.stands.payload b.ends.first b.ends.behind b.ends.stands.stands
  never_back (Some w) before file offset b (same, inr other) = no_other_end (files (Volume w.0)) offset w.1 b.item b.ends other

  pub last_found : (t : Moment) (begin : Begin) (place : ℕ × ℕ) → BeginIs files vs begin place → LastIsFound files cs t place
      → ((x : Option Item) → IsAtFrom files vs t begin x → x ≡ at t (items_of cs)) × ((file : FileId) (p : ℕ) → IsAtFault files vs t begin (NotArchive file p) → BeginsInCutLabel files begin)
  last_found t (Outside n offset) place cut f = ((λ x found. absurd found), (λ file p fault. cut))
  last_found t (At n offset) place (number, start, there) f =
      let boundary : IsBoundary (files (Volume n)) offset f.count = subst (λ k. IsBoundary (files (Volume k)) offset f.count) (sym number) (subst (λ o. IsBoundary (files (Volume place.0)) o f.count) (sym start) f.boundary) in
      let is : at t (items_of cs) ≡ or_else (last_of (segment t (items_from n f.count cs))) (last_of (items_before n f.count cs)) =
      subst (λ k. at t (items_of cs) ≡ or_else (last_of (segment t (items_from k f.count cs))) (last_of (items_before k f.count cs))) (sym number) f.last in
      let sides = around n offset f.count there boundary in (
        (λ x found.
            let items : found.items ≡ segment t (items_from n f.count cs) = segment_is files t found.items (items_from n f.count cs) (volumes_from n vs) offset found.segment sides.0 in
            is_last t (back_end vs n offset) (items_before n f.count cs) (items_of cs) (last_of (segment t (items_from n f.count cs))) x sides.1 is (subst (λ xs. IsLastOr files (back_end vs n offset) t (last_of xs) x) items found.is)),
        (λ file p fault. absurd (⊎_elim (λ stops. segment_whole files t (items_from n f.count cs) (volumes_from n vs) offset file p stops sides.0)
            (λ back. never_back (back_end vs n offset) (items_before n f.count cs) file p sides.1 back.1) fault)),
      )

  pub range_found : (from to : Moment) (begin : Begin) (place : ℕ × ℕ) → BeginIs files vs begin place → RangeIsFound files cs from to place
      → ((xs : List Item) → IsRangeFrom files vs from to begin xs → xs ≡ between from to (items_of cs)) × ((file : FileId) (p : ℕ) → IsRangeFault files vs to begin (NotArchive file p) → BeginsInCutLabel files begin)
  range_found from to (Outside n offset) place cut f = ((λ x found. absurd found), (λ file p fault. cut))
  range_found from to (At n offset) place (number, start, there) f =
      let boundary : IsBoundary (files (Volume n)) offset f.count = subst (λ k. IsBoundary (files (Volume k)) offset f.count) (sym number) (subst (λ o. IsBoundary (files (Volume place.0)) o f.count) (sym start) f.boundary) in
      let is : between from to (items_of cs) ≡ between from to (segment to (items_from n f.count cs)) =
      subst (λ k. between from to (items_of cs) ≡ between from to (segment to (items_from k f.count cs))) (sym number) f.range in
      let sides = around n offset f.count there boundary in (
        (λ xs found.
            let items : found.items ≡ segment to (items_from n f.count cs) = segment_is files to found.items (items_from n f.count cs) (volumes_from n vs) offset found.segment sides.0 in
            found.is ∙ ap (between from to) items ∙ sym is),
        (λ file p fault. absurd (segment_whole files to (items_from n f.count cs) (volumes_from n vs) offset file p fault sides.0)),
      )

-- ---- the laws

abbrev LastOf : Files → List Item → Moment → List (ℕ × ℕ) → List Entry → Type 0
LastOf files items t vs entries = ((x : Option Item) → IsAtFrom files vs t (begin_of vs (last_entry (is_entry_by t) entries)) x → x ≡ at t items)
    × ((file : FileId) (p : ℕ) → IsAtFault files vs t (begin_of vs (last_entry (is_entry_by t) entries)) (NotArchive file p) → BeginsInCutLabel files (begin_of vs (last_entry (is_entry_by t) entries)))

abbrev RangeOf : Files → List Item → Moment → Moment → List (ℕ × ℕ) → List Entry → Type 0
RangeOf files items from to vs entries = ((xs : List Item) → IsRangeFrom files vs from to (begin_of vs (last_entry (is_entry_before from) entries)) xs → xs ≡ between from to items)
    × ((file : FileId) (p : ℕ) → IsRangeFault files vs to (begin_of vs (last_entry (is_entry_before from) entries)) (NotArchive file p) → BeginsInCutLabel files (begin_of vs (last_entry (is_entry_before from) entries)))

any_label : LabelFields
any_label = record { pid = 0; start = record { sec = 0; usec = 0 }; host = []; zone = [] }

nothing_last : (files : Files) (t : Moment) → LastOf files [] t [] []
nothing_last files t = last_found files any_label [] [] tt tt tt t (At 0 132) (0, 132) (refl, refl, inl refl) (record { count = 0; boundary = label_boundary (files (Volume 0)); last = refl })

nothing_range : (files : Files) (from to : Moment) → RangeOf files [] from to [] []
nothing_range files from to = range_found files any_label [] [] tt tt tt from to (At 0 132) (0, 132) (refl, refl, inl refl) (record { count = 0; boundary = label_boundary (files (Volume 0)); range = refl })

archive_last : (files : Files) (c : ArchiveContents) (l : LabelFields) (records : List MetaRecord) (entries : List Entry) (vs : List (ℕ × ℕ)) (t : Moment) → IsArchive files c → IsSound files (ArchiveReading.archive c) → IsLabelledArchive files l records entries vs
    → LastOf files (items_of c.volumes) t vs entries
archive_last files c l records entries vs t reads sound kept =
    let same : IsSameAs files c l records entries vs = same_as files c l records entries vs reads kept in
    let found : Option Entry = last_entry (is_entry_by t) entries in
    let entry : IfSome found (IsEntry c (λ s. microseconds s ≤ microseconds t)) = entry_of (λ s. microseconds s ≤ microseconds t) (is_entry_by t) (by_says t) c entries same.entries_are in
    last_found files l vs c.volumes same.volumes same.are kept.labelled.1 t (begin_of vs found) (chosen_place files c.volumes found)
    (begins files l c vs same.volumes kept.labelled.0 kept.labelled.1 kept.others (λ s. microseconds s ≤ microseconds t) found entry sound.1) ((chosen_is_enough files c found sound).last t entry)

archive_range : (files : Files) (c : ArchiveContents) (l : LabelFields) (records : List MetaRecord) (entries : List Entry) (vs : List (ℕ × ℕ)) (from to : Moment) → IsArchive files c → IsSound files (ArchiveReading.archive c)
    → IsLabelledArchive files l records entries vs → RangeOf files (items_of c.volumes) from to vs entries
archive_range files c l records entries vs from to reads sound kept =
    let same : IsSameAs files c l records entries vs = same_as files c l records entries vs reads kept in
    let found : Option Entry = last_entry (is_entry_before from) entries in
    let entry : IfSome found (IsEntry c (λ s. microseconds s < microseconds from)) = entry_of (λ s. microseconds s < microseconds from) (is_entry_before from) (before_says from) c entries same.entries_are in
    range_found files l vs c.volumes same.volumes same.are kept.labelled.1 from to (begin_of vs found) (chosen_place files c.volumes found)
    (begins files l c vs same.volumes kept.labelled.0 kept.labelled.1 kept.others (λ s. microseconds s < microseconds from) found entry sound.1) ((chosen_is_enough files c found sound).range from to entry)

sides_last : (files : Files) (reading : ArchiveReading) (label : Option LabelFields) (records : List MetaRecord) (entries : List Entry) (vs : List (ℕ × ℕ)) (t : Moment) → Reads files reading → IsSound files reading
    → IsKeptOf files label records entries vs → LastOf files (scan reading) t vs entries
sides_last files ArchiveReading.nothing None records entries vs t reads sound kept = subst (λ es. LastOf files [] t vs es) (sym kept.2) (subst (λ ws. LastOf files [] t ws []) (sym kept.3) (nothing_last files t))
sides_last files (ArchiveReading.archive c) (Some l) records entries vs t reads sound kept = archive_last files c l records entries vs t reads sound kept
sides_last files (ArchiveReading.archive c) None records entries vs t reads sound kept = absurd (let both : ArchiveReading.archive c ≡ ArchiveReading.nothing = one_reading files (ArchiveReading.archive c) ArchiveReading.nothing reads kept.0 in cc)
sides_last files ArchiveReading.nothing (Some l) records entries vs t reads sound kept = absurd (omega (arith, short_meta files reads, labelled_long IsRecord (files Meta) l (negsuc 0) records kept.meta.torn kept.meta.holds))

sides_range : (files : Files) (reading : ArchiveReading) (label : Option LabelFields) (records : List MetaRecord) (entries : List Entry) (vs : List (ℕ × ℕ)) (from to : Moment) → Reads files reading → IsSound files reading
    → IsKeptOf files label records entries vs → RangeOf files (scan reading) from to vs entries
sides_range files ArchiveReading.nothing None records entries vs from to reads sound kept = subst (λ es. RangeOf files [] from to vs es) (sym kept.2) (subst (λ ws. RangeOf files [] from to ws []) (sym kept.3) (nothing_range files from to))
sides_range files (ArchiveReading.archive c) (Some l) records entries vs from to reads sound kept = archive_range files c l records entries vs from to reads sound kept
sides_range files (ArchiveReading.archive c) None records entries vs from to reads sound kept = absurd (let both : ArchiveReading.archive c ≡ ArchiveReading.nothing = one_reading files (ArchiveReading.archive c) ArchiveReading.nothing reads kept.0 in cc)
sides_range files ArchiveReading.nothing (Some l) records entries vs from to reads sound kept = absurd (omega (arith, short_meta files reads, labelled_long IsRecord (files Meta) l (negsuc 0) records kept.meta.torn kept.meta.holds))

pub sound_finds_last : (files : Files) (reading : ArchiveReading) (r : Loaded) (t : Moment) → Reads files reading → IsSound files reading → IsOver files r → FindsLast files reading r t
sound_finds_last files reading r t reads sound over =
    let sides = sides_last files reading r.label r.records r.entries r.volumes t reads sound over in record { found = λ x f. sides.0 x f; refused = λ file offset f. sides.1 file offset f }

pub sound_finds_range : (files : Files) (reading : ArchiveReading) (r : Loaded) (from to : Moment) → Reads files reading → IsSound files reading → IsOver files r → FindsRange files reading r from to
sound_finds_range files reading r from to reads sound over =
    let sides = sides_range files reading r.label r.records r.entries r.volumes from to reads sound over in record { found = λ x f. sides.0 x f; refused = λ file offset f. sides.1 file offset f }
