-- What is decided of a readable archive, from what a pass over it left.
use Rattle.std.proofs.Common.{◌≡◌, inl, inr, ⊎_elim, ℕ, negsuc, ◌<◌, ◌≤◌, Bool, true, false, ◌||◌, List, [], ◌∷◌, length, drop, map, refl, sym, ap, ◌∙◌, subst, arith, Option, Some, None, ltb-true}
use Rattle.std.specs.Prelude.{nat_lt, MatchOption}
use Rattle.std.specs.List.{AllByRecursion}
use Rattle.std.proofs.lemmas.Bool.{cases_lt, le-ltb}
use Rattle.pcp_base.specs.Time.{Moment, microseconds}
use Rattle.pcp_base.specs.declared.file.FileId.{FileId}
use Rattle.pcp_base.specs.declared.file.FileId.TheVariants.{Meta, Volume}
use Rattle.pcp_base.specs.declared.result.Item.{Item}
use Rattle.pcp_model.specs.declared.records.Entry.{Entry}
use Rattle.pcp_model.specs.declared.records.MetaRecord.{MetaRecord}
use Rattle.pcp_model.specs.Archive.{ArchiveContents, ArchiveReading, IsStoppedCreation, Reads, Readable, items_of}
use Rattle.pcp_model.specs.Disk.{Files}
use Rattle.pcp_model.specs.LabelFields.{LabelFields}
use Rattle.pcp_model.specs.Payload.{stamp_of}
use Rattle.pcp_model.specs.Records.{IsRecord}
use Rattle.pcp_model.specs.Sound.{NeverFalls, IsSoundEntry}
use Rattle.pcp_model.proofs.Sound.{labelled_long}
use Rattle.archive_loading.specs.Loaded.{Loaded, IsOver, IsKeptOf, IsMeasured, IsLabelledArchive}
use Rattle.archive_loading.proofs.Volumes.{measured}
use Rattle.archive_reader.specs.declared.fault.ReaderFault.{ReaderFault}
use Rattle.archive_reader.specs.declared.fault.ReaderFault.TheVariants.{Compressed, NotArchive, DiskFault, NoMemory}
use Rattle.archive_reader.specs.LoadFaults.{IsLoadFault}
use Rattle.archive_reader.specs.Values.{IsWholeFault}
use Rattle.archive_reader.proofs.Founds.{IsOf}
use Rattle.archive_check.specs.declared.pointing.Look.{Look}
use Rattle.archive_check.specs.declared.pointing.Look.TheVariants.{Above, Misses, Points}
use Rattle.archive_check.specs.declared.fault.CheckFault.{CheckFault}
use Rattle.archive_check.specs.declared.fault.CheckFault.TheVariants.{Items, Boundary, Late, Reader}
use Rattle.archive_check.specs.declared.tally.Tally.{Tally}
use Rattle.archive_check.specs.declared.verdict.Verdict.{Verdict}
use Rattle.archive_check.specs.declared.verdict.Verdict.TheVariants.{Sound, Unsound}
use Rattle.archive_check.specs.Breaches.{AtBoundary, IsFilled, PointsToBoundaries, MissesBoundary, IsTooEarly, IsFirstBad, first_after}
use Rattle.archive_check.specs.Checks.{HoldsSound, IsCheckFault}
use Rattle.archive_check.specs.Looked.{top_of, look_of, misses, is_late, is_bad, IsFirst, EntryKnown, domains_of, IsRead, IsSeen}
use Rattle.archive_check.specs.Marks.{Known, IsPut}
use Rattle.archive_check.specs.Sought.{LiesBetween}
use Rattle.archive_check.specs.Stamped.{Holds}
use Rattle.archive_check.specs.Tallies.{IsTally, FallSays}
use Rattle.archive_check.specs.Verdicts.{IsStampAfter, IsMissedAt, IsMissing, IsEarlyAt, IsEarly, IsEntryFault, IsJudgedAs, IsVerdict, IsTold, IsToldBy}
use Rattle.archive_check.specs.Walked.{IsWalked, AreWalked, Walked, AllWalked, stamped, HoldItems}
use Rattle.archive_check.proofs.Deciding.{Missed, missed, IsLateBy, points_by, too_early_by_domain, too_early_by_item, all_domains, all_point, all_sound, first_known, first_missed, first_late}
use Rattle.archive_check.proofs.Seeking.{all_stamped}
use Rattle.archive_check.proofs.Surveyed.{filled_is, is_read, climbs, is_seen, tally_is, never_falls, falls_in, count_is}

-- ---- one entry's breach

volume_holds : (files : Files) (n : ℕ) (vs : List (ℕ × ℕ)) (cs : List (ℕ × List Item)) → HoldItems files vs cs → IsOf n vs → (items : List Item) × Holds (Volume n) (drop 132 (files (Volume n))) (stamped items)
volume_holds files n [] cs hold there = absurd there
volume_holds files n (v ∷ vs) [] hold there = absurd hold
volume_holds files n (v ∷ vs) (c ∷ cs) hold (inl same) = (c.1, subst (λ k. Holds (Volume k) (drop 132 (files (Volume k))) (stamped c.1)) same hold.1)
volume_holds files n (v ∷ vs) (c ∷ cs) hold (inr there) = volume_holds files n vs cs hold.2 there

module _ (files : Files) (c : ArchiveContents) (vs : List (ℕ × ℕ)) (entries : List Entry) (top : Option ℕ) (known : Known) (e : Entry) (r : IsRead files c vs entries) (k : EntryKnown files c top known e) where
  pub missed_above : (position : ℕ) → Above ≡ look_of known top e → IsMissedAt files position e (Boundary position (Volume e.volume) 0 0)
  missed_above position same = let m : Missed files c top known e k (look_of known top e) = missed files c top known e k in (refl, inl (m.above (sym same), refl, refl, refl))

  pub missed_at : (position : ℕ) (file : FileId) (offset below above : ℕ) → Misses file offset ≡ look_of known top e → LiesBetween file (files file) offset (below, above) → IsMissedAt files position e (Boundary position file below above)
  missed_at position file offset below above same between =
      let m : Missed files c top known e k (look_of known top e) = missed files c top known e k in
      let here = m.misses_is file offset (sym same) in
      (refl, ⊎_elim (λ (p : (file ≡ Meta) × (offset ≡ e.meta) × (AtBoundary (files Meta) e.meta → ⊥)). of_meta here.0 p) (λ (p : AtBoundary (files Meta) e.meta × (file ≡ Volume e.volume) × (offset ≡ e.offset) × (AtBoundary (files (Volume e.volume)) e.offset → ⊥)). of_volume here.0 p) here.1)
    where
      of_meta : IsFilled files e.volume → (file ≡ Meta) × (offset ≡ e.meta) × (AtBoundary (files Meta) e.meta → ⊥) → MissesBoundary files e file below above
      of_meta some (is, at, none) =
          let there : LiesBetween Meta (files Meta) e.meta (below, above) = subst (λ o. LiesBetween Meta (files Meta) o (below, above)) at (subst (λ f. LiesBetween f (files f) offset (below, above)) is between) in
          inr (inl (some, is, there (domains_of c.records) r.meta none))

      of_volume : IsFilled files e.volume → AtBoundary (files Meta) e.meta × (file ≡ Volume e.volume) × (offset ≡ e.offset) × (AtBoundary (files (Volume e.volume)) e.offset → ⊥) → MissesBoundary files e file below above
      of_volume some (at_meta, is, at, none) =
          let there : LiesBetween (Volume e.volume) (files (Volume e.volume)) e.offset (below, above) =
          subst (λ o. LiesBetween (Volume e.volume) (files (Volume e.volume)) o (below, above)) at (subst (λ f. LiesBetween f (files f) offset (below, above)) is between) in
          let held = volume_holds files e.volume vs c.volumes r.items (filled_is files c vs entries r e.volume some) in
          inr (inr (some, at_meta, is, there (stamped held.0) held.1 none))

  pub early_at : (position domain item : ℕ) (stamp : Moment) → Points domain item ≡ look_of known top e → is_late (Points domain item) e.stamp ≡ true → IsStampAfter files vs domain e.stamp (Some stamp) → IsEarlyAt files c position e (Late position stamp)
  early_at position domain item stamp same late found =
      let l : IsLateBy files c top known e k domain item = points_by files c top known e k domain item (sym same) in (
        refl,
        ⊎_elim (λ (lt : microseconds e.stamp < domain). too_early_by_domain files c top known e k domain item l stamp lt (found.of_meta lt (domains_of c.records) r.meta ∙ ap (first_after e.stamp) (all_domains c.records)))
            (λ (le : domain ≤ microseconds e.stamp). too_early_by_item files c top known e k domain item l stamp le (ltb-true (microseconds e.stamp) item (ap (λ (b : Bool). b || nat_lt (microseconds e.stamp) item) (sym (le-ltb (microseconds e.stamp) domain le)) ∙ late)) (found.of_volumes le c.volumes r.items)) (cases_lt (microseconds e.stamp) domain),
      )

-- ---- all entries

module _ (files : Files) (c : ArchiveContents) (vs : List (ℕ × ℕ)) (entries : List Entry) (known : Known) (s : IsSeen files c vs entries known) where
  abbrev top : Option ℕ
  top = top_of vs

  pub found_known : (test : Entry → Bool) (found : ℕ × Entry) → IsFirst test entries found → EntryKnown files c top known found.1
  found_known test found first = first_known files c top known test entries found first s.known_all

  pub fault_missing : (found : ℕ × Entry) → IsFirst (λ e. is_bad false (look_of known top e) e.stamp) entries found → (fault : CheckFault) → IsMissedAt files found.0 found.1 fault → IsEntryFault files c (Some fault)
  fault_missing found first (Items a b) m = absurd m
  fault_missing found first (Boundary at file below above) m = λ rise. (
    rise,
    subst (λ es. IsFirstBad es (PointsToBoundaries files) (λ e. MissesBoundary files e file below above) at) (sym s.read.entries_are)
        (first_missed files c top known found (λ e. MissesBoundary files e file below above) entries first s.known_all m.1 at m.0),
  )
  fault_missing found first (Late at stamp) m = absurd m
  fault_missing found first (Reader f) m = absurd m

  points_all : AllByRecursion (λ e. is_bad false (look_of known top e) e.stamp ≡ false) entries → AllByRecursion (PointsToBoundaries files) entries
  points_all none = all_point files c top known entries s.known_all none

  pub fault_early : AllByRecursion (λ e. is_bad false (look_of known top e) e.stamp ≡ false) entries → (found : ℕ × Entry) → IsFirst (λ e. is_bad true (look_of known top e) e.stamp) entries found → (fault : CheckFault) → IsEarlyAt files c found.0 found.1 fault
      → IsEntryFault files c (Some fault)
  fault_early none found first (Items a b) m = absurd m
  fault_early none found first (Boundary at file below above) m = absurd m
  fault_early none found first (Late at stamp) m = λ rise. (
    rise,
    subst (AllByRecursion (PointsToBoundaries files)) (sym s.read.entries_are) (points_all none),
    subst (λ es. IsFirstBad es (IsSoundEntry files c) (λ e. IsTooEarly files c e stamp) at) (sym s.read.entries_are)
        (first_late files c top known (climbs files vs c.volumes s.read.items s.read.rises) found (λ e. IsTooEarly files c e stamp) entries first s.known_all (points_all none) m.1 at m.0),
  )
  fault_early none found first (Reader f) m = absurd m

  pub no_fault : AllByRecursion (λ e. is_bad false (look_of known top e) e.stamp ≡ false) entries → AllByRecursion (λ e. is_bad true (look_of known top e) e.stamp ≡ false) entries → IsEntryFault files c None
  no_fault none early = subst (AllByRecursion (IsSoundEntry files c)) (sym s.read.entries_are) (all_sound files c top known (climbs files vs c.volumes s.read.items s.read.rises) entries s.known_all (points_all none) early)

  -- as the calls tell it
  some_of : {X : Type 0} (o : Option X) (x : X) (A : Type 0) (P : X → Type 0) → o ≡ Some x → MatchOption o A P → P x
  some_of o x A P is m = subst (λ p. MatchOption p A P) is m

  none_of : {X : Type 0} (o : Option X) (A : Type 0) (P : X → Type 0) → o ≡ None → MatchOption o A P → A
  none_of o A P is m = subst (λ p. MatchOption p A P) is m

  abbrev Fine : Bool → Option ℕ → Type 0
  Fine late given = AllByRecursion (λ e. is_bad late (look_of known given e) e.stamp ≡ false) entries

  abbrev First : Bool → Option ℕ → ℕ × Entry → Type 0
  First late given found = IsFirst (λ e. is_bad late (look_of known given e) e.stamp) entries found

  abbrev pub Told : Bool → Option ℕ → Option (ℕ × Entry) → Type 0
  Told late given found = MatchOption found (AllByRecursion (λ e. is_bad late (look_of known given e) e.stamp ≡ false) entries) (IsFirst (λ e. is_bad late (look_of known given e) e.stamp) entries)

  pub by_missing : (given : Option ℕ) → given ≡ top → (found : Option (ℕ × Entry)) (at : ℕ) (e : Entry) → found ≡ Some (at, e) → Told false given found → (look : Look) → look ≡ look_of known given e → (fault : CheckFault) → IsMissing files at e look fault
      → IsEntryFault files c (Some fault)
  by_missing given same found at e is told look seen fault m =
      let first : First false top (at, e) = subst (λ o. First false o (at, e)) same (some_of found (at, e) (Fine false given) (First false given) is told) in
      let here : look ≡ look_of known top e = seen ∙ ap (λ o. look_of known o e) same in
      fault_missing (at, e) first fault (m c vs entries top known s.read (found_known (λ x. is_bad false (look_of known top x) x.stamp) (at, e) first) here (ap misses here ∙ first.here))

  pub by_early : (given : Option ℕ) → given ≡ top → (none : Option (ℕ × Entry)) → none ≡ None → Told false given none → (found : Option (ℕ × Entry)) (at : ℕ) (e : Entry) → found ≡ Some (at, e) → Told true given found → (look : Look) → look ≡ look_of known given e
      → (fault : CheckFault) → IsEarly files vs at e look fault → IsEntryFault files c (Some fault)
  by_early given same none nothing told_none found at e is told look seen fault m =
      let fine : Fine false top = subst (Fine false) same (none_of none (Fine false given) (First false given) nothing told_none) in
      let first : First true top (at, e) = subst (λ o. First true o (at, e)) same (some_of found (at, e) (Fine true given) (First true given) is told) in
      let here : look ≡ look_of known top e = seen ∙ ap (λ o. look_of known o e) same in
      fault_early fine (at, e) first fault (m c entries top known s.read (found_known (λ x. is_bad true (look_of known top x) x.stamp) (at, e) first) here (ap (λ l. is_late l e.stamp) here ∙ first.here))

  pub by_none : (given : Option ℕ) → given ≡ top → (none : Option (ℕ × Entry)) → none ≡ None → Told false given none → (never : Option (ℕ × Entry)) → never ≡ None → Told true given never → IsEntryFault files c None
  by_none given same none nothing told_none never not told =
      no_fault (subst (Fine false) same (none_of none (Fine false given) (First false given) nothing told_none)) (subst (Fine true) same (none_of never (Fine true given) (First true given) not told))

-- ---- the whole

module _ (files : Files) (c : ArchiveContents) (vs : List (ℕ × ℕ)) (entries : List Entry) (r : IsRead files c vs entries) (first mid last : Known) (none t u : Tally) (start : IsTally [] none)
    (meta : IsWalked Meta (files Meta) none first mid t) (volumes : AreWalked files vs mid last u) where
  meta_walked : Walked Meta (files Meta) [] (domains_of c.records) first mid t
  meta_walked = meta [] (domains_of c.records) r.meta start

  volumes_walked : AllWalked files [] c.volumes mid last u
  volumes_walked = volumes c.volumes r.items

  pub seen_all : AllByRecursion (IsPut first) entries → IsSeen files c vs entries last
  seen_all puts = is_seen files c vs entries r first mid last t u meta_walked volumes_walked puts

  pub counted_all : IsTally (stamped (items_of c.volumes)) u
  counted_all = tally_is files c vs entries r first mid last t u meta_walked volumes_walked

  said : FallSays (map stamp_of (items_of c.volumes)) u.last u.fall
  said = subst (λ l. FallSays l u.last u.fall) (all_stamped (items_of c.volumes)) counted_all.fall_is

  pub items_fall : (a b : Moment) → u.fall ≡ Some (a, b) → IsJudgedAs files c (Unsound (Items a b))
  items_fall a b is = falls_in (items_of c.volumes) (a, b) (subst (FallSays (map stamp_of (items_of c.volumes)) u.last) is said)

  pub items_rise : u.fall ≡ None → NeverFalls (items_of c.volumes)
  items_rise is = never_falls (items_of c.volumes) (subst (FallSays (map stamp_of (items_of c.volumes)) u.last) is said).0

  pub judged_sound : u.fall ≡ None → IsEntryFault files c None → IsJudgedAs files c (Sound u.count)
  judged_sound is fine = (count_is (items_of c.volumes) u counted_all, items_rise is, fine)

  pub judged_unsound : u.fall ≡ None → (fault : CheckFault) → IsEntryFault files c (Some fault) → IsJudgedAs files c (Unsound fault)
  judged_unsound is fault bad = bad (items_rise is)

-- ---- what was loaded

never_stopped : (files : Files) (l : LabelFields) (records : List MetaRecord) (entries : List Entry) (vs : List (ℕ × ℕ)) → IsStoppedCreation files → IsLabelledArchive files l records entries vs → ⊥
never_stopped files l records entries vs stop kept =
    let long : 132 ≤ length (files Meta) = labelled_long IsRecord (files Meta) l (negsuc 0) records kept.meta.torn kept.meta.holds in
    ⊎_elim (λ (none : files Meta ≡ []). omega (arith, long, ap length none)) (λ begins. omega (arith, long, begins.1.short)) stop.meta

-- what the files are read as, and what is kept
pub record IsReadWith (files : Files) (vs : List (ℕ × ℕ)) (entries : List Entry) : Type 0 where
  pub c : ArchiveContents
  pub reads : Reads files (ArchiveReading.archive c)
  pub read : IsRead files c vs entries

pub read_with : (files : Files) (r : Loaded) (l : LabelFields) → r.label ≡ Some l → IsOver files r → Readable files → IsReadWith files r.volumes r.entries
read_with files r l is over (reading, reads) = go reading reads
  where
    kept : IsLabelledArchive files l r.records r.entries r.volumes
    kept = subst (λ o. IsKeptOf files o r.records r.entries r.volumes) is over

    go : (reading : ArchiveReading) → Reads files reading → IsReadWith files r.volumes r.entries
    go ArchiveReading.nothing stop = absurd (never_stopped files l r.records r.entries r.volumes stop kept)
    go (ArchiveReading.archive c) archive = record { c = c; reads = archive; read = is_read files c l r.records r.entries r.volumes archive kept }

pub loaded_measured : (files : Files) (label : Option LabelFields) (records : List MetaRecord) (entries : List Entry) (vs : List (ℕ × ℕ)) → IsKeptOf files label records entries vs → AllByRecursion (IsMeasured files) vs
loaded_measured files None records entries vs kept = subst (AllByRecursion (IsMeasured files)) (sym kept.3) tt
loaded_measured files (Some l) records entries vs kept = measured files l vs kept.labelled

pub stopped_sound : (files : Files) (r : Loaded) → r.label ≡ None → IsOver files r → HoldsSound files 0
stopped_sound files r is over = record { reading = ArchiveReading.nothing; reads = (subst (λ o. IsKeptOf files o r.records r.entries r.volumes) is over).0; sound = tt; count_is = refl }

pub holds_sound : (files : Files) (vs : List (ℕ × ℕ)) (entries : List Entry) (count : ℕ) → IsReadWith files vs entries → IsVerdict files vs entries (Sound count) → HoldsSound files count
holds_sound files vs entries count w v = let j = v w.c w.read in record { reading = ArchiveReading.archive w.c; reads = w.reads; sound = (j.1, j.2); count_is = j.0 }

pub holds_breach : (files : Files) (vs : List (ℕ × ℕ)) (entries : List Entry) (wrapped : Option FileId) (fault : CheckFault) → wrapped ≡ None → IsTold fault → IsReadWith files vs entries → IsVerdict files vs entries (Unsound fault) → IsCheckFault wrapped files fault
holds_breach files vs entries wrapped (Items a b) none told w v = record { unwrapped = none; reading = ArchiveReading.archive w.c; reads = w.reads; breach = v w.c w.read }
holds_breach files vs entries wrapped (Boundary at file below above) none told w v = record { unwrapped = none; reading = ArchiveReading.archive w.c; reads = w.reads; breach = v w.c w.read }
holds_breach files vs entries wrapped (Late at stamp) none told w v = record { unwrapped = none; reading = ArchiveReading.archive w.c; reads = w.reads; breach = v w.c w.read }
holds_breach files vs entries wrapped (Reader fault) none told w v = absurd told

pub load_fault : (files : Files) (wrapped : Option FileId) (f : ReaderFault) → IsLoadFault wrapped files f → IsCheckFault wrapped files (Reader f)
load_fault files wrapped (Compressed file) is = is
load_fault files wrapped (NotArchive file at) is = (is.0, inl is.1)
load_fault files wrapped DiskFault is = tt
load_fault files wrapped NoMemory is = tt

pub whole_fault : (files : Files) (wrapped : Option FileId) (r : Loaded) (f : ReaderFault) → wrapped ≡ None → IsOver files r → IsWholeFault files r.volumes f → IsCheckFault wrapped files (Reader f)
whole_fault files wrapped r (Compressed file) none over is = absurd is
whole_fault files wrapped r (NotArchive file at) none over is = (none, inr (r, over, is))
whole_fault files wrapped r DiskFault none over is = tt
whole_fault files wrapped r NoMemory none over is = tt

module _ (files : Files) (r : Loaded) (l : LabelFields) (vs : List (ℕ × ℕ)) (es : List Entry) (labelled : r.label ≡ Some l) (over : IsOver files r) (readable : Readable files) (volumes : vs ≡ r.volumes) (entries : es ≡ r.entries) where
  with_these : IsReadWith files vs es
  with_these = subst (λ ws. IsReadWith files ws es) (sym volumes) (subst (IsReadWith files r.volumes) (sym entries) (read_with files r l labelled over readable))

  pub loaded_sound : (v : Verdict) (count : ℕ) → v ≡ Sound count → IsVerdict files vs es v → HoldsSound files count
  loaded_sound v count is told = holds_sound files vs es count with_these (subst (IsVerdict files vs es) is told)

  pub loaded_breach : (v : Verdict) (wrapped : Option FileId) (fault : CheckFault) → v ≡ Unsound fault → wrapped ≡ None → IsToldBy v → IsVerdict files vs es v → IsCheckFault wrapped files fault
  loaded_breach v wrapped fault is none by told = holds_breach files vs es wrapped fault none (subst IsToldBy is by) with_these (subst (IsVerdict files vs es) is told)
