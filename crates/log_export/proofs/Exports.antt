-- An export is an archive with the same items and records, sound where what recovery leaves is, and one thing.
use Rattle.std.proofs.Common.{zero, suc, ◌≡◌, inl, inr, ⊎_elim, ℕ, ◌<◌, ◌≤◌, pos, negsuc, Bool, true, false, List, [], ◌∷◌, ◌++◌, length, take, drop, map, refl, sym, ap, ◌∙◌, subst, arith, eqb-true, Some}
use Rattle.std.specs.Prelude.{Contains, ◌&&◌, ◌==◌, if◌then◌else◌, nat_eq}
use Rattle.std.specs.Int.{w32}
use Rattle.std.specs.List.{AllByRecursion}
use Rattle.std.proofs.lemmas.Bool.{cases_lt}
use Rattle.std.proofs.lemmas.Int.{fits_signed_from_abs}
use Rattle.std.proofs.lemmas.List.{append-nil, length-append, take_all, take_at}
use Rattle.pcp_base.specs.declared.file.FileId.{FileId}
use Rattle.pcp_base.specs.declared.file.FileId.TheVariants.{Meta, Index, Volume}
use Rattle.pcp_base.specs.declared.result.Item.{Item}
use Rattle.pcp_model.specs.declared.records.Entry.{Entry}
use Rattle.pcp_model.specs.Archive.{ArchiveContents, ArchiveReading, IsMeta, IsIndex, HasEntries, IsLastVolume, LabelledFile, AreVolumes, IsArchive, Reads, records_in, scan}
use Rattle.pcp_model.specs.Disk.{Files}
use Rattle.pcp_model.specs.LabelFields.{LabelFields}
use Rattle.pcp_model.specs.Labels.{IsLabel, label}
use Rattle.pcp_model.specs.Payload.{IsItem}
use Rattle.pcp_model.specs.Records.{FitsEntry, entries}
use Rattle.pcp_model.specs.Recovered.{AreMended, IsMended, IsMendedIndex, IsRecovered, labelled_volumes, or_first_volume, recovered_contents}
use Rattle.pcp_model.specs.Sound.{IsBoundary, IsSound, IsSoundEntry, NeverFalls, NoItemAfter, PointsWell}
use Rattle.pcp_model.proofs.Cuts.{SpelledLabel, is_label, length_of_label}
use Rattle.pcp_model.proofs.Lengths.{length-label}
use Rattle.pcp_model.proofs.OneReading.{others_above}
use Rattle.pcp_model.proofs.OneRecovery.{one_recovery}
use Rattle.pcp_model.proofs.Recovered.{recovered_is, recovered_items, spelled_of}
use Rattle.pcp_model.proofs.Sound.{labelled_long}
use Rattle.archive_reader.proofs.Loadable.{too_high}
use Rattle.archive_recovery.proofs.KeepsSound.{mended_entry}
use Rattle.log_export.specs.Exported.{ExportsAs, IsExported, exported_contents, exported_entries, exported_reading, first_number, is_one_of, kept_entries, same_entry, start_entry, with_first}
use Rattle.log_export.specs.Laws.{BeginsAtStart, IndexIsGood, KeepsSound}
use Rattle.log_export.specs.Standing.{IsLowest}

-- ---- the first entry

all_five : (p q r s t : Bool) → (p && q && r && s && t) ≡ true → (p ≡ true) × (q ≡ true) × (r ≡ true) × (s ≡ true) × (t ≡ true)
all_five true true true true true h = (refl, refl, refl, refl, refl)
all_five true true true true false h = let both : false ≡ true = h in cc
all_five true true true false t h = let both : false ≡ true = h in cc
all_five true true false s t h = let both : false ≡ true = h in cc
all_five true false r s t h = let both : false ≡ true = h in cc
all_five false q r s t h = let both : false ≡ true = h in cc

same_entry_is : (a b : Entry) → same_entry a b ≡ true → a ≡ b
same_entry_is a b h =
    let each = all_five (a.stamp.sec == b.stamp.sec) (a.stamp.usec == b.stamp.usec) (a.volume == b.volume) (a.meta == b.meta) (a.offset == b.offset) h in
    ap (λ n. entry_of n a.stamp.usec a.volume a.meta a.offset) (eqb-true a.stamp.sec b.stamp.sec each.0)
    ∙ ap (λ n. entry_of b.stamp.sec n a.volume a.meta a.offset) (eqb-true a.stamp.usec b.stamp.usec each.1)
    ∙ ap (λ n. entry_of b.stamp.sec b.stamp.usec n a.meta a.offset) (eqb-true a.volume b.volume each.2)
    ∙ ap (λ n. entry_of b.stamp.sec b.stamp.usec b.volume n a.offset) (eqb-true a.meta b.meta each.3)
    ∙ ap (λ n. entry_of b.stamp.sec b.stamp.usec b.volume b.meta n) (eqb-true a.offset b.offset each.4)
  where
    entry_of : ℕ → ℕ → ℕ → ℕ → ℕ → Entry
    entry_of sec usec volume meta offset = record { stamp = record { sec = sec; usec = usec }; volume = volume; meta = meta; offset = offset }

pub put_first : (P : Entry → Type 0) (first : Entry) (es : List Entry) → P first → AllByRecursion P es → AllByRecursion P (with_first first es)
put_first P first [] one all = (one, tt)
put_first P first (e ∷ es) one all = by (same_entry first e)
  where
    by : (b : Bool) → AllByRecursion P (if b then e ∷ es else first ∷ e ∷ es)
    by true = all
    by false = (one, all)

-- what holds of the entries of these volumes
pub all_kept : (P Q : Entry → Type 0) (ns : List ℕ) (es : List Entry) → ((e : Entry) → is_one_of ns e.volume ≡ true → P e → Q e) → AllByRecursion P es → AllByRecursion Q (kept_entries ns es)
all_kept P Q ns [] f all = tt
all_kept P Q ns (e ∷ es) f all = by (is_one_of ns e.volume) refl (all_kept P Q ns es f all.1)
  where
    by : (b : Bool) → is_one_of ns e.volume ≡ b → AllByRecursion Q (kept_entries ns es) → AllByRecursion Q (if b then e ∷ kept_entries ns es else kept_entries ns es)
    by true is rest = (f e is all.0, rest)
    by false is rest = rest

-- one of some numbers stands among them
stands_among : (ns : List ℕ) (n : ℕ) → is_one_of ns n ≡ true → Contains ns n
stands_among [] n is = let both : false ≡ true = is in cc
stands_among (m ∷ ns) n is = by (nat_eq m n) refl is (stands_among ns n)
  where
    by : (b : Bool) → nat_eq m n ≡ b → (if b then true else is_one_of ns n) ≡ true → (is_one_of ns n ≡ true → Contains ns n) → Contains (m ∷ ns) n
    by true e h rest = (0, omega arith, eqb-true m n e)
    by false e h rest = let r : Contains ns n = rest h in (suc r.0, omega (arith, r.1), r.2)

-- a volume that is left has its whole label
each_long : (files : Files) (l : LabelFields) (left : Files) (n : ℕ) (ws : List (ℕ × List Item)) → AllByRecursion (λ (w : ℕ × List Item). IsMended IsItem (files (Volume w.0)) l (pos w.0) w.1 (left (Volume w.0))) ws → Contains (map (λ (w : ℕ × List Item). w.0) ws) n
    → (132 ≤ length (files (Volume n))) × (132 ≤ length (left (Volume n)))
each_long files l left n [] all (k, h, is) = absurd (omega (arith, h))
each_long files l left n (w ∷ ws) all (zero, h, is) = subst (λ (m : ℕ). (132 ≤ length (files (Volume m))) × (132 ≤ length (left (Volume m)))) is
    (let long : 132 ≤ length (left (Volume w.0)) = labelled_long IsItem (left (Volume w.0)) l (pos w.0) w.1 [] all.0.whole in (omega (arith, long, ap length all.0.is, length-append (left (Volume w.0)) all.0.torn), long))
each_long files l left n (w ∷ ws) all (suc k, h, is) = each_long files l left n ws all.1 (k, omega (arith, h), is)

long_volume : (files : Files) (l : LabelFields) (left : Files) (n : ℕ) (vs : List (ℕ × List Item)) → AreMended files l left vs → Contains (map (λ (v : ℕ × List Item). v.0) vs) n → (132 ≤ length (files (Volume n))) × (132 ≤ length (left (Volume n)))
long_volume files l left n [] mended (k, h, is) = absurd (omega (arith, h))
long_volume files l left n (v ∷ vs) mended has = each_long files l left n (v ∷ vs) mended has

abbrev numbers_left : Files → ArchiveContents → List ℕ
numbers_left files c = map (λ (v : ℕ × List Item). v.0) (labelled_volumes files c.volumes)

-- ---- volumes of files that hold the same ones

module _ (left out : Files) (l : LabelFields) (same : (n : ℕ) → out (Volume n) ≡ left (Volume n)) where
  same_volumes : (vs : List (ℕ × List Item)) → AreVolumes left l vs → AreVolumes out l vs
  same_volumes [] are = tt
  same_volumes (v ∷ []) are = subst (λ t. IsLastVolume t l v.0 v.1) (sym (same v.0)) are
  same_volumes (v ∷ w ∷ vs) are = (subst (λ t. LabelledFile IsItem t l (pos v.0) v.1 []) (sym (same v.0)) are.0, are.1, same_volumes (w ∷ vs) are.2)

module _ (files : Files) (c : ArchiveContents) (is : IsArchive files c) where
  pub spelled : SpelledLabel c.label
  spelled = spelled_of is.meta.holds.head c.label (negsuc 0) is.meta.holds.label

  module _ (left : Files) (r : IsRecovered files c left) where
    -- the first volume that is left
    first_long : (vs : List (ℕ × List Item)) → AreMended files c.label left vs → 132 ≤ length (left (Volume (first_number vs)))
    first_long [] mended = let long : length (label c.label (pos 0)) ≡ 132 = length-label c.label (pos 0) spelled.fits in omega (arith, long, ap length mended)
    first_long (v ∷ vs) mended = labelled_long IsItem (left (Volume v.0)) c.label (pos v.0) v.1 [] mended.0.whole

    first_low : (vs : List (ℕ × List Item)) → AreMended files c.label left vs → first_number vs < 2147483648
    first_low [] mended = omega arith
    first_low (v ∷ vs) mended = ⊎_elim (λ (lt : v.0 < 2147483648). lt) (λ (ge : 2147483648 ≤ v.0). absurd (too_high v.0 mended.0.whole.label.number_fits ge)) (cases_lt v.0 2147483648)

    abbrev volumes_left : List (ℕ × List Item)
    volumes_left = labelled_volumes files c.volumes

    pub start_fits : FitsEntry (start_entry c.label (first_number volumes_left))
    start_fits = record { moment = is.meta.holds.label.start; volume = first_low volumes_left r.volumes; meta = omega arith; offset = omega arith }

    pub old_fit : IsIndex (files Index) c → AllByRecursion FitsEntry c.entries
    old_fit (inl none) = subst (AllByRecursion FitsEntry) (sym none.0) tt
    old_fit (inr has) = has.fit

    pub index_label_of : (t : List ℕ) → IsMendedIndex (files Index) c t → IsLabel (take 132 t) c.label (negsuc 1)
    index_label_of t (inl given) =
        let long : length (label c.label (negsuc 1)) ≡ 132 = length-label c.label (negsuc 1) spelled.fits in
        subst (λ b. IsLabel b c.label (negsuc 1)) (sym (ap (take 132) given.1 ∙ take_all 132 (label c.label (negsuc 1)) (omega (arith, long))))
        (is_label c.label (negsuc 1) spelled (fits_signed_from_abs w32 (negsuc 1) (omega arith)))
    index_label_of t (inr mended) =
        let has : HasEntries (files Index) c = mended.0 in
        subst (λ b. IsLabel b c.label (negsuc 1)) (sym (ap (take 132) mended.1 ∙ take_at has.head (entries c.entries) 132 (length_of_label has.head c.label (negsuc 1) has.label))) has.label

  module _ (out : Files) (e : IsExported files c out) where
    abbrev rec : IsArchive e.left (recovered_contents files c)
    rec = recovered_is files e.left c is e.recovered

    abbrev pub has_entries : HasEntries (out Index) (exported_contents files c)
    has_entries = record {
      head = take 132 (e.left Index);
      label = index_label_of e.left e.recovered (e.left Index) e.recovered.index;
      fit = put_first FitsEntry (start_entry c.label (first_number (labelled_volumes files c.volumes))) (kept_entries (numbers_left files c) c.entries) (start_fits e.left e.recovered) (all_kept FitsEntry FitsEntry (numbers_left files c) c.entries (λ x listed fits. fits) (old_fit e.left e.recovered is.index));
      rest = [];
      short = omega arith;
      is = e.index ∙ ap (λ t. take 132 (e.left Index) ++ t) (sym (append-nil (entries (exported_entries files c))));
    }

    pub export_is : IsArchive out (exported_contents files c)
    export_is = record {
      meta = let m : IsMeta (out Meta) (recovered_contents files c) = subst (λ t. IsMeta t (recovered_contents files c)) (sym e.meta) rec.meta in
          record { torn = m.torn; is_torn = m.is_torn; holds = m.holds; consistent = m.consistent };
      index = inr has_entries;
      volumes = same_volumes e.left out c.label e.volumes (or_first_volume (labelled_volumes files c.volumes)) rec.volumes;
      others = λ n none. e.volumes n ∙ rec.others n none;
      labelled = inr (first_number (labelled_volumes files c.volumes), subst (λ t. 132 ≤ length t) (sym (e.volumes (first_number (labelled_volumes files c.volumes)))) (first_long e.left e.recovered (labelled_volumes files c.volumes) e.recovered.volumes));
    }

    -- ---- sound

    module _ (left : Files) (r : IsRecovered files c left) where
      abbrev same_file_of : (file : FileId) → e.left file ≡ left file
      same_file_of file = one_recovery files e.left left (ArchiveReading.archive c) e.recovered r file

      meta_same : out Meta ≡ left Meta
      meta_same = e.meta ∙ same_file_of Meta

      volume_same : (n : ℕ) → out (Volume n) ≡ left (Volume n)
      volume_same n = e.volumes n ∙ same_file_of (Volume n)

      points_on : (x : Entry) → PointsWell left (recovered_contents files c) x → PointsWell out (exported_contents files c) x
      points_on x p = record {
        records = p.records;
        meta = subst (λ t. IsBoundary t x.meta p.records) (sym meta_same) p.meta;
        domains = p.domains;
        items = p.items;
        volume = subst (λ t. IsBoundary t x.offset p.items) (sym (volume_same x.volume)) p.volume;
        before = p.before;
        earlier = p.earlier;
      }

      entry_on : (x : Entry) → IsSoundEntry left (recovered_contents files c) x → IsSoundEntry out (exported_contents files c) x
      entry_on x s = record {
        not_above = (s.not_above.0, subst (λ t. 0 < length t) (sym (volume_same s.not_above.0)) s.not_above.1, s.not_above.2);
        points = λ some. points_on x (s.points (subst (λ t. 0 < length t) (volume_same x.volume) some));
      }

      abbrev start : Entry
      start = start_entry c.label (first_number (labelled_volumes files c.volumes))

      no_items_before : (vs : List (ℕ × List Item)) → AllByRecursion (λ v. v.0 ≡ start.volume → NoItemAfter start.stamp (take 0 v.1)) vs
      no_items_before [] = tt
      no_items_before (v ∷ vs) = ((λ here. tt), no_items_before vs)

      none_below : (n : ℕ) (vs : List (ℕ × List Item)) → AllByRecursion (λ (w : ℕ × List Item). n < w.0) vs → AllByRecursion (λ (v : ℕ × List Item). v.0 < n → NoItemAfter start.stamp v.1) vs
      none_below n [] above = tt
      none_below n (v ∷ vs) above = ((λ low. absurd (omega (arith, low, above.0))), none_below n vs above.1)

      none_earlier : (vs : List (ℕ × List Item)) → AreVolumes left c.label (or_first_volume vs) → AllByRecursion (λ (v : ℕ × List Item). v.0 < first_number vs → NoItemAfter start.stamp v.1) (or_first_volume vs)
      none_earlier [] are = ((λ low. tt), tt)
      none_earlier (v ∷ vs) are = ((λ low. absurd (omega (arith, low))), none_below v.0 vs (others_above left c.label v vs are))

      start_boundary : (bytes : List ℕ) → IsBoundary bytes 132 0
      start_boundary bytes = record { payloads = []; many = refl; fit = tt; behind = drop 132 bytes; stand = refl; is = refl }

      start_sound : IsSoundEntry out (exported_contents files c) start
      start_sound = record {
        not_above = (
          start.volume,
          subst (λ t. 0 < length t) (sym (volume_same start.volume)) (let long : 132 ≤ length (left (Volume start.volume)) = first_long left r (labelled_volumes files c.volumes) r.volumes in omega (arith, long)),
          omega arith,
        );
        points = λ some. record {
          records = 0;
          meta = start_boundary (out Meta);
          domains = tt;
          items = 0;
          volume = start_boundary (out (Volume start.volume));
          before = no_items_before (or_first_volume (labelled_volumes files c.volumes));
          earlier = none_earlier (labelled_volumes files c.volumes) (recovered_is files left c is r).volumes;
        };
      }

      sound_of_left : IsSound left (ArchiveReading.archive (recovered_contents files c)) → IsSound out (ArchiveReading.archive (exported_contents files c))
      sound_of_left sound = (
        sound.0,
        put_first (IsSoundEntry out (exported_contents files c)) start (kept_entries (numbers_left files c) c.entries) start_sound
            (all_kept (IsSoundEntry left (recovered_contents files c)) (IsSoundEntry out (exported_contents files c)) (numbers_left files c) c.entries (λ x listed s. entry_on x s) sound.1),
      )

    -- a sound entry of a volume that is left is sound there
    kept_on : (x : Entry) → is_one_of (numbers_left files c) x.volume ≡ true → IsSoundEntry files c x → IsSoundEntry out (exported_contents files c) x
    kept_on x listed s =
        let long = long_volume files c.label e.left x.volume (labelled_volumes files c.volumes) e.recovered.volumes (stands_among (numbers_left files c) x.volume listed) in
        entry_on e.left e.recovered x (mended_entry files e.left c is e.recovered x (x.volume, long.0, omega arith) s)

    sound_of_source : IsSound files (ArchiveReading.archive c) → IsSound out (ArchiveReading.archive (exported_contents files c))
    sound_of_source sound = (
      subst NeverFalls (sym (recovered_items files e.left c is e.recovered)) sound.0,
      put_first (IsSoundEntry out (exported_contents files c)) (start e.left e.recovered) (kept_entries (numbers_left files c) c.entries) (start_sound e.left e.recovered)
          (all_kept (IsSoundEntry files c) (IsSoundEntry out (exported_contents files c)) (numbers_left files c) c.entries kept_on sound.1),
    )

    pub keeps_sound : KeepsSound files out c
    keeps_sound = record { of_left = λ left r sound. sound_of_left left r sound; of_source = sound_of_source }

    -- ---- what its index says

    pub entries_stand : AllByRecursion (λ (x : Entry). 0 < length (out (Volume x.volume))) (exported_entries files c)
    entries_stand = put_first (λ (x : Entry). 0 < length (out (Volume x.volume))) (start_entry c.label (first_number (labelled_volumes files c.volumes))) (kept_entries (numbers_left files c) c.entries)
        (let long : 132 ≤ length (e.left (Volume (first_number (labelled_volumes files c.volumes)))) = first_long e.left e.recovered (labelled_volumes files c.volumes) e.recovered.volumes in
        subst (λ t. 0 < length t) (sym (e.volumes (first_number (labelled_volumes files c.volumes)))) (omega (arith, long)))
        (all_kept (λ (x : Entry). Unit {0}) (λ (x : Entry). 0 < length (out (Volume x.volume))) (numbers_left files c) c.entries
        (λ x listed any. let long = long_volume files c.label e.left x.volume (labelled_volumes files c.volumes) e.recovered.volumes (stands_among (numbers_left files c) x.volume listed) in
        subst (λ t. 0 < length t) (sym (e.volumes x.volume)) (omega (arith, long.1))) (any_all c.entries))
      where
        any_all : (es : List Entry) → AllByRecursion (λ (x : Entry). Unit {0}) es
        any_all [] = tt
        any_all (x ∷ es) = (tt, any_all es)

    below_first : (k : ℕ) → k < first_number (labelled_volumes files c.volumes) → out (Volume k) ≡ []
    below_first k low = e.volumes k ∙ e.recovered.others k (not_there (labelled_volumes files c.volumes) rec.volumes low)
      where
        not_above : (n : ℕ) (vs : List (ℕ × List Item)) → AllByRecursion (λ (w : ℕ × List Item). n < w.0) vs → k < n → Contains (map (λ (w : ℕ × List Item). w.0) vs) k → ⊥
        not_above n [] all low (i, h, at) = omega (arith, h)
        not_above n (w ∷ vs) all low (zero, h, at) = let here : w.0 ≡ k = at in omega (arith, low, all.0, here)
        not_above n (w ∷ vs) all low (suc i, h, at) = not_above n vs all.1 low (i, omega (arith, h), at)

        not_there : (vs : List (ℕ × List Item)) → AreVolumes e.left c.label (or_first_volume vs) → k < first_number vs → Contains (map (λ (w : ℕ × List Item). w.0) (or_first_volume vs)) k → ⊥
        not_there [] are low has = omega (arith, low)
        not_there (v ∷ vs) are low (zero, h, at) = let here : v.0 ≡ k = at in omega (arith, low, here)
        not_there (v ∷ vs) are low (suc i, h, at) = not_above v.0 vs (others_above e.left c.label v vs are) low (i, omega (arith, h), at)

    pub begins_so : BeginsAtStart c.label out (exported_entries files c)
    begins_so = first_begins (start_entry c.label (first_number (labelled_volumes files c.volumes))) (kept_entries (numbers_left files c) c.entries) refl
      where
        lowest : IsLowest out (Some (first_number (labelled_volumes files c.volumes)))
        lowest = (
          (let long : 132 ≤ length (e.left (Volume (first_number (labelled_volumes files c.volumes)))) = first_long e.left e.recovered (labelled_volumes files c.volumes) e.recovered.volumes in
              subst (λ t. 0 < length t) (sym (e.volumes (first_number (labelled_volumes files c.volumes)))) (omega (arith, long))),
          below_first,
        )

        first_begins : (first : Entry) (kept : List Entry) → first ≡ start_entry c.label (first_number (labelled_volumes files c.volumes)) → BeginsAtStart c.label out (with_first first kept)
        first_begins first [] same = record { more = []; is = ap (λ x. x ∷ []) same; volume = first_number (labelled_volumes files c.volumes); lowest = lowest }
        first_begins first (x ∷ kept) same = by (same_entry first x) refl
          where
            by : (b : Bool) → same_entry first x ≡ b → BeginsAtStart c.label out (if b then x ∷ kept else first ∷ x ∷ kept)
            by true h = record { more = kept; is = ap (λ y. y ∷ kept) (sym (same_entry_is first x h) ∙ same); volume = first_number (labelled_volumes files c.volumes); lowest = lowest }
            by false h = record { more = x ∷ kept; is = ap (λ y. y ∷ x ∷ kept) same; volume = first_number (labelled_volumes files c.volumes); lowest = lowest }

pub export_is_read : (files out : Files) (r : ArchiveReading) → Reads files r → ExportsAs files r out → Reads out (exported_reading files r) × (scan (exported_reading files r) ≡ scan r) × (records_in (exported_reading files r) ≡ records_in r)
export_is_read files out ArchiveReading.nothing reads none = (record { meta = inl (none Meta); index = none Index; volumes = λ n. none (Volume n) }, refl, refl)
export_is_read files out (ArchiveReading.archive c) reads e = (export_is files c reads out e, recovered_items files e.left c reads e.recovered, refl)

pub export_begins : (files out : Files) (c : ArchiveContents) → IsArchive files c → IsExported files c out → IndexIsGood files out c
export_begins files out c is e = record { begins = begins_so files c is out e; stand = entries_stand files c is out e }

pub export_keeps_sound : (files out : Files) (c : ArchiveContents) → IsArchive files c → IsExported files c out → KeepsSound files out c
export_keeps_sound files out c is e = keeps_sound files c is out e

pub export_is_one : (files a b : Files) (r : ArchiveReading) → ExportsAs files r a → ExportsAs files r b → (file : FileId) → a file ≡ b file
export_is_one files a b ArchiveReading.nothing x y file = x file ∙ sym (y file)
export_is_one files a b (ArchiveReading.archive c) x y Meta = x.meta ∙ one_recovery files x.left y.left (ArchiveReading.archive c) x.recovered y.recovered Meta ∙ sym y.meta
export_is_one files a b (ArchiveReading.archive c) x y Index =
    x.index ∙ ap (λ t. take 132 t ++ entries (exported_entries files c)) (one_recovery files x.left y.left (ArchiveReading.archive c) x.recovered y.recovered Index) ∙ sym y.index
export_is_one files a b (ArchiveReading.archive c) x y (Volume n) = x.volumes n ∙ one_recovery files x.left y.left (ArchiveReading.archive c) x.recovered y.recovered (Volume n) ∙ sym (y.volumes n)
