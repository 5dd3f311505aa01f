-- A readable archive is loaded: no file of it stops being what it should be.
use Rattle.std.proofs.Common.{zero, suc, ◌≡◌, ◌≢◌, ◌⊎◌, inl, inr, ⊎_elim, ℕ, ℤ, pos, negsuc, ◌+◌, ◌-◌, ◌*◌, ◌<◌, ◌≤◌, List, [], ◌∷◌, ◌++◌, length, take, drop, map, refl, sym, ap, ◌∙◌, subst, append_assoc, arith}
use Rattle.std.specs.Prelude.{Contains, FitsSigned}
use Rattle.std.specs.Int.{w32}
use Rattle.std.specs.List.{AllByRecursion}
use Rattle.std.proofs.lemmas.Int.{ints}
use Rattle.std.proofs.lemmas.List.{take_at, drop_at, take_all, append-nil, length-append, length-take, length-drop}
use Rattle.pcp_base.specs.declared.file.FileId.{FileId}
use Rattle.pcp_base.specs.declared.file.FileId.TheVariants.{Meta, Index, Volume}
use Rattle.pcp_base.specs.declared.result.Item.{Item}
use Rattle.pcp_model.specs.declared.records.MetaRecord.{MetaRecord}
use Rattle.pcp_model.specs.declared.records.Entry.{Entry}
use Rattle.pcp_model.specs.Archive.{ArchiveContents, ArchiveReading, LabelledFile, IsMeta, IsIndex, IsLastVolume, AreVolumes, IsArchive, IsStoppedCreation, Readable}
use Rattle.pcp_model.specs.Disk.{Files}
use Rattle.pcp_model.specs.Frame.{frames, IsTorn}
use Rattle.pcp_model.specs.LabelFields.{LabelFields}
use Rattle.pcp_model.specs.Labels.{IsLabel, BeginsLabel}
use Rattle.pcp_model.specs.Payload.{IsItem}
use Rattle.pcp_model.specs.Records.{IsRecord, FitsEntry, entry, entries}
use Rattle.pcp_model.proofs.Cuts.{length_of_label, length-entry}
use Rattle.pcp_model.proofs.OneReading.{entries_long, others_above}
use Rattle.pcp_model.proofs.OneRecord.{one_record}
use Rattle.pcp_model.proofs.Sound.{labelled_long}
use Rattle.pcp_model.proofs.Unique.{both, both_entries, one_file, one_index, SameFile}
use Rattle.archive_frame.specs.Heads.{IsMetaLabel}
use Rattle.archive_frame.specs.Misfits.{BeginsOne, IsFirstMisfit}
use Rattle.archive_meta.specs.declared.fault.MetaFault.TheVariants.{Record, NoMemory as Lacking}
use Rattle.archive_meta.specs.Records.{HasFront}
use Rattle.archive_meta.proofs.Torn.{front_refused}
use Rattle.archive_loading.specs.Loaded.{contents_with}
use Rattle.archive_loading.specs.LoadFaults.{LabelStops, MetaStops, whole_entries, IndexStops, VolumeStops, MetaIs, NotLoaded}

-- ---- labels

misfits_not : (Texts : List ℕ → Type 0) (bytes : List ℕ) (k : ℕ) → k < length bytes → BeginsOne Texts bytes → IsFirstMisfit Texts bytes k → ⊥
misfits_not Texts bytes k lt begins m =
    let le : length bytes ≤ k = m.longest (length bytes) (omega arith) (subst (BeginsOne Texts) (sym (take_all (length bytes) bytes (omega arith))) begins) in omega (arith, lt, le)

label_begins : (bytes : List ℕ) (l : LabelFields) (n : ℤ) → IsLabel bytes l n → BeginsOne (λ t. IsLabel t l n) bytes
label_begins bytes l n label = ([], subst (λ t. IsLabel t l n) (sym (append-nil bytes)) label)

pub whole_stops : (bytes : List ℕ) (l : LabelFields) (n : ℤ) (offset : ℕ) → IsLabel bytes l n → LabelStops bytes l n offset → ⊥
whole_stops bytes l n offset label (k, lt, m, told) = misfits_not (λ t. IsLabel t l n) bytes k lt (label_begins bytes l n label) m

pub part_stops : (bytes : List ℕ) (l : LabelFields) (n : ℤ) (offset : ℕ) → BeginsLabel bytes l n → LabelStops (take 132 bytes) l n offset → ⊥
part_stops bytes l n offset b stops =
    let all : take 132 bytes ≡ bytes = take_all 132 bytes (omega (arith, b.short)) in
    let here : LabelStops bytes l n offset = subst (λ t. LabelStops t l n offset) all stops in
    misfits_not (λ t. IsLabel t l n) bytes here.0 here.1 (b.more, b.label) here.2

-- a file that begins with a label
head_of : {X : Type 0} (R : List ℕ → X → Type 0) (bytes : List ℕ) (l : LabelFields) (n : ℤ) (values : List X) (torn : List ℕ) → LabelledFile R bytes l n values torn → IsLabel (take 132 bytes) l n
head_of R bytes l n values torn h =
    subst (λ t. IsLabel t l n) (sym (ap (take 132) h.is ∙ take_at h.head (frames h.payloads ++ torn) 132 (length_of_label h.head l n h.label))) h.label

-- ---- Meta

module _ (files : Files) (c : ArchiveContents) (is : IsMeta (files Meta) c) where
  meta_long : 132 ≤ length (files Meta)
  meta_long = labelled_long IsRecord (files Meta) c.label (negsuc 0) c.records is.torn is.holds

  meta_front : HasFront (drop 132 (files Meta)) c.records (length (frames is.holds.payloads))
  meta_front =
      let h : LabelledFile IsRecord (files Meta) c.label (negsuc 0) c.records is.torn = is.holds in
      let behind : drop 132 (files Meta) ≡ frames h.payloads ++ is.torn = ap (drop 132) h.is ∙ drop_at h.head (frames h.payloads ++ is.torn) 132 (length_of_label h.head c.label (negsuc 0) h.label) in
      record {
        within = omega (arith, ap length behind, length-append (frames h.payloads) is.torn);
        read = record { payloads = h.payloads; read = h.read; is = ap (take (length (frames h.payloads))) behind ∙ take_at (frames h.payloads) is.torn (length (frames h.payloads)) refl };
        consistent = is.consistent;
        torn = subst IsTorn (sym (ap (drop (length (frames h.payloads))) behind ∙ drop_at (frames h.payloads) is.torn (length (frames h.payloads)) refl)) is.is_torn;
      }

  pub meta_good : (offset : ℕ) → MetaStops files offset → ⊥
  meta_good offset (inl (lt, m)) =
      let label : IsLabel (take 132 (files Meta)) c.label (negsuc 0) = head_of IsRecord (files Meta) c.label (negsuc 0) c.records is.torn is.holds in
      misfits_not IsMetaLabel (take 132 (files Meta)) offset lt ([], (c.label, subst (λ t. IsLabel t c.label (negsuc 0)) (sym (append-nil (take 132 (files Meta)))) label)) m
  meta_good offset (inr (inl (same, (l, begins), beside))) = omega (arith, begins.short, meta_long)
  meta_good offset (inr (inr (label, k, same, fault))) =
      let both : Record k ≡ Lacking = front_refused (drop 132 (files Meta)) c.records (length (frames is.holds.payloads)) (Record k) fault meta_front in cc

  pub same_label : (l : LabelFields) (records : List MetaRecord) → MetaIs files l records → c.label ≡ l
  same_label l records other =
      let same : SameFile c.label l (negsuc 0) (negsuc 0) c.records records is.torn other.torn =
      one_file IsRecord one_record (files Meta) c.label l (negsuc 0) (negsuc 0) c.records records is.torn other.torn is.holds other.holds is.is_torn other.is_torn in same.label

-- ---- the index

no_first_fault : (front es : List Entry) (rest : List ℕ) → AllByRecursion FitsEntry front → AllByRecursion FitsEntry es → entries front ++ rest ≡ entries es → 0 < length rest
    → ((e : Entry) (more : List ℕ) → FitsEntry e → rest ≡ entry e ++ more → ⊥) → ⊥
no_first_fault [] [] rest fit fits is some none = omega (arith, ap length is, some)
no_first_fault [] (e ∷ es) rest fit fits is some none = none e (entries es) fits.0 is
no_first_fault (f ∷ front) [] rest fit fits is some none = omega (arith, ap length is, length-append (entry f ++ entries front) rest, some)
no_first_fault (f ∷ front) (e ∷ es) rest fit fits is some none =
    let one : (f ≡ e) × (entries front ++ rest ≡ entries es) = both_entries f e (entries front ++ rest) (entries es) fit.0 fits.0 (sym (append_assoc (entry f) (entries front) rest) ∙ is) in
    no_first_fault front es rest fit.1 fits.1 one.1 some none

module _ (bytes : List ℕ) (c : ArchiveContents) where
  pub index_good : (offset : ℕ) → IsIndex bytes c → IndexStops bytes c.label offset → ⊥
  index_good offset (inl (none, begins)) (inl stops) = part_stops bytes c.label (negsuc 1) offset begins stops
  index_good offset (inl (none, begins)) (inr (label, k, same, fault)) =
      omega (arith, begins.short, length_of_label (take 132 bytes) c.label (negsuc 1) label, length-take 132 bytes)
  index_good offset (inr has) (inl stops) =
      let label : IsLabel (take 132 bytes) c.label (negsuc 1) =
      subst (λ t. IsLabel t c.label (negsuc 1)) (sym (ap (take 132) has.is ∙ take_at has.head (entries c.entries ++ has.rest) 132 (length_of_label has.head c.label (negsuc 1) has.label))) has.label in
      whole_stops (take 132 bytes) c.label (negsuc 1) offset label stops
  index_good offset (inr has) (inr (label, k, same, fault)) =
      let behind : drop 132 bytes ≡ entries c.entries ++ has.rest = ap (drop 132) has.is ∙ drop_at has.head (entries c.entries ++ has.rest) 132 (length_of_label has.head c.label (negsuc 1) has.label) in
      let size : length bytes - 132 ≡ length (entries c.entries) + length has.rest = sym (length-drop 132 bytes) ∙ ap length behind ∙ length-append (entries c.entries) has.rest in
      let whole : whole_entries (length bytes - 132) ≡ length (entries c.entries) = omega (arith, size, twenty c.entries, has.short) in
      let taken : take (whole_entries (length bytes - 132)) (drop 132 bytes) ≡ entries c.entries =
      ap (λ n. take n (drop 132 bytes)) whole ∙ ap (take (length (entries c.entries))) behind ∙ take_at (entries c.entries) has.rest (length (entries c.entries)) refl in
      no_first_fault fault.front c.entries fault.rest fault.fit has.fit (sym fault.is ∙ taken) fault.goes_on fault.none
    where
      twenty : (es : List Entry) → length (entries es) ≡ 20 * length es
      twenty [] = refl
      twenty (e ∷ es) = omega (arith, length-append (entry e) (entries es), length-entry e, twenty es)

  pub same_entries : (l : LabelFields) (es : List Entry) → IsIndex bytes c → IsIndex bytes (contents_with l [] es []) → c.entries ≡ es
  same_entries l es (inl p) (inl q) = p.0 ∙ sym q.0
  same_entries l es (inl p) (inr q) = absurd (omega (arith, p.1.short, entries_long bytes (contents_with l [] es []) q))
  same_entries l es (inr p) (inl q) = absurd (omega (arith, q.1.short, entries_long bytes c p))
  same_entries l es (inr p) (inr q) =
      let behind : (p.head ≡ q.head) × (entries c.entries ++ p.rest ≡ entries es ++ q.rest) =
      both p.head q.head (entries c.entries ++ p.rest) (entries es ++ q.rest) (length_of_label p.head c.label (negsuc 1) p.label ∙ sym (length_of_label q.head l (negsuc 1) q.label)) (sym p.is ∙ q.is) in
      (one_index c.entries es p.rest q.rest p.fit q.fit p.short q.short behind.1).0

-- ---- volumes

pub too_high : (n : ℕ) → FitsSigned w32 (pos n) → 2147483648 ≤ n → ⊥
too_high n fits high = omega (arith, ints)

-- a volume is its label and more, or it ends within its label and none above it holds a byte
abbrev IsOne : Files → LabelFields → ℕ → List (ℕ × List Item) → Type 0
IsOne files l n cs = IsLabel (take 132 (files (Volume n))) l (pos n)
    ⊎ (BeginsLabel (files (Volume n)) l (pos n) × ((k : ℕ) → n < k → Contains (map (λ (c : ℕ × List Item). c.0) cs) k → ⊥))

module _ (files : Files) (l : LabelFields) where
  of_last : (n : ℕ) (items : List Item) → IsLastVolume (files (Volume n)) l n items → IsOne files l n ((n, items) ∷ [])
  of_last n items (inl (some, none, begins)) = inr (begins, above)
    where
      above : (k : ℕ) → n < k → Contains (n ∷ []) k → ⊥
      above k lt (zero, h, is) = let same : n ≡ k = is in omega (arith, lt, same)
      above k lt (suc i, h, is) = omega (arith, h)
  of_last n items (inr (torn, is_torn, h)) = inl (head_of IsItem (files (Volume n)) l (pos n) items torn h)

  longer : (n : ℕ) (c : ℕ × List Item) (cs : List (ℕ × List Item)) → c.0 < n → IsOne files l n cs → IsOne files l n (c ∷ cs)
  longer n c cs lt (inl label) = inl label
  longer n c cs lt (inr (begins, above)) = inr (begins, up)
    where
      up : (k : ℕ) → n < k → Contains (c.0 ∷ map (λ (d : ℕ × List Item). d.0) cs) k → ⊥
      up k more (zero, h, is) = let same : c.0 ≡ k = is in omega (arith, lt, more, same)
      up k more (suc i, h, is) = above k more (i, omega (arith, h), is)

  above_first : (n : ℕ) (cs : List (ℕ × List Item)) (low : ℕ) → AllByRecursion (λ (c : ℕ × List Item). low < c.0) cs → (there : Contains (map (λ (c : ℕ × List Item). c.0) cs) n) → low < n
  above_first n [] low all (k, h, is) = absurd (omega (arith, h))
  above_first n (c ∷ cs) low all (zero, h, is) = let same : c.0 ≡ n = is in omega (arith, all.0, same)
  above_first n (c ∷ cs) low all (suc k, h, is) = above_first n cs low all.1 (k, omega (arith, h), is)

  one_of : (n : ℕ) (cs : List (ℕ × List Item)) → AreVolumes files l cs → Contains (map (λ (c : ℕ × List Item). c.0) cs) n → IsOne files l n cs
  one_of n [] are (k, h, is) = absurd (omega (arith, h))
  one_of n (c ∷ []) are (zero, h, is) = let same : c.0 ≡ n = is in subst (λ m. IsOne files l m (c ∷ [])) same (of_last c.0 c.1 are)
  one_of n (c ∷ []) are (suc k, h, is) = absurd (omega (arith, h))
  one_of n (c ∷ d ∷ cs) are (zero, h, is) = let same : c.0 ≡ n = is in subst (λ m. IsOne files l m (c ∷ d ∷ cs)) same (inl (head_of IsItem (files (Volume c.0)) l (pos c.0) c.1 [] are.0))
  one_of n (c ∷ d ∷ cs) are (suc k, h, is) =
      let there : Contains (map (λ (c : ℕ × List Item). c.0) (d ∷ cs)) n = (k, omega (arith, h), is) in
      longer n c (d ∷ cs) (above_first n (d ∷ cs) c.0 (others_above files l c (d ∷ cs) are) there) (one_of n (d ∷ cs) are.2 there)

  volume_good : (n offset : ℕ) (cs : List (ℕ × List Item)) → ((k : ℕ) → (Contains (map (λ (c : ℕ × List Item). c.0) cs) k → ⊥) → files (Volume k) ≡ []) → IsOne files l n cs → VolumeStops files l n offset → ⊥
  volume_good n offset cs others (inl label) (some, inl stops) = whole_stops (take 132 (files (Volume n))) l (pos n) offset label stops
  volume_good n offset cs others (inl label) (some, inr (inl (same, begins, followed))) =
      omega (arith, begins.short, length_of_label (take 132 (files (Volume n))) l (pos n) label, length-take 132 (files (Volume n)))
  volume_good n offset cs others (inl label) (some, inr (inr (high, same))) = too_high n label.number_fits high
  volume_good n offset cs others (inr (begins, above)) (some, inl stops) = part_stops (files (Volume n)) l (pos n) offset begins stops
  volume_good n offset cs others (inr (begins, above)) (some, inr (inl (same, again, (k, lt, more)))) = more (others k (above k lt))
  volume_good n offset cs others (inr (begins, above)) (some, inr (inr (high, same))) = too_high n begins.label.number_fits high

-- ---- a creation that was stopped

module _ (files : Files) (stop : IsStoppedCreation files) where
  meta_short : length (files Meta) < 132
  meta_short = ⊎_elim (λ (none : files Meta ≡ []). omega (arith, ap length none)) (λ begins. omega (arith, begins.1.short)) stop.meta

  pub no_meta : (l : LabelFields) (records : List MetaRecord) → MetaIs files l records → ⊥
  no_meta l records is = omega (arith, meta_short, labelled_long IsRecord (files Meta) l (negsuc 0) records is.torn is.holds)

  alone : (file : FileId) → file ≢ Meta → 0 < length (files file) → ⊥
  alone Meta other some = other refl
  alone Index other some = omega (arith, some, ap length stop.index)
  alone (Volume n) other some = omega (arith, some, ap length (stop.volumes n))

  begun_good : (offset : ℕ) → MetaStops files offset → ⊥
  begun_good offset (inl (lt, m)) =
      let all : take 132 (files Meta) ≡ files Meta = take_all 132 (files Meta) (omega (arith, meta_short)) in
      ⊎_elim (λ (none : files Meta ≡ []). omega (arith, lt, length-take 132 (files Meta), ap length none))
      (λ begins. misfits_not IsMetaLabel (take 132 (files Meta)) offset lt (begins.1.more, (begins.0, subst (λ t. IsLabel (t ++ begins.1.more) begins.0 (negsuc 0)) (sym all) begins.1.label)) m) stop.meta
  begun_good offset (inr (inl (same, begins, (file, other, some)))) = alone file other some
  begun_good offset (inr (inr (label, k, same, fault))) = omega (arith, meta_short, length_of_label (take 132 (files Meta)) label.0 (negsuc 0) label.1, length-take 132 (files Meta))

  pub stopped_loads : (file : FileId) (offset : ℕ) → NotLoaded files file offset → ⊥
  stopped_loads Meta offset stops = begun_good offset stops
  stopped_loads Index offset (inl (l, records, meta, stops)) = no_meta l records meta
  stopped_loads Index offset (inr (same, l, records, entries, head, some, short)) = no_meta l records head.meta
  stopped_loads (Volume n) offset (l, records, entries, head, below, stops) = no_meta l records head.meta

-- ---- an archive

module _ (files : Files) (c : ArchiveContents) (is : IsArchive files c) where
  pub some_bytes : (bytes : List ℕ) → 0 < length bytes → bytes ≡ [] → ⊥
  some_bytes bytes some none = omega (arith, some, ap length none)

  listed : (n : ℕ) → 0 < length (files (Volume n)) → (Contains (map (λ (v : ℕ × List Item). v.0) c.volumes) n → ⊥) → ⊥
  listed n some none = some_bytes (files (Volume n)) some (is.others n none)

  pub archive_loads : (file : FileId) (offset : ℕ) → NotLoaded files file offset → ⊥
  archive_loads Meta offset stops = meta_good files c is.meta offset stops
  archive_loads Index offset (inl (l, records, meta, stops)) =
      index_good (files Index) c offset is.index (subst (λ m. IndexStops (files Index) m offset) (sym (same_label files c is.meta l records meta)) stops)
  archive_loads Index offset (inr (same, l, records, entries, head, some, short)) =
      ⊎_elim (λ (none : c.entries ≡ []). some (sym (same_entries (files Index) c l entries is.index head.index) ∙ none)) (λ long. omega (arith, short long.0, long.1)) is.labelled
  archive_loads (Volume n) offset (l, records, entries, head, below, stops) =
      let label : c.label ≡ l = same_label files c is.meta l records head.meta in
      let here : VolumeStops files c.label n offset = subst (λ m. VolumeStops files m n offset) (sym label) stops in
      listed n stops.0 (λ there. volume_good files c.label n offset c.volumes is.others (one_of files c.label n c.volumes is.volumes there) here)

pub loads_readable : (files : Files) (file : FileId) (offset : ℕ) → Readable files → NotLoaded files file offset → ⊥
loads_readable files file offset (ArchiveReading.nothing, reads) stops = stopped_loads files reads file offset stops
loads_readable files file offset (ArchiveReading.archive c, reads) stops = archive_loads files c reads file offset stops
