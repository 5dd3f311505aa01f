-- An archive whose Meta, index and last volume are cut is an archive of the first of its records, entries and items.
use Rattle.std.proofs.Common.{zero, suc, ◌≡◌, ◌≢◌, ◌⊎◌, inl, inr, ⊎_elim, ℕ, ◌+◌, ◌-◌, ◌*◌, ◌<◌, ◌≤◌, pos, negsuc, List, [], ◌∷◌, ◌++◌, length, take, map, refl, sym, ap, ◌∙◌, subst, arith, length-append, length-take}
use Rattle.std.specs.Prelude.{Contains, slice_index_or}
use Rattle.std.proofs.lemmas.Bool.{cases_lt}
use Rattle.std.proofs.lemmas.List.{take_at, append-nil}
use Rattle.std.proofs.Math.Seq.{take-append-add}
use Rattle.pcp_base.specs.declared.file.FileId.TheVariants.{Meta, Index, Volume}
use Rattle.pcp_base.specs.declared.result.Item.{Item}
use Rattle.pcp_model.specs.declared.records.Entry.{Entry}
use Rattle.pcp_model.specs.declared.records.MetaRecord.{MetaRecord}
use Rattle.pcp_model.specs.declared.records.MetaRecord.TheVariants.{Description, Domain, Other}
use Rattle.pcp_model.specs.Archive.{ArchiveContents, LabelledFile, HasEntries, IsIndex, IsLastVolume, AreVolumes, IsArchive, items_of}
use Rattle.pcp_model.specs.Disk.{Files}
use Rattle.pcp_model.specs.Frame.{frames}
use Rattle.pcp_model.specs.LabelFields.{LabelFields}
use Rattle.pcp_model.specs.Labels.{BeginsLabel}
use Rattle.pcp_model.specs.Laws.{HasLast, IsCutOf, FirstPart}
use Rattle.pcp_model.specs.Payload.{IsItem}
use Rattle.pcp_model.specs.Records.{IsRecord, Agrees, AgreesWithAll, AreConsistent, entries}
use Rattle.pcp_model.proofs.Added.{before_last, last_replaced, last_listed, numbers_same, items_of-append}
use Rattle.pcp_model.proofs.CutsOfAny.{cut_some_label, cut_beginning, CutTornFile, cut_torn_file, CutIndex, cut_some_entries, cut_some_index, length-entries}
use Rattle.pcp_model.proofs.Cuts.{length_of_label}
use Rattle.pcp_model.proofs.Lists.{each-first}
use Rattle.pcp_model.proofs.OneReading.{last_has_bytes}
use Rattle.pcp_model.proofs.Sound.{labelled_long}

-- ---- Meta

agrees_first : (k : ℕ) (r : MetaRecord) (records : List MetaRecord) → AgreesWithAll r records → AgreesWithAll r (take k records)
agrees_first k (Description d names) records all = each-first (Agrees d names) k records all
agrees_first k (Domain t indom pairs) records all = tt
agrees_first k Other records all = tt

pub consistent_first : (k : ℕ) (records : List MetaRecord) → AreConsistent records → AreConsistent (take k records)
consistent_first zero records all = tt
consistent_first (suc k) [] all = tt
consistent_first (suc k) (r ∷ records) all = (agrees_first k r records all.0, consistent_first k records all.1)

-- ---- the index

pub record IndexPart (bytes : List ℕ) (c : ArchiveContents) (i : ℕ) (records : List MetaRecord) (volumes : List (ℕ × List Item)) : Type 0 where
  pub k : ℕ
  pub is : IsIndex (take i bytes) (record { label = c.label; records = records; entries = take k c.entries; volumes = volumes })
  pub some : (take k c.entries ≡ []) ⊎ (152 ≤ i)
  pub whole : length bytes ≤ i → length c.entries ≤ k

some_or_none : (k i : ℕ) (es : List Entry) → 20 * k ≤ i - 132 → 132 ≤ i → (take k es ≡ []) ⊎ (152 ≤ i)
some_or_none zero i es within low = inl refl
some_or_none (suc k) i es within low = inr (omega arith)

pub index_part : (bytes : List ℕ) (c : ArchiveContents) (i : ℕ) (records : List MetaRecord) (volumes : List (ℕ × List Item)) → IsIndex bytes c → IndexPart bytes c i records volumes
index_part bytes c i records volumes (inl begins) = record {
  k = 0;
  is = inl (refl, cut_beginning bytes c.label (negsuc 1) i begins.1);
  some = inl refl;
  whole = λ le. omega (arith, ap length begins.0);
}
index_part bytes c i records volumes (inr has) =
    let behind : length bytes ≡ length has.head + length (entries c.entries ++ has.rest) = ap length has.is ∙ length-append has.head (entries c.entries ++ has.rest) in
    let head : length has.head ≡ 132 = length_of_label has.head c.label (negsuc 1) has.label in
    ⊎_elim (λ (low : i < 132). record {
      k = 0;
      is = inl (refl, subst (λ t. BeginsLabel (take i t) c.label (negsuc 1)) (sym has.is) (cut_some_label has.head (entries c.entries ++ has.rest) c.label (negsuc 1) i has.label low));
      some = inl refl;
      whole = λ le. omega arith;
    })
    (λ (high : 132 ≤ i). let r : CutIndex c.entries has.rest (i - 132) = cut_some_entries c.entries has.rest (i - 132) has.short in
    let cut : HasEntries (take i bytes) (record { label = c.label; records = c.records; entries = take r.k c.entries; volumes = c.volumes }) = cut_some_index bytes c i has high r in
    record {
      k = r.k;
      is = inr (record { head = cut.head; label = cut.label; fit = cut.fit; rest = cut.rest; short = cut.short; is = cut.is });
      some = some_or_none r.k i c.entries r.within high;
      whole = λ le. r.whole (omega (arith, length-append (entries c.entries) has.rest, length-entries c.entries));
    }) (cases_lt i 132)

-- ---- the volumes

module _ (files image : Files) (l : LabelFields) (number : ℕ) (items : List Item) where
  -- the others alone
  pub without_last : (before : List (ℕ × List Item)) → AreVolumes files l (before ++ (number, items) ∷ []) → ((n : ℕ) → n < number → image (Volume n) ≡ files (Volume n)) → AreVolumes image l before
  without_last [] are same = tt
  without_last (v ∷ []) are same = inr ([], inl (omega arith), subst (λ t. LabelledFile IsItem t l (pos v.0) v.1 []) (sym (same v.0 are.1)) are.0)
  without_last (v ∷ w ∷ vs) are same =
      let below : v.0 < number = (before_last files image l number items (v ∷ w ∷ vs) are).0 in
      (subst (λ t. LabelledFile IsItem t l (pos v.0) v.1 []) (sym (same v.0 below)) are.0, are.1, without_last (w ∷ vs) are.2 same)

-- a number that is neither the last nor before it isn't listed
pub none_appended : (n number : ℕ) (items : List Item) (vs : List (ℕ × List Item)) → n ≢ number → (Contains (map (λ (w : ℕ × List Item). w.0) vs) n → ⊥)
    → (k : ℕ) → k < length (map (λ (w : ℕ × List Item). w.0) (vs ++ (number, items) ∷ [])) → slice_index_or (map (λ (w : ℕ × List Item). w.0) (vs ++ (number, items) ∷ [])) k n ≡ n → ⊥
none_appended n number items [] other none zero h is = other (sym is)
none_appended n number items [] other none (suc k) h is = omega arith
none_appended n number items (v ∷ vs) other none zero h is = none (0, omega arith, is)
none_appended n number items (v ∷ vs) other none (suc k) h is = none_appended n number items vs other (λ c. none (suc c.0, omega (arith, c.1), c.2)) k (omega arith) is

-- what is left of the volumes
record VolumesPart (files image : Files) (c : ArchiveContents) (last : HasLast c) (v : ℕ) : Type 0 where
  pub volumes : List (ℕ × List Item)
  pub are : AreVolumes image c.label volumes
  pub others : (n : ℕ) → (Contains (map (λ (v : ℕ × List Item). v.0) volumes) n → ⊥) → image (Volume n) ≡ []
  pub q : ℕ
  pub items : items_of volumes ≡ take q (items_of c.volumes)
  pub shape : (volumes ≡ last.before) ⊎ ((p : ℕ) × (volumes ≡ last.before ++ (last.number, take p last.items) ∷ []))
  pub whole : length (files (Volume last.number)) ≤ v → length (items_of c.volumes) ≤ q

pub last_of : (files : Files) (l : LabelFields) (number : ℕ) (items : List Item) (before : List (ℕ × List Item)) → AreVolumes files l (before ++ (number, items) ∷ []) → IsLastVolume (files (Volume number)) l number items
last_of files l number items [] are = are
last_of files l number items (v ∷ []) are = are.2
last_of files l number items (v ∷ w ∷ vs) are = last_of files l number items (w ∷ vs) are.2

items_first : (before : List (ℕ × List Item)) (number p : ℕ) (items : List Item) → items_of (before ++ (number, take p items) ∷ []) ≡ take (length (items_of before) + p) (items_of (before ++ (number, items) ∷ []))
items_first before number p items =
    items_of-append before ((number, take p items) ∷ []) ∙ ap (λ t. items_of before ++ t) (append-nil (take p items)) ∙ sym (take-append-add (items_of before) items p)
    ∙ ap (take (length (items_of before) + p)) (ap (λ t. items_of before ++ t) (sym (append-nil items)) ∙ sym (items_of-append before ((number, items) ∷ [])))

module _ (files image : Files) (c : ArchiveContents) (m i v : ℕ) (is : IsArchive files c) (last : HasLast c) (cut : IsCutOf files image last.number m i v) where
  listed : AreVolumes files c.label (last.before ++ (last.number, last.items) ∷ [])
  listed = subst (AreVolumes files c.label) last.are is.volumes

  earlier : (n : ℕ) → n < last.number → image (Volume n) ≡ files (Volume n)
  earlier n low = cut.others n (λ same. omega arith)

  item_count : length (items_of c.volumes) ≡ length (items_of last.before) + length last.items
  item_count =
      ap (λ vs. length (items_of vs)) last.are ∙ ap length (items_of-append last.before ((last.number, last.items) ∷ [])) ∙ length-append (items_of last.before) (last.items ++ [])
      ∙ ap (λ t. length (items_of last.before) + length t) (append-nil last.items)

  -- a last volume of these first items
  part_of : (p : ℕ) → IsLastVolume (image (Volume last.number)) c.label last.number (take p last.items) → (length (files (Volume last.number)) ≤ v → length last.items ≤ p) → VolumesPart files image c last v
  part_of p new whole = record {
    volumes = last.before ++ (last.number, take p last.items) ∷ [];
    are = last_replaced files image c.label last.number last.items last.before (take p last.items) listed earlier new;
    others = λ n none.
        let other : n ≢ last.number = λ same. none (subst (Contains (map (λ (w : ℕ × List Item). w.0) (last.before ++ (last.number, take p last.items) ∷ []))) (sym same) (last_listed last.before last.number (take p last.items))) in
        cut.others n other ∙ is.others n (λ has. none (subst (λ (ns : List ℕ). Contains ns n)
        (ap (λ vs. map (λ (w : ℕ × List Item). w.0) vs) last.are ∙ numbers_same last.before last.number last.items (take p last.items)) has));
    q = length (items_of last.before) + p;
    items = items_first last.before last.number p last.items ∙ ap (λ vs. take (length (items_of last.before) + p) (items_of vs)) (sym last.are);
    shape = inr (p, refl);
    whole = λ le. omega (arith, whole le, item_count);
  }

  -- no byte of it
  part_none : v ≡ 0 → VolumesPart files image c last v
  part_none none =
      let gone : image (Volume last.number) ≡ [] = cut.volume ∙ ap (λ n. take n (files (Volume last.number))) none in
      record {
        volumes = last.before;
        are = without_last files image c.label last.number last.items last.before listed earlier;
        others = λ n absent. by n absent (cases_lt n last.number) (cases_lt last.number n) gone;
        q = length (items_of last.before);
        shape = inl refl;
        items = sym (take_at (items_of last.before) (items_of ((last.number, last.items) ∷ [])) (length (items_of last.before)) refl)
            ∙ ap (take (length (items_of last.before))) (sym (items_of-append last.before ((last.number, last.items) ∷ [])) ∙ ap items_of (sym last.are));
        whole = λ le. omega (arith, last_has_bytes (files (Volume last.number)) c.label last.number last.items (last_of files c.label last.number last.items last.before listed));
      }
    where
      absent_before : (n : ℕ) (vs : List (ℕ × List Item)) → n ≢ last.number → (Contains (map (λ (w : ℕ × List Item). w.0) vs) n → ⊥) → Contains (map (λ (w : ℕ × List Item). w.0) (vs ++ (last.number, last.items) ∷ [])) n → ⊥
      absent_before n vs other none has = none_appended n last.number last.items vs other none has.0 has.1 has.2

      other_empty : (n : ℕ) → n ≢ last.number → (Contains (map (λ (w : ℕ × List Item). w.0) last.before) n → ⊥) → image (Volume n) ≡ []
      other_empty n other none =
          cut.others n other ∙ is.others n (λ has. absent_before n last.before other none (subst (λ (vs : List (ℕ × List Item)). Contains (map (λ (w : ℕ × List Item). w.0) vs) n) last.are has))

      by : (n : ℕ) → (Contains (map (λ (w : ℕ × List Item). w.0) last.before) n → ⊥) → (n < last.number) ⊎ (last.number ≤ n) → (last.number < n) ⊎ (n ≤ last.number) → image (Volume last.number) ≡ [] → image (Volume n) ≡ []
      by n none (inl low) other gone = other_empty n (λ same. omega arith) none
      by n none (inr ge) (inl high) gone = other_empty n (λ same. omega arith) none
      by n none (inr ge) (inr le) gone = subst (λ (k : ℕ). image (Volume k) ≡ []) (let e : last.number ≡ n = omega arith in e) gone

  last_part : IsLastVolume (files (Volume last.number)) c.label last.number last.items → VolumesPart files image c last v
  last_part before = ⊎_elim (λ (none : v < 1). part_none (omega arith)) (λ (some : 1 ≤ v). some_part some before) (cases_lt v 1)
    where
      long : 1 ≤ v → 0 < length (files (Volume last.number)) → 0 < length (image (Volume last.number))
      long some bytes = omega (arith, ap length cut.volume, length-take v (files (Volume last.number)))

      some_part : 1 ≤ v → IsLastVolume (files (Volume last.number)) c.label last.number last.items → VolumesPart files image c last v
      some_part some (inl begins) = part_of 0 (inl (long some begins.0, refl, subst (λ t. BeginsLabel t c.label (pos last.number)) (sym cut.volume) (cut_beginning (files (Volume last.number)) c.label (pos last.number) v begins.2)))
          (λ le. omega (arith, ap length begins.1))
      some_part some (inr whole) =
          let size : 132 ≤ length (files (Volume last.number)) = labelled_long IsItem (files (Volume last.number)) c.label (pos last.number) last.items whole.0 whole.2 in
          ⊎_elim (λ (low : v < 132). part_of 0 (inl (long some (omega arith), refl, subst (λ t. BeginsLabel t c.label (pos last.number)) (sym (cut.volume ∙ ap (take v) whole.2.is)) (cut_some_label whole.2.head (frames whole.2.payloads ++ whole.0) c.label (pos last.number) v whole.2.label low)))
          (λ le. omega arith))
          (λ (high : 132 ≤ v). let r : CutTornFile IsItem (files (Volume last.number)) c.label (pos last.number) last.items v = cut_torn_file IsItem (files (Volume last.number)) c.label (pos last.number) last.items whole.0 v whole.2 whole.1 high in
          part_of r.k (inr (r.left, r.is_torn, subst (λ t. LabelledFile IsItem t c.label (pos last.number) (take r.k last.items) r.left) (sym cut.volume) r.holds)) r.whole) (cases_lt v 132)

  -- ---- the whole

  pub first_part : 132 ≤ m → (i < 152) ⊎ ((n : ℕ) × (132 ≤ length (image (Volume n)))) → FirstPart files image c last m i v
  first_part long labelled =
      let meta : CutTornFile IsRecord (files Meta) c.label (negsuc 0) c.records m = cut_torn_file IsRecord (files Meta) c.label (negsuc 0) c.records is.meta.torn m is.meta.holds is.meta.is_torn long in
      let volumes : VolumesPart files image c last v = last_part (last_of files c.label last.number last.items last.before listed) in
      let index : IndexPart (files Index) c i (take meta.k c.records) volumes.volumes = index_part (files Index) c i (take meta.k c.records) volumes.volumes is.index in
      record {
        new = record { label = c.label; records = take meta.k c.records; entries = take index.k c.entries; volumes = volumes.volumes };
        is = record {
          meta = record {
            torn = meta.left;
            is_torn = meta.is_torn;
            holds = subst (λ t. LabelledFile IsRecord t c.label (negsuc 0) (take meta.k c.records) meta.left) (sym cut.meta) meta.holds;
            consistent = consistent_first meta.k c.records is.meta.consistent;
          };
          index = subst (λ t. IsIndex t (record { label = c.label; records = take meta.k c.records; entries = take index.k c.entries; volumes = volumes.volumes })) (sym cut.index) index.is;
          volumes = volumes.are;
          others = volumes.others;
          labelled = ⊎_elim (λ (none : take index.k c.entries ≡ []). inl none)
              (λ (high : 152 ≤ i). ⊎_elim (λ (low : i < 152). absurd (omega arith)) (λ (some : (n : ℕ) × (132 ≤ length (image (Volume n)))). inr some) labelled) index.some;
        };
        label = refl;
        j = meta.k;
        records = refl;
        all_records = meta.whole;
        k = index.k;
        entries = refl;
        all_entries = index.whole;
        q = volumes.q;
        items = volumes.items;
        shape = volumes.shape;
        all_items = volumes.whole;
      }
