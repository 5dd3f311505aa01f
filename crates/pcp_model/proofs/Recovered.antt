-- What recovery leaves is an archive with the same label, records, entries and items.
use Rattle.std.proofs.Common.{◌≡◌, inl, inr, ℕ, ℤ, ◌+◌, ◌<◌, ◌≤◌, pos, negsuc, Bool, true, false, List, [], ◌∷◌, ◌++◌, length, map, refl, sym, ap, ◌∙◌, subst, arith, length-append, nat_lt}
use Rattle.std.specs.Prelude.{if◌then◌else◌, Contains}
use Rattle.std.specs.Int.{w32}
use Rattle.std.specs.List.{AllByRecursion}
use Rattle.std.proofs.lemmas.Bool.{ltb-true, le-ltb}
use Rattle.std.proofs.lemmas.Int.{fits_signed_from_abs}
use Rattle.std.proofs.lemmas.List.{append-nil}
use Rattle.pcp_base.specs.declared.file.FileId.TheVariants.{Meta, Index, Volume}
use Rattle.pcp_base.specs.declared.result.Item.{Item}
use Rattle.pcp_model.specs.Archive.{ArchiveContents, ArchiveReading, LabelledFile, HasEntries, IsIndex, IsLastVolume, AreVolumes, IsArchive, Reads, items_of, scan, records_in}
use Rattle.pcp_model.specs.Disk.{Files}
use Rattle.pcp_model.specs.Frame.{IsTorn}
use Rattle.pcp_model.specs.LabelFields.{LabelFields}
use Rattle.pcp_model.specs.Labels.{label, HasText, IsLabel}
use Rattle.pcp_model.specs.Payload.{IsItem}
use Rattle.pcp_model.specs.Records.{FitsEntry, entries}
use Rattle.pcp_model.specs.Recovered.{IsMended, IsMendedIndex, labelled_volumes, or_first_volume, recovered_contents, recovered_reading, AreMended, IsRecovered, Recovers}
use Rattle.pcp_model.proofs.Cuts.{SpelledLabel, is_label, length_of_label}
use Rattle.pcp_model.proofs.Lists.{each-map}
use Rattle.pcp_model.proofs.OneReading.{others_above}
use Rattle.pcp_model.proofs.Sound.{labelled_long}

pub nothing_torn : IsTorn []
nothing_torn = inl (omega arith)

-- ---- the label of an archive can be written

pub text_is_short : (width : ℕ) (field text : List ℕ) → HasText (width + 1) field text → length text ≤ width
text_is_short width field text has =
    let size : length field ≡ length text + length (0 ∷ has.ended.0) = ap length has.ended.1 ∙ length-append text (0 ∷ has.ended.0) in
    omega (arith, has.wide)

pub spelled_of : (bytes : List ℕ) (l : LabelFields) (number : ℤ) → IsLabel bytes l number → SpelledLabel l
spelled_of bytes l number is = record {
  pid = is.pid;
  start = is.start;
  host = is.has_host.clean;
  zone = is.has_zone.clean;
  fits = record { host = text_is_short 63 is.host l.host is.has_host; zone = text_is_short 39 is.zone l.zone is.has_zone };
}

-- ---- volumes

-- a property of each volume is one of each that is left
pub each_left : (files : Files) (P : (ℕ × List Item) → Type 0) (vs : List (ℕ × List Item)) → AllByRecursion P vs → AllByRecursion P (labelled_volumes files vs)
each_left files P [] all = tt
each_left files P (v ∷ []) all = by (nat_lt (length (files (Volume v.0))) 132)
  where
    by : (b : Bool) → AllByRecursion P (if b then [] else v ∷ [])
    by true = tt
    by false = all
each_left files P (v ∷ w ∷ vs) all = (all.0, each_left files P (w ∷ vs) all.1)

module _ (files left : Files) (l : LabelFields) where
  abbrev Mended : (ℕ × List Item) → Type 0
  Mended v = IsMended IsItem (files (Volume v.0)) l (pos v.0) v.1 (left (Volume v.0))

  -- mended volumes, whose numbers rise, are volumes
  first_mended : (v : ℕ × List Item) (vs : List (ℕ × List Item)) → Mended v → AllByRecursion (λ (w : ℕ × List Item). v.0 < w.0) vs → AreVolumes left l vs → AreVolumes left l (v ∷ vs)
  first_mended v [] mended above are = inr ([], nothing_torn, mended.whole)
  first_mended v (w ∷ vs) mended above are = (mended.whole, above.0, are)

  mended_are : (vs : List (ℕ × List Item)) → AreVolumes files l vs → AllByRecursion Mended (labelled_volumes files vs) → AreVolumes left l (labelled_volumes files vs)
  mended_are [] are all = tt
  mended_are (v ∷ []) are all = by (nat_lt (length (files (Volume v.0))) 132) all
    where
      by : (b : Bool) → AllByRecursion Mended (if b then [] else v ∷ []) → AreVolumes left l (if b then [] else v ∷ [])
      by true all = tt
      by false all = inr ([], nothing_torn, all.0.whole)
  mended_are (v ∷ w ∷ vs) are all =
      first_mended v (labelled_volumes files (w ∷ vs)) all.0 (each_left files (λ (x : ℕ × List Item). v.0 < x.0) (w ∷ vs) (others_above files l v (w ∷ vs) are)) (mended_are (w ∷ vs) are.2 all.1)

  -- the first one's label alone is the first volume
  first_alone : SpelledLabel l → left (Volume 0) ≡ label l (pos 0) → LabelledFile IsItem (left (Volume 0)) l (pos 0) [] []
  first_alone s is = record { head = label l (pos 0); label = is_label l (pos 0) s (fits_signed_from_abs w32 (pos 0) (omega arith)); payloads = []; read = tt; is = is ∙ sym (append-nil (label l (pos 0))) }

  volumes_are : (vs : List (ℕ × List Item)) → SpelledLabel l → AreVolumes left l vs → AreMended files l left vs → AreVolumes left l (or_first_volume vs)
  volumes_are [] s are mended = inr ([], nothing_torn, first_alone s mended)
  volumes_are (v ∷ vs) s are mended = are

  each_mended : (vs : List (ℕ × List Item)) → AreMended files l left vs → AllByRecursion Mended vs
  each_mended [] mended = tt
  each_mended (v ∷ vs) mended = mended

  some_label : (vs : List (ℕ × List Item)) → SpelledLabel l → AreMended files l left vs → (n : ℕ) × (132 ≤ length (left (Volume n)))
  some_label [] s mended = (0, labelled_long IsItem (left (Volume 0)) l (pos 0) [] [] (first_alone s mended))
  some_label (v ∷ vs) s mended = (v.0, labelled_long IsItem (left (Volume v.0)) l (pos v.0) v.1 [] mended.0.whole)

-- a volume within its label has no item
pub no_item : (bytes : List ℕ) (l : LabelFields) (n : ℕ) (items : List Item) → IsLastVolume bytes l n items → length bytes < 132 → items ≡ []
no_item bytes l n items (inl begins) short = begins.1
no_item bytes l n items (inr whole) short = absurd (omega (arith, labelled_long IsItem bytes l (pos n) items whole.0 whole.2))

pub same_items : (files : Files) (l : LabelFields) (vs : List (ℕ × List Item)) → AreVolumes files l vs → items_of (labelled_volumes files vs) ≡ items_of vs
same_items files l [] are = refl
same_items files l (v ∷ []) are = by (nat_lt (length (files (Volume v.0))) 132) (λ e. ltb-true (length (files (Volume v.0))) 132 e)
  where
    by : (b : Bool) → (b ≡ true → length (files (Volume v.0)) < 132) → items_of (if b then [] else v ∷ []) ≡ items_of (v ∷ [])
    by true short = sym (ap (λ xs. xs ++ []) (no_item (files (Volume v.0)) l v.0 v.1 are (short refl)))
    by false short = refl
same_items files l (v ∷ w ∷ vs) are = ap (λ xs. v.1 ++ xs) (same_items files l (w ∷ vs) are.2)

pub first_has_none : (vs : List (ℕ × List Item)) → items_of (or_first_volume vs) ≡ items_of vs
first_has_none [] = refl
first_has_none (v ∷ vs) = refl

first_once : (vs : List (ℕ × List Item)) → or_first_volume (or_first_volume vs) ≡ or_first_volume vs
first_once [] = refl
first_once (v ∷ vs) = refl

each_long : (left : Files) (l : LabelFields) (vs : List (ℕ × List Item)) → AllByRecursion (Mended left left l) vs → AllByRecursion (λ (v : ℕ × List Item). 132 ≤ length (left (Volume v.0))) vs
each_long left l vs all =
    each-map (Mended left left l) (λ (v : ℕ × List Item). 132 ≤ length (left (Volume v.0))) (λ v mended. labelled_long IsItem (left (Volume v.0)) l (pos v.0) v.1 [] mended.whole) vs all

-- where each volume has its label, all are left
pub labelled_all : (files : Files) (vs : List (ℕ × List Item)) → AllByRecursion (λ (v : ℕ × List Item). 132 ≤ length (files (Volume v.0))) vs → labelled_volumes files vs ≡ vs
labelled_all files [] all = refl
labelled_all files (v ∷ []) all = ap (λ (b : Bool). if b then [] else v ∷ []) (le-ltb (length (files (Volume v.0))) 132 all.0)
labelled_all files (v ∷ w ∷ vs) all = ap (λ xs. v ∷ xs) (labelled_all files (w ∷ vs) all.1)

-- ---- the index

pub no_entry : (bytes : List ℕ) (c : ArchiveContents) → IsIndex bytes c → length bytes < 132 → c.entries ≡ []
no_entry bytes c (inl begins) short = begins.0
no_entry bytes c (inr has) short =
    let size : length bytes ≡ length has.head + length (entries c.entries ++ has.rest) = ap length has.is ∙ length-append has.head (entries c.entries ++ has.rest) in
    absurd (omega (arith, length_of_label has.head c.label (negsuc 1) has.label))

-- the mended index ends with a whole entry, or its label
record EndsWell (left : List ℕ) (d : ArchiveContents) : Type 0 where
  pub has : HasEntries left d
  pub is : left ≡ has.head ++ entries d.entries

index_ends : (bytes left : List ℕ) (c d : ArchiveContents) → d.label ≡ c.label → d.entries ≡ c.entries → SpelledLabel c.label → IsIndex bytes c → IsMendedIndex bytes c left → EndsWell left d
index_ends bytes left c d label_same same s index (inl short) =
    let none : d.entries ≡ [] = same ∙ no_entry bytes c index short.0 in
    let whole : left ≡ label c.label (negsuc 1) ++ entries d.entries = short.1 ∙ sym (append-nil (label c.label (negsuc 1))) ∙ ap (λ es. label c.label (negsuc 1) ++ entries es) (sym none) in
    record {
      has = record {
        head = label c.label (negsuc 1);
        label = subst (λ l. IsLabel (label c.label (negsuc 1)) l (negsuc 1)) (sym label_same) (is_label c.label (negsuc 1) s (fits_signed_from_abs w32 (negsuc 1) (omega arith)));
        fit = subst (AllByRecursion FitsEntry) (sym none) tt;
        rest = [];
        short = omega arith;
        is = whole ∙ ap (λ t. label c.label (negsuc 1) ++ t) (sym (append-nil (entries d.entries)));
      };
      is = whole;
    }
index_ends bytes left c d label_same same s index (inr mended) =
    let has : HasEntries bytes c = mended.0 in
    let whole : left ≡ has.head ++ entries d.entries = mended.1 ∙ ap (λ es. has.head ++ entries es) (sym same) in
    record {
      has = record {
        head = has.head;
        label = subst (λ l. IsLabel has.head l (negsuc 1)) (sym label_same) has.label;
        fit = subst (AllByRecursion FitsEntry) (sym same) has.fit;
        rest = [];
        short = omega arith;
        is = whole ∙ ap (λ t. has.head ++ t) (sym (append-nil (entries d.entries)));
      };
      is = whole;
    }

-- ---- the whole

module _ (files left : Files) (c : ArchiveContents) (is : IsArchive files c) (r : IsRecovered files c left) where
  label_spelled : SpelledLabel c.label
  label_spelled = spelled_of is.meta.holds.head c.label (negsuc 0) is.meta.holds.label

  index_well : EndsWell (left Index) (recovered_contents files c)
  index_well = index_ends (files Index) (left Index) c (recovered_contents files c) refl refl label_spelled is.index r.index

  pub recovered_is : IsArchive left (recovered_contents files c)
  recovered_is = record {
    meta = record { torn = []; is_torn = nothing_torn; holds = r.meta.whole; consistent = is.meta.consistent };
    index = inr index_well.has;
    volumes = volumes_are files left c.label (labelled_volumes files c.volumes) label_spelled
        (mended_are files left c.label c.volumes is.volumes (each_mended files left c.label (labelled_volumes files c.volumes) r.volumes)) r.volumes;
    others = r.others;
    labelled = inr (some_label files left c.label (labelled_volumes files c.volumes) label_spelled r.volumes);
  }

  pub recovered_items : items_of (recovered_contents files c).volumes ≡ items_of c.volumes
  recovered_items = first_has_none (labelled_volumes files c.volumes) ∙ same_items files c.label c.volumes is.volumes

  -- what is recovered and recovered again stays
  volumes_stay : AreMended left c.label left (or_first_volume (labelled_volumes files c.volumes))
  volumes_stay = stay (labelled_volumes files c.volumes) label_spelled r.volumes
    where
      stays : (v : ℕ × List Item) → Mended files left c.label v → Mended left left c.label v
      stays v mended = record { torn = []; is_torn = nothing_torn; is = sym (append-nil (left (Volume v.0))); whole = mended.whole }

      stay : (vs : List (ℕ × List Item)) → SpelledLabel c.label → AreMended files c.label left vs → AreMended left c.label left (or_first_volume vs)
      stay [] s mended = (record { torn = []; is_torn = nothing_torn; is = sym (append-nil (left (Volume 0))); whole = first_alone files left c.label s mended }, tt)
      stay (v ∷ vs) s mended = (stays v mended.0, each-map (Mended files left c.label) (Mended left left c.label) stays vs mended.1)

  all_labelled : labelled_volumes left (or_first_volume (labelled_volumes files c.volumes)) ≡ or_first_volume (labelled_volumes files c.volumes)
  all_labelled = labelled_all left (or_first_volume (labelled_volumes files c.volumes)) (each_long left c.label (or_first_volume (labelled_volumes files c.volumes)) (each_mended left left c.label (or_first_volume (labelled_volumes files c.volumes)) volumes_stay))

  pub recovered_stays : IsRecovered left (recovered_contents files c) left
  recovered_stays = record {
    meta = record { torn = []; is_torn = nothing_torn; is = sym (append-nil (left Meta)); whole = r.meta.whole };
    index = inr (index_well.has, index_well.is);
    volumes = subst (AreMended left c.label left) (sym all_labelled) volumes_stay;
    others = λ n none. r.others n (λ has. none (subst (λ (vs : List (ℕ × List Item)). Contains (map (λ (v : ℕ × List Item). v.0) vs) n) (sym (ap or_first_volume all_labelled ∙ first_once (labelled_volumes files c.volumes))) has));
  }

pub recovery_reads : (files left : Files) (r : ArchiveReading) → Reads files r → Recovers files r left → Reads left (recovered_reading files r)
recovery_reads files left ArchiveReading.nothing p q = record { meta = inl (q Meta); index = q Index; volumes = λ n. q (Volume n) }
recovery_reads files left (ArchiveReading.archive c) p q = recovered_is files left c p q

pub recovery_keeps : (files left : Files) (r : ArchiveReading) → Reads files r → Recovers files r left → scan (recovered_reading files r) ≡ scan r
recovery_keeps files left ArchiveReading.nothing p q = refl
recovery_keeps files left (ArchiveReading.archive c) p q = recovered_items files left c p q

pub recovery_keeps_records : (files : Files) (r : ArchiveReading) → records_in (recovered_reading files r) ≡ records_in r
recovery_keeps_records files ArchiveReading.nothing = refl
recovery_keeps_records files (ArchiveReading.archive c) = refl

pub recovery_stays : (files left : Files) (r : ArchiveReading) → Reads files r → Recovers files r left → Recovers left (recovered_reading files r) left
recovery_stays files left ArchiveReading.nothing p q = q
recovery_stays files left (ArchiveReading.archive c) p q = recovered_stays files left c p q

pub recovery_is_kept : (files left : Files) (r : ArchiveReading) → Reads files r → Recovers files r left → Reads left (recovered_reading files r) × (scan (recovered_reading files r) ≡ scan r) × (records_in (recovered_reading files r) ≡ records_in r)
recovery_is_kept files left r p q = (recovery_reads files left r p q, recovery_keeps files left r p q, recovery_keeps_records files r)
