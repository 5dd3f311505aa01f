-- Files are loaded as one archive, or not at all.
use Rattle.std.proofs.Common.{◌≡◌, ◌⊎◌, inl, inr, ⊎_elim, ℕ, pos, negsuc, List, [], ◌∷◌, length, take, refl, sym, ap, ◌∙◌, subst, arith, Option, Some, None}
use Rattle.std.specs.Prelude.{Contains}
use Rattle.std.specs.List.{AllByRecursion}
use Rattle.std.proofs.lemmas.List.{length-take}
use Rattle.std.proofs.lemmas.List.Elements.{All-contains, All-from_recursion}
use Rattle.pcp_base.specs.declared.file.FileId.{FileId}
use Rattle.pcp_base.specs.declared.file.FileId.TheVariants.{Meta, Index, Volume}
use Rattle.pcp_model.specs.declared.records.MetaRecord.{MetaRecord}
use Rattle.pcp_model.specs.declared.records.Entry.{Entry}
use Rattle.pcp_model.specs.Disk.{Files}
use Rattle.pcp_model.specs.LabelFields.{LabelFields}
use Rattle.pcp_model.specs.Labels.{BeginsLabel}
use Rattle.pcp_model.specs.Records.{IsRecord}
use Rattle.pcp_model.proofs.Cuts.{length_of_label}
use Rattle.pcp_model.proofs.Lists.{same-cons}
use Rattle.pcp_model.proofs.OneRecord.{one_record}
use Rattle.pcp_model.proofs.Unique.{one_file, SameFile}
use Rattle.archive_loading.specs.Loaded.{Loaded, IsOver, IsKeptOf, IsLabelledArchive, IsLabelled, IsHeaded, IsTop, contents_with, numbers}
use Rattle.archive_loading.specs.LoadFaults.{IndexStops, VolumeStops, NotLoaded}
use Rattle.archive_reader.specs.Once.{LoadsOnce}
use Rattle.archive_reader.proofs.Archives.{one_numbers, from_zero, kept_rise, kept_filled}
use Rattle.archive_reader.proofs.Loadable.{whole_stops, part_stops, too_high, meta_good, same_label, index_good, same_entries, no_meta, stopped_loads}

-- ---- one archive

pub record SameKept (label other : Option LabelFields) (records others : List MetaRecord) (entries more : List Entry) (vs ws : List (ℕ × ℕ)) : Type 0 where
  pub label_is : label ≡ other
  pub records_are : records ≡ others
  pub entries_are : entries ≡ more
  pub volumes_are : vs ≡ ws

module _ (files : Files) where
  -- the lengths are those of the files
  same_volumes : (l m : LabelFields) (vs ws : List (ℕ × ℕ)) → AllByRecursion (IsHeaded files l) vs → AllByRecursion (IsHeaded files m) ws → numbers vs ≡ numbers ws → vs ≡ ws
  same_volumes l m [] [] headed also same = refl
  same_volumes l m [] (w ∷ ws) headed also same = absurd (omega (arith, ap length same))
  same_volumes l m (v ∷ vs) [] headed also same = absurd (omega (arith, ap length same))
  same_volumes l m (v ∷ vs) (w ∷ ws) headed also same =
      let number : v.0 ≡ w.0 = first same in
      let size : v.1 ≡ w.1 = headed.0.0 ∙ ap (λ n. length (files (Volume n))) number ∙ sym also.0.0 in
      same-cons v w vs ws (pair v w number size) (same_volumes l m vs ws headed.1 also.1 (rest same))
    where
      first : numbers (v ∷ vs) ≡ numbers (w ∷ ws) → v.0 ≡ w.0
      first same = cc

      rest : numbers (v ∷ vs) ≡ numbers (w ∷ ws) → numbers vs ≡ numbers ws
      rest same = cc

      pair : (v w : ℕ × ℕ) → v.0 ≡ w.0 → v.1 ≡ w.1 → v ≡ w
      pair v w one other = ap (λ n. (n, v.1)) one ∙ ap (λ k. (w.0, k)) other

  same_archive : (l m : LabelFields) (records others : List MetaRecord) (entries more : List Entry) (vs ws : List (ℕ × ℕ)) → IsLabelledArchive files l records entries vs → IsLabelledArchive files m others more ws
      → SameKept (Some l) (Some m) records others entries more vs ws
  same_archive l m records others entries more vs ws p q =
      let same : SameFile l m (negsuc 0) (negsuc 0) records others p.meta.torn q.meta.torn =
      one_file IsRecord one_record (files Meta) l m (negsuc 0) (negsuc 0) records others p.meta.torn q.meta.torn p.meta.holds q.meta.holds p.meta.is_torn q.meta.is_torn in
      let told : numbers vs ≡ numbers ws =
      one_numbers files 0 (numbers vs) (numbers ws) (kept_rise vs p.labelled.1) (kept_rise ws q.labelled.1) (kept_filled files l vs p.labelled.0) (kept_filled files m ws q.labelled.0) (from_zero (numbers vs))
      (from_zero (numbers ws)) (λ n le none. p.others n none) (λ n le none. q.others n none) in
      record {
        label_is = ap (λ x. Some x) same.label;
        records_are = same.values;
        entries_are = same_entries (files Index) (contents_with l [] entries []) m more p.index q.index;
        volumes_are = same_volumes l m vs ws p.labelled.0 q.labelled.0 told;
      }

  same_kept : (label other : Option LabelFields) (records others : List MetaRecord) (entries more : List Entry) (vs ws : List (ℕ × ℕ)) → IsKeptOf files label records entries vs → IsKeptOf files other others more ws
      → SameKept label other records others entries more vs ws
  same_kept None None records others entries more vs ws p q = record { label_is = refl; records_are = p.1 ∙ sym q.1; entries_are = p.2 ∙ sym q.2; volumes_are = p.3 ∙ sym q.3 }
  same_kept (Some l) (Some m) records others entries more vs ws p q = same_archive l m records others entries more vs ws p q
  same_kept None (Some m) records others entries more vs ws p q = absurd (no_meta files p.0 m others q.meta)
  same_kept (Some l) None records others entries more vs ws p q = absurd (no_meta files q.0 l records p.meta)

  abbrev made : Option LabelFields → List MetaRecord → List Entry → List (ℕ × ℕ) → Loaded
  made label records entries vs = record { label = label; records = records; entries = entries; volumes = vs }

  kept_once : (r s : Loaded) → IsOver files r → IsOver files s → r ≡ s
  kept_once r s p q =
      let same : SameKept r.label s.label r.records s.records r.entries s.entries r.volumes s.volumes = same_kept r.label s.label r.records s.records r.entries s.entries r.volumes s.volumes p q in
      ap (λ x. made x r.records r.entries r.volumes) same.label_is ∙ ap (λ x. made s.label x r.entries r.volumes) same.records_are ∙ ap (λ x. made s.label s.records x r.volumes) same.entries_are
      ∙ ap (λ x. made s.label s.records s.entries x) same.volumes_are

-- ---- or none

-- a volume begins with its label, or is the last one and ends within it
abbrev IsHeadedAs : Files → LabelFields → ℕ → Type 0
IsHeadedAs files l n = IsLabelled (files (Volume n)) l n ⊎ (BeginsLabel (files (Volume n)) l (pos n) × IsTop files n)

headed_numbers : (files : Files) (l : LabelFields) (vs : List (ℕ × ℕ)) → AllByRecursion (IsHeaded files l) vs → AllByRecursion (IsHeadedAs files l) (numbers vs)
headed_numbers files l [] headed = tt
headed_numbers files l (v ∷ vs) headed = (headed.0.2, headed_numbers files l vs headed.1)

module _ (files : Files) (l : LabelFields) where
  volume_apart : (n offset : ℕ) → IsHeadedAs files l n → VolumeStops files l n offset → ⊥
  volume_apart n offset (inl label) (some, inl stops) = whole_stops (take 132 (files (Volume n))) l (pos n) offset label stops
  volume_apart n offset (inl label) (some, inr (inl (same, begins, followed))) =
      omega (arith, begins.short, length_of_label (take 132 (files (Volume n))) l (pos n) label, length-take 132 (files (Volume n)))
  volume_apart n offset (inl label) (some, inr (inr (high, same))) = too_high n label.number_fits high
  volume_apart n offset (inr (begins, top)) (some, inl stops) = part_stops (files (Volume n)) l (pos n) offset begins stops
  volume_apart n offset (inr (begins, top)) (some, inr (inl (same, again, (k, lt, more)))) = more (top k lt)
  volume_apart n offset (inr (begins, top)) (some, inr (inr (high, same))) = too_high n begins.label.number_fits high

  module _ (records : List MetaRecord) (entries : List Entry) (vs : List (ℕ × ℕ)) (kept : IsLabelledArchive files l records entries vs) where
    archive_apart : (file : FileId) (offset : ℕ) → NotLoaded files file offset → ⊥
    archive_apart Meta offset stops = meta_good files (contents_with l records [] []) kept.meta offset stops
    archive_apart Index offset (inl (m, others, meta, stops)) =
        let label : l ≡ m = same_label files (contents_with l records [] []) kept.meta m others meta in
        index_good (files Index) (contents_with l [] entries []) offset kept.index (subst (λ x. IndexStops (files Index) x offset) (sym label) stops)
    archive_apart Index offset (inr (same, m, others, more, head, some, short)) =
        ⊎_elim (λ (none : entries ≡ []). some (sym (same_entries (files Index) (contents_with l [] entries []) m more kept.index head.index) ∙ none)) (λ long. omega (arith, short long.0, long.1)) kept.beside
    archive_apart (Volume n) offset (m, others, more, head, below, stops) =
        let label : l ≡ m = same_label files (contents_with l records [] []) kept.meta m others head.meta in
        let here : VolumeStops files l n offset = subst (λ x. VolumeStops files x n offset) (sym label) stops in
        let none : Contains (numbers vs) n → ⊥ =
        λ there. volume_apart n offset (All-contains (IsHeadedAs files l) (numbers vs) n (All-from_recursion (IsHeadedAs files l) (numbers vs) (headed_numbers files l vs kept.labelled.0)) there) here in
        omega (arith, here.0, ap length (kept.others n none))

kept_apart : (files : Files) (label : Option LabelFields) (records : List MetaRecord) (entries : List Entry) (vs : List (ℕ × ℕ)) (file : FileId) (offset : ℕ) → IsKeptOf files label records entries vs → NotLoaded files file offset → ⊥
kept_apart files None records entries vs file offset kept stops = stopped_loads files kept.0 file offset stops
kept_apart files (Some l) records entries vs file offset kept stops = archive_apart files l records entries vs kept file offset stops

pub load_answers_once : (files : Files) → LoadsOnce files
load_answers_once files = record {
  kept = λ r s. kept_once files r s;
  apart = λ r file offset. kept_apart files r.label r.records r.entries r.volumes file offset;
}
