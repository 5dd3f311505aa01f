-- What is told of the files that recovery leaves.
use Rattle.std.proofs.Common.{zero, suc, ◌≡◌, ◌⊎◌, inl, inr, ⊎_elim, ℕ, pos, negsuc, ◌+◌, ◌<◌, List, [], ◌∷◌, ◌++◌, length, take, map, refl, sym, ap, ◌∙◌, subst, arith, Some}
use Rattle.std.specs.Prelude.{Contains}
use Rattle.std.specs.List.{AllByRecursion}
use Rattle.std.proofs.lemmas.List.{length-append, nil_from_length}
use Rattle.pcp_base.specs.declared.file.FileId.{FileId}
use Rattle.pcp_base.specs.declared.file.FileId.TheVariants.{Meta, Index, Volume}
use Rattle.pcp_base.specs.declared.result.Item.{Item}
use Rattle.pcp_model.specs.Archive.{ArchiveContents, ArchiveReading, IsStoppedCreation, Reads, items_of}
use Rattle.pcp_model.specs.Disk.{Files, Holdings, bytes_of, contents_of}
use Rattle.pcp_model.specs.LabelFields.{LabelFields}
use Rattle.pcp_model.specs.Labels.{label}
use Rattle.pcp_model.specs.Payload.{IsItem}
use Rattle.pcp_model.specs.Recovered.{IsMended, IsRecovered, AreMended, labelled_volumes, or_first_volume, recovered_contents}
use Rattle.pcp_model.specs.Records.{IsRecord}
use Rattle.pcp_model.proofs.Added.{above_listed}
use Rattle.pcp_model.proofs.Lengths.{length-label}
use Rattle.pcp_model.proofs.Lists.{each-map, each-split}
use Rattle.pcp_model.proofs.OneItem.{one_item}
use Rattle.pcp_model.proofs.OneReading.{one_reading}
use Rattle.pcp_model.proofs.OneRecord.{one_record}
use Rattle.pcp_model.proofs.OneRecovery.{one_mended}
use Rattle.pcp_model.proofs.Recovered.{spelled_of, same_items, first_has_none}
use Rattle.pcp_model.proofs.Sound.{labelled_long}
use Rattle.pcp_outside.specs.Devices.{Becomes, cut_to}
use Rattle.archive_loading.specs.Loaded.{contents_with}
use Rattle.archive_recovery.specs.declared.outcome.Archive.{Archive}
use Rattle.archive_recovery.specs.declared.reading.Top.{Top}
use Rattle.archive_recovery.specs.declared.survey.Sighted.{Sighted}
use Rattle.archive_recovery.specs.declared.whole.Damage.{Damage}
use Rattle.archive_recovery.specs.Damage.{Found, AreLengths}
use Rattle.archive_recovery.specs.Halfway.{IsLess, HalfwayFrom}
use Rattle.archive_recovery.specs.Mending.{MayBeCut}
use Rattle.archive_recovery.specs.Stamps.{domain_stamps, entry_stamps, item_stamps, IsLatest}
use Rattle.archive_recovery.specs.Surveys.{IsSighted}
use Rattle.archive_recovery.specs.Told.{IsTold, IsToldEmpty, WasRecovered}
use Rattle.archive_recovery.specs.Volumes.{Ascend, TopIs}
use Rattle.archive_recovery.proofs.Moments.{emptied}
use Rattle.archive_recovery.proofs.Settled.{some_sure, no_bytes}
use Rattle.archive_recovery.proofs.Volumes.{each_mended}

-- ---- the last volume that is left

last_highest : (before : List (ℕ × List Item)) (v : ℕ × List Item) → Ascend (before ++ v ∷ []) → AllByRecursion (λ (w : ℕ × List Item). w.0 < v.0 + 1) (before ++ v ∷ [])
last_highest [] v up = (omega arith, tt)
last_highest (w ∷ before) v up = (
  (let lt : w.0 < v.0 = (each-split (λ (u : ℕ × List Item). w.0 < u.0) before (v ∷ []) up.0).1.0 in omega (arith, lt)),
  last_highest before v up.1,
)

-- nothing more is listed where something is
same_first : (before : List (ℕ × List Item)) (v : ℕ × List Item) → or_first_volume (before ++ v ∷ []) ≡ before ++ v ∷ []
same_first [] v = refl
same_first (w ∷ before) v = refl

pub record LastLeft (left : Files) (top : Top) : Type 0 where
  pub filled : 0 < length (left (Volume top.volume))
  pub above : (n : ℕ) → top.volume < n → left (Volume n) ≡ []
  pub ends : top.length ≡ length (left (Volume top.volume))

module _ (files left : Files) (l : LabelFields) (vs : List (ℕ × List Item)) (top : Top) where
  none_there : (n : ℕ) → 0 < n → (Contains (map (λ (v : ℕ × List Item). v.0) (or_first_volume [])) n → ⊥)
  none_there n up (zero, lt, is) = let e : 0 ≡ n = is in omega (arith, up, e)
  none_there n up (suc k, lt, is) = omega (arith, lt)

  first_left : length (label l (pos 0)) ≡ 132 → top.volume ≡ 0 → top.length ≡ 132 → vs ≡ [] → AreMended files l left vs → ((n : ℕ) → (Contains (map (λ (v : ℕ × List Item). v.0) (or_first_volume vs)) n → ⊥) → left (Volume n) ≡ []) → LastLeft left top
  first_left long first size none mended others =
      let text : left (Volume 0) ≡ label l (pos 0) = subst (λ (ws : List (ℕ × List Item)). AreMended files l left ws) none mended in
      let there : length (left (Volume top.volume)) ≡ 132 = ap (λ n. length (left (Volume n))) first ∙ ap length text ∙ long in
      record {
        filled = omega (arith, there);
        above = λ n lt. others n (subst (λ (ws : List (ℕ × List Item)). Contains (map (λ (v : ℕ × List Item). v.0) (or_first_volume ws)) n → ⊥) (sym none) (none_there n (omega (arith, lt))));
        ends = size ∙ sym there;
      }

  top_left : TopIs files l vs top → Ascend vs → AreMended files l left vs → ((n : ℕ) → (Contains (map (λ (v : ℕ × List Item). v.0) (or_first_volume vs)) n → ⊥) → left (Volume n) ≡ []) → LastLeft left top
  top_left t up mended others =
      let v : ℕ × List Item = (top.volume, t.items) in
      let each = subst (AllByRecursion (λ (w : ℕ × List Item). IsMended IsItem (files (Volume w.0)) l (pos w.0) w.1 (left (Volume w.0)))) t.are (each_mended files files left l files vs mended) in
      let this : IsMended IsItem (files (Volume top.volume)) l (pos top.volume) t.items (left (Volume top.volume)) =
      (each-split (λ (w : ℕ × List Item). IsMended IsItem (files (Volume w.0)) l (pos w.0) w.1 (left (Volume w.0))) t.before (v ∷ []) each).1.0 in
      let same : t.left ≡ left (Volume top.volume) = one_mended IsItem (files (Volume top.volume)) l (pos top.volume) t.items one_item t.left (left (Volume top.volume)) t.mended this in
      let high = last_highest t.before v (subst Ascend t.are up) in
      let listed : or_first_volume vs ≡ t.before ++ v ∷ [] = ap or_first_volume t.are ∙ same_first t.before v in
      record {
        filled = omega (arith, labelled_long IsItem (left (Volume top.volume)) l (pos top.volume) t.items [] this.whole);
        above = λ n lt. others n (λ has.
            let here = subst (λ (ws : List (ℕ × List Item)). Contains (map (λ (w : ℕ × List Item). w.0) ws) n) listed has in
            above_listed n (t.before ++ v ∷ []) (each-map (λ (w : ℕ × List Item). w.0 < top.volume + 1) (λ (w : ℕ × List Item). w.0 < n) (λ w low. omega (arith, low, lt)) (t.before ++ v ∷ []) high) here.0 here.1 here.2);
        ends = t.ends ∙ ap length same;
      }

-- ---- an archive

module _ (files : Files) (s : Sighted) (is : IsSighted files s) where
  abbrev pub c : ArchiveContents
  c = contents_with s.label s.meta s.index is.volumes

  same_scan : items_of (or_first_volume (labelled_volumes files is.volumes)) ≡ items_of is.volumes
  same_scan = first_has_none (labelled_volumes files is.volumes) ∙ same_items files s.label is.volumes is.found.is.volumes

  module _ (left : Files) (r : IsRecovered files c left) where
    label_size : length (label s.label (pos 0)) ≡ 132
    label_size = length-label s.label (pos 0) (spelled_of is.found.is.meta.holds.head s.label (negsuc 0) is.found.is.meta.holds.label).fits

    last_left : LastLeft left s.top
    last_left = ⊎_elim
        (λ none. first_left files left s.label (labelled_volumes files is.volumes) s.top label_size none.2 none.3 none.0 r.volumes r.others)
        (λ t. top_left files left s.label (labelled_volumes files is.volumes) s.top t is.ascend r.volumes r.others)
        is.top_is

    pub told : IsTold left (recovered_contents files c) (record { label = Some s.label; meta = s.meta; meta_length = s.damage.meta.end; index = s.index; volume = s.top.volume; length = s.top.length; items = s.tally.items; last = s.tally.last })
    told = record {
      says = refl;
      records = refl;
      meta_ends = is.found.meta_end ∙ ap length (one_mended IsRecord (files Meta) s.label (negsuc 0) s.meta one_record is.found.left (left Meta) is.found.meta r.meta);
      entries = refl;
      filled = last_left.filled;
      above = last_left.above;
      volume_ends = last_left.ends;
      counted = is.counted ∙ ap length (sym same_scan);
      latest = subst (λ (items : List Item). IsLatest (domain_stamps s.meta ++ entry_stamps s.index ++ item_stamps items) s.tally.last) (sym same_scan) is.latest;
    }

    pub was_recovered : WasRecovered files left (record { label = Some s.label; meta = s.meta; meta_length = s.damage.meta.end; index = s.index; volume = s.top.volume; length = s.top.length; items = s.tally.items; last = s.tally.last })
    was_recovered = record { reading = ArchiveReading.archive c; was = is.found.is; recovered = r; told = told }

  -- it is read in no other way
  pub as_read : (r : ArchiveReading) → Reads files r → (image : Files) → HalfwayFrom files (ArchiveReading.archive c) image → HalfwayFrom files r image
  as_read r reads image h = subst (λ x. HalfwayFrom files x image) (one_reading files (ArchiveReading.archive c) r is.found.is reads) h

-- its labels are spelled so
pub relabelled : (files : Files) (c : ArchiveContents) (d : Damage) (index_label volume_label : List ℕ) → index_label ≡ label c.label (negsuc 1) → volume_label ≡ label c.label (pos 0)
    → Found files c d (label c.label (negsuc 1)) (label c.label (pos 0)) → Found files c d index_label volume_label
relabelled files c d index_label volume_label index volume f = subst (λ t. Found files c d t volume_label) (sym index) (subst (Found files c d (label c.label (negsuc 1))) (sym volume) f)

pub sizes : (held : Holdings) (s : Sighted) → IsSighted (contents_of held) s → AreLengths held s.damage
sizes held s is = record { meta = is.meta_size; index = is.index_size; last = is.last_size }

-- ---- a creation that was stopped

module _ (held new : Holdings) (stopped : IsStoppedCreation (contents_of held)) (cut : Becomes Meta (cut_to 0 (held Meta)) held new) where
  empty_left : (file : FileId) → bytes_of (new file) ≡ []
  empty_left Meta = ap bytes_of (cut.this ∙ emptied (held Meta))
  empty_left Index = ap bytes_of (cut.others Index refl) ∙ stopped.index
  empty_left (Volume n) = ap bytes_of (cut.others (Volume n) refl) ∙ stopped.volumes n

  pub none_unsure : (file : FileId) → (new file).rest ≡ []
  none_unsure file = last (new file).sure (new file).rest (empty_left file)
    where
      last : (xs ys : List ℕ) → xs ++ ys ≡ [] → ys ≡ []
      last xs ys e = nil_from_length ys (omega (arith, ap length e, length-append xs ys))

  pub was_stopped : (a : Archive) → IsToldEmpty a → WasRecovered (contents_of held) (contents_of new) a
  was_stopped a told = record { reading = ArchiveReading.nothing; was = stopped; recovered = empty_left; told = told }

pub less_left : (held : Holdings) → IsStoppedCreation (contents_of held) → (image : Files) → MayBeCut Meta 0 held image → IsLess (contents_of held) image
less_left held stopped image m = record {
  n = (cut_meta m.this).0;
  meta = (cut_meta m.this).1;
  index = m.others Index refl ∙ no_bytes held m.before Index stopped.index m.left;
  volumes = λ k. m.others (Volume k) refl ∙ no_bytes held m.before (Volume k) (stopped.volumes k) m.left;
}
  where
    cut_meta : (image Meta ≡ m.before Meta) ⊎ (image Meta ≡ take 0 (m.before Meta)) → (n : ℕ) × (image Meta ≡ take n (contents_of held Meta))
    cut_meta (inl same) = (length (held Meta).sure + (m.left Meta).0, same ∙ some_sure held m.before Meta m.left)
    cut_meta (inr none) = (0, none)

-- such a creation is read in no other way
pub stopped_less : (held : Holdings) → IsStoppedCreation (contents_of held) → (r : ArchiveReading) → Reads (contents_of held) r → (image : Files) → IsLess (contents_of held) image → HalfwayFrom (contents_of held) r image
stopped_less held stopped r reads image less = subst (λ x. HalfwayFrom (contents_of held) x image) (one_reading (contents_of held) ArchiveReading.nothing r stopped reads) less
