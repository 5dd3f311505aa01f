-- Whatever a crash leaves of what a logger keeps.
use Rattle.std.proofs.Common.{zero, suc, ◌≡◌, ◌≢◌, ◌⊎◌, inl, inr, ℕ, ℤ, ◌+◌, ◌-◌, ◌<◌, ◌≤◌, pos, negsuc, List, [], ◌∷◌, ◌++◌, length, take, drop, map, refl, sym, ap, ◌∙◌, subst, append_assoc, arith, length-append, length-take, ⊎_elim}
use Rattle.std.specs.Prelude.{Contains, slice_index_or}
use Rattle.std.proofs.lemmas.Bool.{cases_lt}
use Rattle.std.specs.List.{AllByRecursion}
use Rattle.std.proofs.Math.Seq.{take-append-add, take-nil}
use Rattle.std.proofs.lemmas.List.{append-nil, take-append-drop, take_at}
use Rattle.pcp_base.specs.declared.file.FileId.TheVariants.{Meta, Index, Volume}
use Rattle.pcp_base.specs.declared.result.Item.{Item}
use Rattle.pcp_model.specs.declared.records.Entry.{Entry}
use Rattle.pcp_model.specs.Archive.{ArchiveContents, ArchiveReading, LabelledFile, IsIndex, IsLastVolume, AreVolumes, items_of}
use Rattle.pcp_model.specs.Described.{Described}
use Rattle.pcp_model.specs.Disk.{Files, Held, Holdings, CrashImage, bytes_of}
use Rattle.pcp_model.specs.Frame.{IsTorn, IsFrameable, frames}
use Rattle.pcp_model.specs.LabelFields.{LabelFields}
use Rattle.pcp_model.specs.Laws.{HasLast, IsCutOf, FirstPart, IsKeptBy}
use Rattle.pcp_model.specs.Payload.{IsItem}
use Rattle.pcp_model.specs.Records.{IsRecord, entries}
use Rattle.pcp_model.specs.Sound.{IsSound}
use Rattle.pcp_model.proofs.Added.{before_last, items_of-append}
use Rattle.pcp_model.proofs.Boundaries.{front_lists}
use Rattle.pcp_model.proofs.CutArchive.{first_part, last_of}
use Rattle.pcp_model.proofs.CutSound.{sound_part}
use Rattle.pcp_model.proofs.Cuts.{length_of_label, frameable, as_many, frames-append}
use Rattle.pcp_model.proofs.Lists.{each-first, each-map}
use Rattle.pcp_model.proofs.Sound.{labelled_long}
use Rattle.pcp_model.proofs.Unique.{both}
use Rattle.archive_recovery.specs.Laws.{AreLabelled}
use Rattle.logger_core.specs.Keeps.{Start, WasSound, WasDescribed, IsPart, PointsSurely, AreSure, Keeps, end_of}
use Rattle.logger_core.specs.Laws.{Survives}

-- ---- one file

-- what a crash leaves of a part
pub record CutPart (h : Held) (whole b : List ℕ) : Type 0 where
  pub m : ℕ
  pub sure : length h.sure ≤ m
  pub within : m ≤ length whole
  pub is : b ≡ take m whole

pub cut_part : (h : Held) (whole b : List ℕ) → IsPart h whole → (n : ℕ) → b ≡ h.sure ++ take n h.rest → CutPart h whole b
cut_part h whole b part n left = record {
  m = length h.sure + length (take n h.rest);
  sure = omega arith;
  within = omega (arith, ap length part.is, length-append (bytes_of h) part.more, length-append h.sure h.rest, length-take n h.rest);
  is = left ∙ sym (take_at (h.sure ++ take n h.rest) (drop_of n) (length h.sure + length (take n h.rest)) (length-append h.sure (take n h.rest)))
      ∙ ap (take (length h.sure + length (take n h.rest))) (append_assoc h.sure (take n h.rest) (drop_of n) ∙ ap (λ t. h.sure ++ t) (sym (append_assoc (take n h.rest) (drop n h.rest) part.more) ∙ ap (λ t. t ++ part.more) (take-append-drop n h.rest)) ∙ sym (append_assoc h.sure h.rest part.more) ∙ part.is);
}
  where
    drop_of : ℕ → List ℕ
    drop_of k = drop k h.rest ++ part.more

-- records of a file that end within a cut are among what is left
module _ {X : Type 0} (R : List ℕ → X → Type 0) (bytes : List ℕ) (l : LabelFields) (number : ℤ) (values : List X) (h : LabelledFile R bytes l number values []) where
  front_of : (k m : ℕ) → end_of k h.payloads ≤ m → (behind : List ℕ) × (take m bytes ≡ h.head ++ (frames (take k h.payloads) ++ behind))
  front_of k m within =
      let head : length h.head ≡ 132 = length_of_label h.head l number h.label in
      let parts : bytes ≡ (h.head ++ frames (take k h.payloads)) ++ frames (drop k h.payloads) = h.is ∙ ap (λ t. h.head ++ t) (append-nil (frames h.payloads) ∙ ap frames (sym (take-append-drop k h.payloads)) ∙ frames-append (take k h.payloads) (drop k h.payloads))
      ∙ sym (append_assoc h.head (frames (take k h.payloads)) (frames (drop k h.payloads))) in
      let size : length (h.head ++ frames (take k h.payloads)) ≡ end_of k h.payloads = omega (arith, length-append h.head (frames (take k h.payloads))) in (
        take (m - end_of k h.payloads) (frames (drop k h.payloads)),
        ap (take m) parts ∙ ap (λ n. take n ((h.head ++ frames (take k h.payloads)) ++ frames (drop k h.payloads))) (let e : m ≡ length (h.head ++ frames (take k h.payloads)) + (m - end_of k h.payloads) = omega arith in e)
            ∙ take-append-add (h.head ++ frames (take k h.payloads)) (frames (drop k h.payloads)) (m - end_of k h.payloads) ∙ append_assoc h.head (frames (take k h.payloads)) (take (m - end_of k h.payloads) (frames (drop k h.payloads))),
      )

  still_there : (k m : ℕ) → k ≤ length h.payloads → end_of k h.payloads ≤ m → (torn : List ℕ) (left : List X) → IsTorn torn → LabelledFile R (take m bytes) l number left torn → k ≤ length left
  still_there k m few within torn left is_torn held =
      let front : (behind : List ℕ) × (take m bytes ≡ h.head ++ (frames (take k h.payloads) ++ behind)) = front_of k m within in
      let same : frames (take k h.payloads) ++ front.0 ≡ frames held.payloads ++ torn =
      (both h.head held.head (frames (take k h.payloads) ++ front.0) (frames held.payloads ++ torn) (length_of_label h.head l number h.label ∙ sym (length_of_label held.head l number held.label)) (sym front.1 ∙ held.is)).1 in
      let lists : (take k h.payloads ≡ take (length (take k h.payloads)) held.payloads) × (length (take k h.payloads) ≤ length held.payloads) =
      front_lists (take k h.payloads) held.payloads front.0 torn (each-first IsFrameable k h.payloads (frameable R h.payloads values h.read)) (frameable R held.payloads left held.read) is_torn same in
      omega (arith, lists.1, length-take k h.payloads, as_many R held.payloads left held.read)

pub this_or_other : (n m : ℕ) → (n ≡ m) ⊎ (n ≢ m)
this_or_other n m = ⊎_elim (λ (lt : n < m). inr (λ e. omega arith)) (λ (ge : m ≤ n). ⊎_elim (λ (gt : m < n). inr (λ e. omega arith)) (λ (le : n ≤ m). inl (omega arith)) (cases_lt m n)) (cases_lt n m)

none_below : (n : ℕ) (vs : List (ℕ × List Item)) → AllByRecursion (λ (v : ℕ × List Item). v.0 < n) vs → (i : ℕ) → i < length (map (λ (v : ℕ × List Item). v.0) vs) → slice_index_or (map (λ (v : ℕ × List Item). v.0) vs) i n ≡ n → ⊥
none_below n [] all i h is = omega arith
none_below n (v ∷ vs) all zero h is = let e : v.0 ≡ n = is in omega (arith, all.0)
none_below n (v ∷ vs) all (suc i) h is = none_below n vs all.1 i (omega arith) is

-- ---- the whole

module _ (s : Start) (files : Files) (c : ArchiveContents) (number known acknowledged : ℕ) (held : Holdings) (image : Files) (k : Keeps s files c number known acknowledged held) (crash : CrashImage held image) where
  meta_part : CutPart (held Meta) (files Meta) (image Meta)
  meta_part = cut_part (held Meta) (files Meta) (image Meta) k.meta (crash Meta).0 (crash Meta).1

  index_part : CutPart (held Index) (files Index) (image Index)
  index_part = cut_part (held Index) (files Index) (image Index) k.index (crash Index).0 (crash Index).1

  volume_part : CutPart (held (Volume number)) (files (Volume number)) (image (Volume number))
  volume_part = cut_part (held (Volume number)) (files (Volume number)) (image (Volume number)) k.volume (crash (Volume number)).0 (crash (Volume number)).1

  abbrev last : HasLast c
  last = record { before = k.last.before; number = number; items = k.last.items; are = k.last.are }

  other_same : (n : ℕ) → n ≢ number → image (Volume n) ≡ files (Volume n)
  other_same n other =
      (crash (Volume n)).1 ∙ ap (λ (h : Held). h.sure ++ take (crash (Volume n)).0 h.rest) (k.others n other) ∙ ap (λ t. files (Volume n) ++ t) (take-nil (crash (Volume n)).0) ∙ append-nil (files (Volume n))

  cut : IsCutOf files image number meta_part.m index_part.m volume_part.m
  cut = record { meta = meta_part.is; index = index_part.is; volume = volume_part.is; others = other_same }

  sure_is_left : (n : ℕ) → length (held (Volume n)).sure ≤ length (image (Volume n))
  sure_is_left n = omega (arith, ap length (crash (Volume n)).1, length-append (held (Volume n)).sure (take (crash (Volume n)).0 (held (Volume n)).rest))

  -- an index with an entry stands beside a volume whose label is left
  by_entries : (es : List Entry) → c.entries ≡ es → (index_part.m < 152) ⊎ ((n : ℕ) × (132 ≤ length (image (Volume n))))
  by_entries [] none = inl (no_entry k.is.index)
    where
      no_entry : IsIndex (files Index) c → index_part.m < 152
      no_entry (inl begins) = let short : length (files Index) < 132 = begins.1.short in omega (arith, index_part.within)
      no_entry (inr has) =
          let size : length (files Index) ≡ length has.head + length (entries c.entries ++ has.rest) = ap length has.is ∙ length-append has.head (entries c.entries ++ has.rest) in
          let rest : length (entries c.entries ++ has.rest) ≡ length has.rest = ap (λ es. length (entries es ++ has.rest)) none in
          omega (arith, index_part.within, length_of_label has.head c.label (negsuc 1) has.label, has.short)
  by_entries (e ∷ es) some =
      ⊎_elim (λ (none : c.entries ≡ []). absurd (omega (arith, ap length (sym some ∙ none)))) (λ (label : (n : ℕ) × (132 ≤ length (held (Volume n)).sure)). inr (label.0, omega (arith, label.1, sure_is_left label.0))) k.labelled

  left : FirstPart files image c last meta_part.m index_part.m volume_part.m
  left = first_part files image c meta_part.m index_part.m volume_part.m k.is last cut (omega (arith, k.sure, meta_part.sure)) (by_entries c.entries refl)

  -- ---- Meta's records

  known_left : known ≤ left.j
  known_left =
      let holds : LabelledFile IsRecord (take meta_part.m (files Meta)) c.label (negsuc 0) left.new.records left.is.meta.torn =
      subst (λ l. LabelledFile IsRecord (take meta_part.m (files Meta)) l (negsuc 0) left.new.records left.is.meta.torn) left.label
      (subst (λ t. LabelledFile IsRecord t left.new.label (negsuc 0) left.new.records left.is.meta.torn) meta_part.is left.is.meta.holds) in
      let many : known ≤ length left.new.records = still_there IsRecord (files Meta) c.label (negsuc 0) c.records k.whole known meta_part.m (omega (arith, k.few, as_many IsRecord k.whole.payloads c.records k.whole.read)) (omega (arith, k.sure, meta_part.sure))
      left.is.meta.torn left.new.records left.is.meta.is_torn holds in
      omega (arith, many, ap length left.records, length-take left.j c.records)

  still_described : AllByRecursion (λ x. WasDescribed s x → Described left.new.records x) (items_of left.new.volumes)
  still_described =
      subst (AllByRecursion (λ x. WasDescribed s x → Described left.new.records x)) (sym left.items) (each-first (λ x. WasDescribed s x → Described left.new.records x) left.q (items_of c.volumes)
      (subst (λ rs. AllByRecursion (λ x. WasDescribed s x → Described rs x) (items_of c.volumes)) (sym left.records) (k.described left.j known_left)))

  -- ---- items

  volumes_left : AreVolumes image c.label left.new.volumes
  volumes_left = subst (λ l. AreVolumes image l left.new.volumes) left.label left.is.volumes

  below : AllByRecursion (λ (v : ℕ × List Item). v.0 < number) k.last.before
  below = before_last files image c.label number k.last.items k.last.before (subst (AreVolumes files c.label) k.last.are k.is.volumes)

  -- a volume with a sure label is listed
  not_gone : 132 ≤ length (held (Volume number)).sure → left.new.volumes ≡ k.last.before → ⊥
  not_gone long gone =
      let empty : image (Volume number) ≡ [] = left.is.others number (λ h. let there : Contains (map (λ (v : ℕ × List Item). v.0) k.last.before) number = subst (λ (vs : List (ℕ × List Item)). Contains (map (λ (v : ℕ × List Item). v.0) vs) number) gone h in
      none_below number k.last.before below there.0 there.1 there.2) in
      omega (arith, ap length empty, sure_is_left number)

  module _ (p : ℕ) (shape : left.new.volumes ≡ k.last.before ++ (number, take p k.last.items) ∷ []) where
    count_left : length (items_of left.new.volumes) ≡ length (items_of k.last.before) + length (take p k.last.items)
    count_left = ap (λ vs. length (items_of vs)) shape ∙ ap length (items_of-append k.last.before ((number, take p k.last.items) ∷ [])) ∙ length-append (items_of k.last.before) (take p k.last.items ++ [])
        ∙ ap (λ t. length (items_of k.last.before) + length t) (append-nil (take p k.last.items))

    items_left : (i : ℕ) → i ≤ length k.last.whole.payloads → end_of i k.last.whole.payloads ≤ length (held (Volume number)).sure → IsLastVolume (image (Volume number)) c.label number (take p k.last.items) → i ≤ length (take p k.last.items)
    items_left i few within (inl begins) = let short : length (image (Volume number)) < 132 = begins.2.short in absurd (omega (arith, sure_is_left number))
    items_left i few within (inr whole) =
        still_there IsItem (files (Volume number)) c.label (pos number) k.last.items k.last.whole i volume_part.m few (omega (arith, volume_part.sure)) whole.0 (take p k.last.items) whole.1
        (subst (λ t. LabelledFile IsItem t c.label (pos number) (take p k.last.items) whole.0) volume_part.is whole.2)

    last_left : IsLastVolume (image (Volume number)) c.label number (take p k.last.items)
    last_left = last_of image c.label number (take p k.last.items) k.last.before (subst (AreVolumes image c.label) shape volumes_left)

  still_enough : acknowledged ≤ length (items_of left.new.volumes)
  still_enough = by k.items left.shape
    where
      by : AreSure (length (items_of k.last.before)) k.last.whole.payloads (length (held (Volume number)).sure) acknowledged → (left.new.volumes ≡ k.last.before) ⊎ ((p : ℕ) × (left.new.volumes ≡ k.last.before ++ (number, take p k.last.items) ∷ [])) → acknowledged ≤ length (items_of left.new.volumes)
      by (inl few) (inl gone) = omega (arith, ap (λ vs. length (items_of vs)) gone)
      by (inl few) (inr some) = omega (arith, count_left some.0 some.1)
      by (inr sure) (inl gone) = absurd (not_gone (omega (arith, sure.2)) gone)
      by (inr sure) (inr some) = omega (arith, sure.3, count_left some.0 some.1, items_left some.0 some.1 sure.0 sure.1 sure.2 (last_left some.0 some.1))

  -- ---- soundness

  -- what has bytes left had some
  had_bytes : (n : ℕ) → 0 < length (image (Volume n)) → 0 < length (files (Volume n))
  had_bytes n some = ⊎_elim
      (λ (e : number ≡ n). subst (λ (m : ℕ). 0 < length (files (Volume m))) e (omega (arith, labelled_long IsItem (files (Volume number)) c.label (pos number) k.last.items [] k.last.whole)))
      (λ (other : number ≢ n). subst (λ t. 0 < length t) (other_same n (λ e. other (sym e))) some) (this_or_other number n)

  kept_entry : (e : Entry) → PointsSurely files held number e → IsKeptBy image number meta_part.m volume_part.m e
  kept_entry e p = record {
    meta = λ some. omega (arith, p.meta (had_bytes e.volume some), meta_part.sure);
    offset = λ same. omega (arith, p.offset same, volume_part.sure);
    not_above = (p.below.0, omega (arith, p.below.1, sure_is_left p.below.0), p.below.2);
  }

  still_sound : WasSound s → IsSound image (ArchiveReading.archive left.new)
  still_sound was = sound_part files image c meta_part.m index_part.m volume_part.m last cut left (k.sound was)
      (subst (AllByRecursion (IsKeptBy image number meta_part.m volume_part.m)) (sym left.entries) (each-first (IsKeptBy image number meta_part.m volume_part.m) left.k c.entries (each-map (PointsSurely files held number) (IsKeptBy image number meta_part.m volume_part.m) kept_entry c.entries (k.points was))))

  still_labelled : WasSound s → AreLabelled image left.new.entries
  still_labelled was = subst (AreLabelled image) (sym left.entries) (each-first (λ (e : Entry). (n : ℕ) × (132 ≤ length (image (Volume n))) × (e.volume ≤ n)) left.k c.entries
      (each-map (PointsSurely files held number) (λ (e : Entry). (n : ℕ) × (132 ≤ length (image (Volume n))) × (e.volume ≤ n)) (λ e p. (p.below.0, omega (arith, p.below.1, sure_is_left p.below.0), p.below.2)) c.entries (k.points was)))

  pub survives : Survives s (items_of c.volumes) acknowledged image
  survives = record { new = left.new; is = left.is; q = left.q; items = left.items; enough = still_enough; described = still_described; sound = still_sound; labelled = still_labelled }
