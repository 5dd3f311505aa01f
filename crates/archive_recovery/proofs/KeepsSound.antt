-- Recovery keeps an archive sound, where each entry is of a volume at or below one with its whole label.
use Rattle.std.proofs.Common.{zero, suc, ◌≡◌, ◌≢◌, ◌⊎◌, inl, inr, ⊎_elim, ℕ, ℤ, ◌+◌, ◌<◌, ◌≤◌, pos, negsuc, Bool, List, [], ◌∷◌, ◌++◌, length, take, drop, map, refl, sym, ap, ◌∙◌, subst, arith, length-append}
use Rattle.std.specs.Prelude.{Contains, slice_index_or, if◌then◌else◌}
use Rattle.std.specs.List.{AllByRecursion}
use Rattle.std.proofs.Math.Seq.{take-nil}
use Rattle.std.proofs.lemmas.Bool.{le-ltb}
use Rattle.std.proofs.lemmas.List.{take_at, take-append-drop}
use Rattle.pcp_base.specs.declared.file.FileId.TheVariants.{Meta, Volume}
use Rattle.pcp_base.specs.declared.result.Item.{Item}
use Rattle.pcp_model.specs.declared.records.Entry.{Entry}
use Rattle.pcp_model.specs.Archive.{ArchiveContents, ArchiveReading, LabelledFile, IsArchive}
use Rattle.pcp_model.specs.Disk.{Files}
use Rattle.pcp_model.specs.Frame.{frames}
use Rattle.pcp_model.specs.LabelFields.{LabelFields}
use Rattle.pcp_model.specs.Payload.{IsItem}
use Rattle.pcp_model.specs.Records.{IsRecord}
use Rattle.pcp_model.specs.Recovered.{IsMended, labelled_volumes, or_first_volume, recovered_contents, IsRecovered}
use Rattle.pcp_model.specs.Sound.{IsBoundary, IsSound, IsSoundEntry, NeverFalls, NoItemAfter, PointsWell}
use Rattle.pcp_model.proofs.Boundaries.{boundary_of_file, boundary_survives}
use Rattle.pcp_model.proofs.Cuts.{length_of_label, frames-append}
use Rattle.pcp_model.proofs.OneRecovery.{torn_file}
use Rattle.pcp_model.proofs.Recovered.{each_left, first_has_none, same_items}
use Rattle.pcp_model.proofs.Sound.{labelled_long}
use Rattle.archive_recovery.specs.Laws.{AreLabelled}
use Rattle.archive_recovery.proofs.LastVolume.{this_or_other}
use Rattle.archive_recovery.proofs.Volumes.{each_mended, none_long}

abbrev numbers : List (ℕ × List Item) → List ℕ
numbers vs = map (λ v. v.0) vs

-- a number is listed or not
skip : (n : ℕ) (v : ℕ × List Item) (vs : List (ℕ × List Item)) → (n ≢ v.0) → (Contains (numbers vs) n → ⊥) → (k : ℕ) → k < length (numbers (v ∷ vs)) → slice_index_or (numbers (v ∷ vs)) k n ≡ n → ⊥
skip n v vs other none zero h is = other (sym is)
skip n v vs other none (suc k) h is = none (k, omega arith, is)

is_listed : (n : ℕ) (vs : List (ℕ × List Item)) → Contains (numbers vs) n ⊎ (Contains (numbers vs) n → ⊥)
is_listed n [] = inr (λ c. omega (arith, c.1))
is_listed n (v ∷ vs) = ⊎_elim (λ (e : v.0 ≡ n). inl (0, omega arith, e))
    (λ (other : n ≢ v.0). ⊎_elim (λ (c : Contains (numbers vs) n). inl (suc c.0, omega (arith, c.1), c.2)) (λ (none : Contains (numbers vs) n → ⊥). inr (λ c. skip n v vs other none c.0 c.1 c.2)) (is_listed n vs)) (this_or_other n v.0)

-- records that end within a file end within it once it is mended
module _ {X : Type 0} (R : List ℕ → X → Type 0) (bytes : List ℕ) (l : LabelFields) (number : ℤ) (values : List X) (left : List ℕ) (m : IsMended R bytes l number values left) where
  boundary_mended : (offset count : ℕ) → IsBoundary bytes offset count → IsBoundary left offset count
  boundary_mended offset count b =
      let t : LabelledFile R bytes l number values m.torn = torn_file R bytes l number values left m in
      let own : (count ≤ length values) × (offset ≡ 132 + length (frames (take count t.payloads))) = boundary_of_file R bytes l number values m.torn offset count t m.is_torn b in
      let front : length (frames (take count t.payloads)) ≤ length (frames t.payloads) = omega (arith, ap (λ ps. length (frames ps)) (take-append-drop count t.payloads), ap length (frames-append (take count t.payloads) (drop count t.payloads)), length-append (frames (take count t.payloads)) (frames (drop count t.payloads))) in
      let size : length left ≡ 132 + length (frames t.payloads) = omega (arith, ap length m.is, length-append left m.torn, ap length t.is, length-append t.head (frames t.payloads ++ m.torn), length-append (frames t.payloads) m.torn, length_of_label t.head l number t.label) in
      subst (λ x. IsBoundary x offset count) (ap (take (length left)) m.is ∙ take_at left m.torn (length left) refl) (boundary_survives bytes (length left) offset count (omega (arith, own.1)) b)

module _ (files left : Files) (c : ArchiveContents) (is : IsArchive files c) (r : IsRecovered files c left) where
  abbrev Mended : (ℕ × List Item) → Type 0
  Mended v = IsMended IsItem (files (Volume v.0)) c.label (pos v.0) v.1 (left (Volume v.0))

  all_mended : AllByRecursion Mended (labelled_volumes files c.volumes)
  all_mended = each_mended files files left c.label files (labelled_volumes files c.volumes) r.volumes

  -- a volume with its label keeps it
  long_left : (n : ℕ) → 132 ≤ length (files (Volume n)) → (vs : List (ℕ × List Item)) → ((Contains (numbers vs) n → ⊥) → files (Volume n) ≡ []) → AllByRecursion Mended (labelled_volumes files vs) → 132 ≤ length (left (Volume n))
  long_left n long [] others all = absurd (omega (arith, ap length (others (λ h. omega (arith, h.1)))))
  long_left n long (v ∷ []) others all = ⊎_elim
      (λ (e : v.0 ≡ n). let here : 132 ≤ length (files (Volume v.0)) = subst (λ (m : ℕ). 132 ≤ length (files (Volume m))) (sym e) long in
      let mended : AllByRecursion Mended (v ∷ []) = subst (λ (b : Bool). AllByRecursion Mended (if b then [] else v ∷ [])) (le-ltb (length (files (Volume v.0))) 132 here) all in
      subst (λ (m : ℕ). 132 ≤ length (left (Volume m))) e (labelled_long IsItem (left (Volume v.0)) c.label (pos v.0) v.1 [] mended.0.whole))
      (λ (other : n ≢ v.0). absurd (omega (arith, ap length (others (λ h. skip n v [] other (λ g. omega (arith, g.1)) h.0 h.1 h.2))))) (this_or_other n v.0)
  long_left n long (v ∷ w ∷ vs) others all = ⊎_elim
      (λ (e : v.0 ≡ n). subst (λ (m : ℕ). 132 ≤ length (left (Volume m))) e (labelled_long IsItem (left (Volume v.0)) c.label (pos v.0) v.1 [] all.0.whole))
      (λ (other : n ≢ v.0). long_left n long (w ∷ vs) (λ none. others (λ h. skip n v (w ∷ vs) other none h.0 h.1 h.2)) all.1) (this_or_other n v.0)

  -- what is listed is mended
  find : (n : ℕ) (vs : List (ℕ × List Item)) → AllByRecursion Mended vs → (k : ℕ) → k < length (numbers vs) → slice_index_or (numbers vs) k n ≡ n → (items : List Item) × IsMended IsItem (files (Volume n)) c.label (pos n) items (left (Volume n))
  find n [] all k h is = absurd (omega (arith, h))
  find n (v ∷ vs) all zero h is = subst (λ (m : ℕ). (items : List Item) × IsMended IsItem (files (Volume m)) c.label (pos m) items (left (Volume m))) is (v.1, all.0)
  find n (v ∷ vs) all (suc k) h is = find n vs all.1 k (omega (arith, h)) is

  each_or_first : (P : (ℕ × List Item) → Type 0) (vs : List (ℕ × List Item)) → P (0, []) → AllByRecursion P vs → AllByRecursion P (or_first_volume vs)
  each_or_first P [] first all = (first, tt)
  each_or_first P (v ∷ vs) first all = all

  module _ (e : Entry) (label : (n : ℕ) × (132 ≤ length (files (Volume n))) × (e.volume ≤ n)) (sound : IsSoundEntry files c e) where
    was_listed : (xs : List (ℕ × List Item)) → labelled_volumes files c.volumes ≡ xs → AllByRecursion Mended xs → Contains (numbers (or_first_volume xs)) e.volume → (items : List Item) × IsMended IsItem (files (Volume e.volume)) c.label (pos e.volume) items (left (Volume e.volume))
    was_listed [] none all has = absurd (none_long files c.volumes is.others none label.0 label.1)
    was_listed (v ∷ vs) same all has = find e.volume (v ∷ vs) all has.0 has.1 has.2

    mended_of : 0 < length (left (Volume e.volume)) → (items : List Item) × IsMended IsItem (files (Volume e.volume)) c.label (pos e.volume) items (left (Volume e.volume))
    mended_of some = ⊎_elim (λ (has : Contains (numbers (or_first_volume (labelled_volumes files c.volumes))) e.volume). was_listed (labelled_volumes files c.volumes) refl all_mended has)
        (λ (none : Contains (numbers (or_first_volume (labelled_volumes files c.volumes))) e.volume → ⊥). absurd (omega (arith, some, ap length (r.others e.volume none)))) (is_listed e.volume (or_first_volume (labelled_volumes files c.volumes)))

    points_on : 0 < length (left (Volume e.volume)) → PointsWell left (recovered_contents files c) e
    points_on some =
        let m : (items : List Item) × IsMended IsItem (files (Volume e.volume)) c.label (pos e.volume) items (left (Volume e.volume)) = mended_of some in
        let was : PointsWell files c e = sound.points (omega (arith, some, ap length m.1.is, length-append (left (Volume e.volume)) m.1.torn)) in
        record {
          records = was.records;
          meta = boundary_mended IsRecord (files Meta) c.label (negsuc 0) c.records (left Meta) r.meta e.meta was.records was.meta;
          domains = was.domains;
          items = was.items;
          volume = boundary_mended IsItem (files (Volume e.volume)) c.label (pos e.volume) m.0 (left (Volume e.volume)) m.1 e.offset was.items was.volume;
          before = each_or_first (λ (v : ℕ × List Item). v.0 ≡ e.volume → NoItemAfter e.stamp (take was.items v.1)) (labelled_volumes files c.volumes) (λ same. subst (NoItemAfter e.stamp) (sym (take-nil was.items)) tt)
              (each_left files (λ (v : ℕ × List Item). v.0 ≡ e.volume → NoItemAfter e.stamp (take was.items v.1)) c.volumes was.before);
          earlier = each_or_first (λ (v : ℕ × List Item). v.0 < e.volume → NoItemAfter e.stamp v.1) (labelled_volumes files c.volumes) (λ low. tt) (each_left files (λ (v : ℕ × List Item). v.0 < e.volume → NoItemAfter e.stamp v.1) c.volumes was.earlier);
        }

    -- each sound entry stays so
    pub mended_entry : IsSoundEntry left (recovered_contents files c) e
    mended_entry = record {
      not_above = (label.0, omega (arith, long_left label.0 label.1 c.volumes (is.others label.0) all_mended), label.2);
      points = points_on;
    }

  each_on : (es : List Entry) → AreLabelled files es → AllByRecursion (IsSoundEntry files c) es → AllByRecursion (IsSoundEntry left (recovered_contents files c)) es
  each_on [] labels all = tt
  each_on (e ∷ es) labels all = (mended_entry e labels.0 all.0, each_on es labels.1 all.1)

  pub keeps_sound : IsSound files (ArchiveReading.archive c) → AreLabelled files c.entries → IsSound left (ArchiveReading.archive (recovered_contents files c))
  keeps_sound sound labels = (
    subst NeverFalls (sym (first_has_none (labelled_volumes files c.volumes) ∙ same_items files c.label c.volumes is.volumes)) sound.0,
    each_on c.entries labels sound.1,
  )

pub recovery_keeps_sound : (files left : Files) (c : ArchiveContents) → IsArchive files c → IsSound files (ArchiveReading.archive c) → AreLabelled files c.entries → IsRecovered files c left → IsSound left (ArchiveReading.archive (recovered_contents files c))
recovery_keeps_sound files left c is sound labels r = keeps_sound files left c is r sound labels
