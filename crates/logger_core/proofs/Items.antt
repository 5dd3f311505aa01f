-- An archive with one item more behind its last volume.
use Rattle.std.proofs.Common.{◌≡◌, ◌≢◌, ⊎_elim, ℕ, ◌<◌, ◌≤◌, pos, List, [], ◌∷◌, ◌++◌, length, take, sym, ap, ◌∙◌, subst, append_assoc, arith, length-append}
use Rattle.std.specs.List.{AllByRecursion}
use Rattle.std.proofs.lemmas.List.{append-nil, take-append-le}
use Rattle.pcp_base.specs.declared.file.FileId.TheVariants.{Volume}
use Rattle.pcp_base.specs.declared.result.Item.{Item}
use Rattle.pcp_model.specs.declared.records.Entry.{Entry}
use Rattle.pcp_model.specs.Archive.{ArchiveContents, ArchiveReading, LabelledFile, AreVolumes, IsArchive, items_of}
use Rattle.pcp_model.specs.Disk.{Files}
use Rattle.pcp_model.specs.Frame.{IsFrameable, frame, frames}
use Rattle.pcp_model.specs.Laws.{EndsWhole}
use Rattle.pcp_model.specs.Payload.{IsItem, stamp_of}
use Rattle.pcp_model.specs.Sound.{IsBoundary, IsSound, IsSoundEntry, NeverFalls, NoItemAfter, PointsWell}
use Rattle.pcp_model.specs.Written.{with_added}
use Rattle.pcp_model.proofs.Added.{before_last, items_behind, above_listed, added_this, added_other}
use Rattle.pcp_model.proofs.Boundaries.{boundary_of_file, boundary_stays}
use Rattle.pcp_model.proofs.Cuts.{frames-append, read-append}
use Rattle.pcp_model.proofs.Lists.{each-append, each-split, each-map}
use Rattle.pcp_model.proofs.Recovered.{nothing_torn}
use Rattle.logger_core.proofs.Survival.{this_or_other}
use Rattle.pcp_model.proofs.Sound.{labelled_long}

-- stamps still rise where one not before them follows
rises : (items : List Item) (x : Item) → NeverFalls items → NoItemAfter (stamp_of x) items → NeverFalls (items ++ x ∷ [])
rises [] x sorted by = tt
rises (y ∷ []) x sorted by = (by.0, tt)
rises (y ∷ z ∷ items) x sorted by = (sorted.0, rises (z ∷ items) x sorted.1 by.1)

-- a volume above the last one holds nothing
pub above_empty : (files : Files) (c : ArchiveContents) (number : ℕ) → IsArchive files c → EndsWhole files c number → (n : ℕ) → number < n → files (Volume n) ≡ []
above_empty files c number is ends n low =
    let before : AllByRecursion (λ (v : ℕ × List Item). v.0 < number) ends.before = before_last files files c.label number ends.items ends.before (subst (AreVolumes files c.label) ends.are is.volumes) in
    let all : AllByRecursion (λ (v : ℕ × List Item). v.0 < n) c.volumes = subst (AllByRecursion (λ (v : ℕ × List Item). v.0 < n)) (sym ends.are)
    (each-append (λ (v : ℕ × List Item). v.0 < n) ends.before ((number, ends.items) ∷ []) (each-map (λ (v : ℕ × List Item). v.0 < number) (λ (v : ℕ × List Item). v.0 < n) (λ v lt. omega arith) ends.before before) (low, tt)) in
    is.others n (λ has. above_listed n c.volumes all has.0 has.1 has.2)

module _ (files : Files) (c : ArchiveContents) (number : ℕ) (payload : List ℕ) (x : Item) (is : IsArchive files c) (ends : EndsWhole files c number) (fits : IsFrameable payload) (read : IsItem payload x) where
  abbrev added : Files
  added = with_added (Volume number) (frame payload) files

  abbrev pub more_items : ArchiveContents
  more_items = record { label = c.label; records = c.records; entries = c.entries; volumes = ends.before ++ (number, ends.items ++ x ∷ []) ∷ [] }

  listed : AreVolumes files c.label (ends.before ++ (number, ends.items) ∷ [])
  listed = subst (AreVolumes files c.label) ends.are is.volumes

  -- the volume with its record behind it, record by record
  abbrev pub longer_volume : LabelledFile IsItem (added (Volume number)) c.label (pos number) (ends.items ++ x ∷ []) []
  longer_volume = record {
    head = ends.whole.head;
    label = ends.whole.label;
    payloads = ends.whole.payloads ++ payload ∷ [];
    read = read-append IsItem ends.whole.payloads (payload ∷ []) ends.items (x ∷ []) ends.whole.read (fits, read, tt);
    is = longer_text;
  }
    where
      longer_text : (added (Volume number)) ≡ ends.whole.head ++ (frames (ends.whole.payloads ++ payload ∷ []) ++ [])
      longer_text = added_this number (frame payload) files ∙ ap (λ t. t ++ frame payload) (ends.whole.is ∙ ap (λ t. ends.whole.head ++ t) (append-nil (frames ends.whole.payloads))) ∙ append_assoc ends.whole.head (frames ends.whole.payloads) (frame payload)
          ∙ ap (λ t. ends.whole.head ++ t) (ap (λ t. frames ends.whole.payloads ++ t) (sym (append-nil (frame payload))) ∙ sym (frames-append ends.whole.payloads (payload ∷ [])) ∙ sym (append-nil (frames (ends.whole.payloads ++ payload ∷ []))))

  pub items_more : items_of more_items.volumes ≡ items_of c.volumes ++ x ∷ []
  items_more = items_behind ends.before number ends.items (x ∷ []) ∙ ap (λ vs. items_of vs ++ x ∷ []) (sym ends.are)

  -- a volume got bytes behind its own
  grown_file : (n : ℕ) → (more : List ℕ) × (added (Volume n) ≡ files (Volume n) ++ more)
  grown_file n = ⊎_elim
      (λ (e : number ≡ n). (frame payload, subst (λ (m : ℕ). added (Volume m) ≡ files (Volume m) ++ frame payload) e (added_this number (frame payload) files)))
      (λ (other : number ≢ n). ([], added_other number n (frame payload) files (λ e. other (sym e)) ∙ sym (append-nil (files (Volume n))))) (this_or_other number n)

  -- what has bytes had some
  pub had_bytes : (n : ℕ) → 0 < length (added (Volume n)) → 0 < length (files (Volume n))
  had_bytes n some = ⊎_elim
      (λ (same : number ≡ n). subst (λ (m : ℕ). 0 < length (files (Volume m))) same (omega (arith, labelled_long IsItem (files (Volume number)) c.label (pos number) ends.items [] ends.whole)))
      (λ (other : number ≢ n). omega (arith, some, ap length (added_other number n (frame payload) files (λ e. other (sym e))))) (this_or_other number n)

  module _ (e : Entry) (sound : IsSoundEntry files c e) (some : 0 < length (added (Volume e.volume))) where
    had : 0 < length (files (Volume e.volume))
    had = had_bytes e.volume some

    was : PointsWell files c e
    was = sound.points had

    few_before : e.volume ≡ number → was.items ≤ length ends.items
    few_before same = (boundary_of_file IsItem (files (Volume number)) c.label (pos number) ends.items [] e.offset was.items ends.whole nothing_torn (subst (λ (m : ℕ). IsBoundary (files (Volume m)) e.offset was.items) same was.volume)).0

    -- none stands behind the last
    not_behind : number < e.volume → ⊥
    not_behind low = omega (arith, had, ap length (above_empty files c number is ends e.volume low))

    split_before : AllByRecursion (λ (v : ℕ × List Item). v.0 ≡ e.volume → NoItemAfter e.stamp (take was.items v.1)) ends.before × AllByRecursion (λ (v : ℕ × List Item). v.0 ≡ e.volume → NoItemAfter e.stamp (take was.items v.1)) ((number, ends.items) ∷ [])
    split_before = each-split (λ (v : ℕ × List Item). v.0 ≡ e.volume → NoItemAfter e.stamp (take was.items v.1)) ends.before ((number, ends.items) ∷ []) (subst (AllByRecursion (λ (v : ℕ × List Item). v.0 ≡ e.volume → NoItemAfter e.stamp (take was.items v.1))) ends.are was.before)

    split_earlier : AllByRecursion (λ (v : ℕ × List Item). v.0 < e.volume → NoItemAfter e.stamp v.1) ends.before × AllByRecursion (λ (v : ℕ × List Item). v.0 < e.volume → NoItemAfter e.stamp v.1) ((number, ends.items) ∷ [])
    split_earlier = each-split (λ (v : ℕ × List Item). v.0 < e.volume → NoItemAfter e.stamp v.1) ends.before ((number, ends.items) ∷ []) (subst (AllByRecursion (λ (v : ℕ × List Item). v.0 < e.volume → NoItemAfter e.stamp v.1)) ends.are was.earlier)

    still_points_well : PointsWell added more_items e
    still_points_well = record {
      records = was.records;
      meta = was.meta;
      domains = was.domains;
      items = was.items;
      volume = subst (λ t. IsBoundary t e.offset was.items) (sym (grown_file e.volume).1) (boundary_stays (files (Volume e.volume)) (grown_file e.volume).0 e.offset was.items was.volume);
      before = each-append (λ (v : ℕ × List Item). v.0 ≡ e.volume → NoItemAfter e.stamp (take was.items v.1)) ends.before ((number, ends.items ++ x ∷ []) ∷ []) split_before.0
          ((λ same. subst (NoItemAfter e.stamp) (sym (take-append-le was.items ends.items (x ∷ []) (few_before (sym same)))) (split_before.1.0 same)), tt);
      earlier = each-append (λ (v : ℕ × List Item). v.0 < e.volume → NoItemAfter e.stamp v.1) ends.before ((number, ends.items ++ x ∷ []) ∷ []) split_earlier.0 ((λ low. absurd (not_behind low)), tt);
    }

  entry_still_sound : (e : Entry) → IsSoundEntry files c e → IsSoundEntry added more_items e
  entry_still_sound e s = record {
    not_above = (s.not_above.0, omega (arith, s.not_above.1, ap length (grown_file s.not_above.0).1, length-append (files (Volume s.not_above.0)) (grown_file s.not_above.0).0), s.not_above.2);
    points = λ some. still_points_well e s some;
  }

  pub sound_with_item : NoItemAfter (stamp_of x) (items_of c.volumes) → IsSound files (ArchiveReading.archive c) → IsSound added (ArchiveReading.archive more_items)
  sound_with_item by s = (
    subst NeverFalls (sym items_more) (rises (items_of c.volumes) x s.0 by),
    each-map (IsSoundEntry files c) (IsSoundEntry added more_items) entry_still_sound c.entries s.1,
  )
