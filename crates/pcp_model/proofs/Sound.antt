-- Sound archives: where record boundaries are, and entries that point to the ends of files.
use Rattle.std.proofs.Common.{◌≡◌, ℕ, ℤ, ◌+◌, ◌<◌, ◌≤◌, List, [], ◌∷◌, ◌++◌, length, take, drop, refl, sym, ap, ◌∙◌, subst, arith, length-append}
use Rattle.std.specs.List.{AllByRecursion}
use Rattle.std.proofs.lemmas.List.{drop_at, append-nil}
use Rattle.pcp_base.specs.Time.{Moment}
use Rattle.pcp_base.specs.declared.file.FileId.TheVariants.{Meta, Volume}
use Rattle.pcp_base.specs.declared.result.Item.{Item}
use Rattle.pcp_model.specs.declared.records.Entry.{Entry}
use Rattle.pcp_model.specs.Archive.{ArchiveContents, ArchiveReading, LabelledFile, IsStoppedCreation, items_of}
use Rattle.pcp_model.specs.Disk.{Files}
use Rattle.pcp_model.specs.Frame.{frames}
use Rattle.pcp_model.specs.LabelFields.{LabelFields}
use Rattle.pcp_model.specs.Payload.{IsItem}
use Rattle.pcp_model.specs.Records.{IsRecord}
use Rattle.pcp_model.specs.Sound.{NeverFalls, IsItemBy, NoItemAfter, IsRecordBy, NoDomainAfter, IsBoundary, IsSoundEntry, IsSound, Sound}
use Rattle.pcp_model.proofs.Cuts.{length_of_label, frameable, as_many}
use Rattle.pcp_model.proofs.Lists.{each-split, each-first, each-map}

-- where the label ends
pub label_boundary : (bytes : List ℕ) → IsBoundary bytes 132 0
label_boundary bytes = record { payloads = []; many = refl; fit = tt; behind = drop 132 bytes; stand = refl; is = refl }

module _ {X : Type 0} (R : List ℕ → X → Type 0) (bytes : List ℕ) (l : LabelFields) (number : ℤ) (values : List X) where
  pub labelled_long : (rest : List ℕ) → LabelledFile R bytes l number values rest → 132 ≤ length bytes
  labelled_long rest h =
      let size : length bytes ≡ length h.head + length (frames h.payloads ++ rest) = ap length h.is ∙ length-append h.head (frames h.payloads ++ rest) in
      omega (arith, length_of_label h.head l number h.label)

  -- where a whole file ends
  pub end_boundary : LabelledFile R bytes l number values [] → IsBoundary bytes (length bytes) (length values)
  end_boundary h =
      let head : length h.head ≡ 132 = length_of_label h.head l number h.label in
      let is : bytes ≡ h.head ++ frames h.payloads = h.is ∙ ap (λ t. h.head ++ t) (append-nil (frames h.payloads)) in
      record {
        payloads = h.payloads;
        many = as_many R h.payloads values h.read;
        fit = frameable R h.payloads values h.read;
        behind = [];
        stand = ap (drop 132) is ∙ drop_at h.head (frames h.payloads) 132 head ∙ sym (append-nil (frames h.payloads));
        is = ap length is ∙ length-append h.head (frames h.payloads) ∙ ap (λ m. m + length (frames h.payloads)) head;
      }

-- what holds of all items holds of those of each volume
pub in_each_volume : (t : Moment) (volumes : List (ℕ × List Item)) → NoItemAfter t (items_of volumes) → AllByRecursion (λ (v : ℕ × List Item). NoItemAfter t v.1) volumes
in_each_volume t [] none = tt
in_each_volume t (v ∷ vs) none =
    let both : NoItemAfter t v.1 × NoItemAfter t (items_of vs) = each-split (IsItemBy t) v.1 (items_of vs) none in
    (both.0, in_each_volume t vs both.1)

-- An entry that points to the ends of Meta and of its volume, both whole, is sound where nothing is stamped after it.
module _ (files : Files) (c : ArchiveContents) (e : Entry) (l : LabelFields) (m n : ℤ) (items : List Item) where
  pub entry_at_ends : LabelledFile IsRecord (files Meta) l m c.records [] → LabelledFile IsItem (files (Volume e.volume)) l n items []
      → e.meta ≡ length (files Meta) → e.offset ≡ length (files (Volume e.volume)) → NoDomainAfter e.stamp c.records → NoItemAfter e.stamp (items_of c.volumes) → IsSoundEntry files c e
  entry_at_ends meta volume at_meta at_volume domains none =
      let each : AllByRecursion (λ (v : ℕ × List Item). NoItemAfter e.stamp v.1) c.volumes = in_each_volume e.stamp c.volumes none in
      record {
        not_above = (e.volume, omega (arith, labelled_long IsItem (files (Volume e.volume)) l n items [] volume), omega arith);
        points = λ some. record {
          records = length c.records;
          meta = subst (λ k. IsBoundary (files Meta) k (length c.records)) (sym at_meta) (end_boundary IsRecord (files Meta) l m c.records meta);
          domains = each-first (IsRecordBy e.stamp) (length c.records) c.records domains;
          items = length items;
          volume = subst (λ k. IsBoundary (files (Volume e.volume)) k (length items)) (sym at_volume) (end_boundary IsItem (files (Volume e.volume)) l n items volume);
          before = each-map (λ (v : ℕ × List Item). NoItemAfter e.stamp v.1) (λ (v : ℕ × List Item). v.0 ≡ e.volume → NoItemAfter e.stamp (take (length items) v.1)) (λ v here same. each-first (IsItemBy e.stamp) (length items) v.1 here) c.volumes each;
          earlier = each-map (λ (v : ℕ × List Item). NoItemAfter e.stamp v.1) (λ (v : ℕ × List Item). v.0 < e.volume → NoItemAfter e.stamp v.1) (λ v here below. here) c.volumes each;
        };
      }

module _ (files : Files) (c : ArchiveContents) where
  -- without an entry an archive is sound where its items rise
  pub sound_without_entry : c.entries ≡ [] → NeverFalls (items_of c.volumes) → IsSound files (ArchiveReading.archive c)
  sound_without_entry none rise = (rise, subst (AllByRecursion (IsSoundEntry files c)) (sym none) tt)

  pub sound_with_one_entry : (e : Entry) → c.entries ≡ e ∷ [] → IsSoundEntry files c e → NeverFalls (items_of c.volumes) → IsSound files (ArchiveReading.archive c)
  sound_with_one_entry e one sound rise = (rise, subst (AllByRecursion (IsSoundEntry files c)) (sym one) (sound, tt))

-- none or one item rises
pub none_falls : (items : List Item) → items ≡ [] → NeverFalls items
none_falls items none = subst NeverFalls (sym none) tt

pub one_never_falls : (items : List Item) (item : Item) → items ≡ item ∷ [] → NeverFalls items
one_never_falls items item one = subst NeverFalls (sym one) tt

pub stopped_is_sound : (files : Files) → IsStoppedCreation files → Sound files
stopped_is_sound files stopped = (ArchiveReading.nothing, stopped, tt)
