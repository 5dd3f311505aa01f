-- What was read of Meta, the index and the volumes is one archive, and what there is to mend.
use Rattle.std.proofs.Common.{◌≡◌, ◌≢◌, ◌⊎◌, inl, inr, ⊎_elim, ℕ, pos, negsuc, ◌+◌, ◌-◌, ◌*◌, ◌<◌, ◌≤◌, Bool, true, false, List, [], ◌∷◌, ◌++◌, length, take, drop, refl, sym, ap, ◌∙◌, subst, arith, Option, Some, None}
use Rattle.std.specs.Prelude.{MatchOption, IfSome}
use Rattle.std.proofs.Math.Seq.{take-add}
use Rattle.std.proofs.lemmas.Bool.{cases_lt}
use Rattle.std.proofs.lemmas.List.{append-nil, drop-drop, length-append, length-drop, length-take, take-append-drop}
use Rattle.pcp_base.specs.Time.{Moment}
use Rattle.pcp_base.specs.declared.file.FileId.TheVariants.{Meta, Index, Volume}
use Rattle.pcp_base.specs.declared.result.Item.{Item}
use Rattle.pcp_model.specs.declared.records.Entry.{Entry}
use Rattle.pcp_model.specs.declared.records.MetaRecord.{MetaRecord}
use Rattle.pcp_model.specs.Archive.{ArchiveContents, IsMeta, IsIndex, IsArchive}
use Rattle.pcp_model.specs.Disk.{Files}
use Rattle.pcp_model.specs.Frame.{frames, IsTorn}
use Rattle.pcp_model.specs.LabelFields.{LabelFields}
use Rattle.pcp_model.specs.Labels.{IsLabel}
use Rattle.pcp_model.specs.Payload.{IsItem}
use Rattle.pcp_model.specs.Recovered.{IsMended, labelled_volumes}
use Rattle.pcp_model.specs.Records.{IsRecord, entries}
use Rattle.pcp_model.proofs.Cuts.{length_of_label}
use Rattle.pcp_model.proofs.CutsOfAny.{length-entries}
use Rattle.pcp_model.proofs.Sound.{labelled_long}
use Rattle.archive_loading.specs.Loaded.{contents_with}
use Rattle.archive_loading.specs.LoadFaults.{HeadIs, whole_entries}
use Rattle.archive_loading.specs.Metadata.{HasEnd, AreAllRecords}
use Rattle.archive_loading.specs.declared.metadata.MetaEnd.{MetaEnd}
use Rattle.archive_loading.proofs.MetaSteps.{meta_reads}
use Rattle.archive_recovery.specs.declared.mending.Last.{Last}
use Rattle.archive_recovery.specs.declared.mending.Tail.{Tail}
use Rattle.archive_recovery.specs.declared.reading.Top.{Top}
use Rattle.archive_recovery.specs.declared.stamps.Tally.{Tally}
use Rattle.archive_recovery.specs.Damage.{IsIndexEnd, IsLastEnd, IsBare}
use Rattle.archive_recovery.specs.RecoverFaults.{IsRefused, AreWholeBelow, VolumeIsRefused}
use Rattle.archive_recovery.specs.Stamps.{domain_stamps, entry_stamps, IsLatestOn}
use Rattle.archive_recovery.specs.Surveys.{MetaStands, HeadStands, IsSighted}
use Rattle.archive_recovery.specs.Volumes.{IsLastOf, VolumesStand}
use Rattle.archive_recovery.proofs.Volumes.{none_long}

-- ---- Meta

module _ (bytes : List ℕ) (l : LabelFields) (records : List MetaRecord) (end : ℕ) (last : Option Moment) (has : IsLabel (take 132 bytes) l (negsuc 0)) (all : AreAllRecords bytes records end last) where
  split : drop end bytes ≡ drop (end - 132) (drop 132 bytes)
  split = ap (λ n. drop n bytes) (let e : end ≡ 132 + (end - 132) = omega (arith, all.low) in e) ∙ sym (drop-drop (end - 132) 132 bytes)

  up_to : take end bytes ≡ take 132 bytes ++ (frames all.front.read.payloads ++ [])
  up_to = ap (λ n. take n bytes) (let e : end ≡ 132 + (end - 132) = omega (arith, all.low) in e) ∙ take-add 132 (end - 132) bytes
      ∙ ap (λ t. take 132 bytes ++ t) (all.front.read.is ∙ sym (append-nil (frames all.front.read.payloads)))

  pub meta_mended : IsMended IsRecord bytes l (negsuc 0) records (take end bytes)
  meta_mended = record {
    torn = drop end bytes;
    is_torn = subst IsTorn (sym split) all.front.torn;
    is = sym (take-append-drop end bytes);
    whole = record { head = take 132 bytes; label = has; payloads = all.front.read.payloads; read = all.front.read.read; is = up_to };
  }

  pub meta_within : end ≡ length (take end bytes)
  meta_within = omega (arith, length-take end bytes, all.front.within, all.low, length-drop 132 bytes, length_of_label (take 132 bytes) l (negsuc 0) has, length-take 132 bytes)

meta_with : (bytes : List ℕ) (l : LabelFields) (records : List MetaRecord) (es : List Entry) (vs : List (ℕ × List Item)) → IsMeta bytes (contents_with l records [] []) → IsMeta bytes (contents_with l records es vs)
meta_with bytes l records es vs m = record { torn = m.torn; is_torn = m.is_torn; holds = m.holds; consistent = m.consistent }

pub meta_stands : (files : Files) (l : LabelFields) (records : List MetaRecord) (e : MetaEnd) → HasEnd (files Meta) l records e → MetaStands files l records (record { end = e.end; length = e.length }) e.last
meta_stands files l records e h = record { has_label = h.has_label; all = h.all; size = h.size }

-- with the index, no item was counted
pub head_stands : (files : Files) (l : LabelFields) (records : List MetaRecord) (tail : Tail) (last latest : Option Moment) (es : List Entry) (size : ℕ) → MetaStands files l records tail last → IsIndex (files Index) (contents_with l [] es [])
    → size ≡ length (files Index) → IsLatestOn last (entry_stamps es) latest → HeadStands files l records tail (record { items = 0; last = latest }) es size
head_stands files l records tail last latest es size m index is later = record { of_meta = last; meta = m; index = index; is_size = is; latest = later (domain_stamps records) m.all.latest; none = refl }

-- ---- the index

index_with : (bytes : List ℕ) (l : LabelFields) (records : List MetaRecord) (es : List Entry) (vs : List (ℕ × List Item)) → IsIndex bytes (contents_with l [] es []) → IsIndex bytes (contents_with l records es vs)
index_with bytes l records es vs (inl none) = inl none
index_with bytes l records es vs (inr has) = inr (record { head = has.head; label = has.label; fit = has.fit; rest = has.rest; short = has.short; is = has.is })

index_ends : (bytes : List ℕ) (c : ArchiveContents) (size : ℕ) (end : Option ℕ) → size ≡ length bytes → IsIndex bytes c → MatchOption end (size < 132) (λ (n : ℕ). (132 ≤ size) × (n ≡ 132 + whole_entries (size - 132))) → IsIndexEnd bytes c end
index_ends bytes c size None is index short = omega (arith, is, short)
index_ends bytes c size (Some n) is (inl none) long = absurd (omega (arith, is, none.1.short, long.0))
index_ends bytes c size (Some n) is (inr has) long =
    let head : length has.head ≡ 132 = length_of_label has.head c.label (negsuc 1) has.label in
    let all : length bytes ≡ 132 + (20 * length c.entries + length has.rest) =
    omega (arith, ap length has.is, length-append has.head (entries c.entries ++ has.rest), length-append (entries c.entries) has.rest, length-entries c.entries, head) in
    (has, whole_is n size (length c.entries) (length has.rest) (long.1) (is ∙ all) has.short ∙ sym (length-append has.head (entries c.entries) ∙ sums (length has.head) (length (entries c.entries)) (length c.entries) head (length-entries c.entries)))
  where
    whole_is : (n size k s : ℕ) → n ≡ 132 + whole_entries (size - 132) → size ≡ 132 + (20 * k + s) → s < 20 → n ≡ 132 + 20 * k
    whole_is n size k s is all short = omega (arith, is, all, short)

    sums : (a b k : ℕ) → a ≡ 132 → b ≡ 20 * k → a + b ≡ 132 + 20 * k
    sums a b k first second = omega (arith, first, second)

-- ---- the whole

module _ (files : Files) (l : LabelFields) (records : List MetaRecord) (tail : Tail) (tally : Tally) (es : List Entry) (size : ℕ) (head : HeadStands files l records tail tally es size) where
  pub head_is : HeadIs files l records es
  head_is = record { meta = meta_reads (files Meta) l records tail.end head.of_meta head.meta.has_label head.meta.all; index = head.index }

  pub volume_refused : (n offset : ℕ) → AreWholeBelow files l n × VolumeIsRefused files l n offset → IsRefused files (Volume n) offset
  volume_refused n offset (below, refused) = (l, records, es, head_is, below, refused)

  module _ (after : Tally) (last : Option Last) (top : Top) (v : VolumesStand files l tally after last top) where
    -- the flag tells whether some volume has its label
    some_label : top.bare ≡ false → (n : ℕ) × (132 ≤ length (files (Volume n)))
    some_label bare = elim v.top_is [
      | inl none ↦ absurd (let both : true ≡ false = sym none.1 ∙ bare in cc)
      | inr t ↦ (top.volume, omega (arith, ap length t.mended.is, length-append t.left t.mended.torn, labelled_long IsItem t.left l (pos top.volume) t.items [] t.mended.whole))
    ]

    none_labelled : top.bare ≡ true → labelled_volumes files v.volumes ≡ []
    none_labelled bare = elim v.top_is [
      | inl none ↦ none.0
      | inr t ↦ absurd (let both : true ≡ false = sym bare ∙ t.some in cc)
    ]

    pub beside_none : top.bare ≡ true → es ≢ [] → IsRefused files Index 132
    beside_none bare some = inr (
      refl,
      l,
      records,
      es,
      record {
        head = head_is;
        some = some;
        volumes = v.volumes;
        are = v.are;
        others = v.others;
        short = λ n. ⊎_elim (λ (lt : length (files (Volume n)) < 132). lt) (λ (le : 132 ≤ length (files (Volume n))). absurd (none_long files v.volumes v.others (none_labelled bare) n le)) (cases_lt (length (files (Volume n))) 132);
      },
    )

    abbrev contents : ArchiveContents
    contents = contents_with l records es v.volumes

    pub is_archive : (top.bare ≡ false) ⊎ (es ≡ []) → IsArchive files contents
    is_archive beside = record {
      meta = meta_with (files Meta) l records es v.volumes head_is.meta;
      index = index_with (files Index) l records es v.volumes head.index;
      volumes = v.are;
      others = v.others;
      labelled = ⊎_elim (λ (bare : top.bare ≡ false). inr (some_label bare)) (λ (none : es ≡ []). inl none) beside;
    }

    bare_is : (b : Bool) → top.bare ≡ b → IsBare files contents b
    bare_is true e = none_labelled e
    bare_is false e = λ none. elim v.top_is [
      | inl first ↦ absurd (let both : true ≡ false = sym first.1 ∙ e in cc)
      | inr t ↦ absurd (omega (arith, ap length (sym t.are ∙ none), length-append t.before ((top.volume, t.items) ∷ [])))
    ]

    last_is : (o : Option Last) → IsLastOf files l v.volumes o → IsLastEnd files contents o
    last_is None none = none
    last_is (Some o) e = record { before = e.before; items = e.items; are = e.are; is = e.ends }

    last_long : (o : Option Last) → IsLastOf files l v.volumes o → IfSome o (λ (x : Last). x.length ≡ length (files (Volume x.number)))
    last_long None none = tt
    last_long (Some o) e = e.size

    pub all_sighted : (end : Option ℕ) → MatchOption end (size < 132) (λ (n : ℕ). (132 ≤ size) × (n ≡ 132 + whole_entries (size - 132))) → (top.bare ≡ false) ⊎ (es ≡ [])
        → IsSighted files (record { label = l; meta = records; index = es; damage = record { meta = tail; index = end; index_length = size; last = last; bare = top.bare }; top = top; tally = after })
    all_sighted end ends beside = record {
      volumes = v.volumes;
      found = record {
        is = is_archive beside;
        left = take tail.end (files Meta);
        meta = meta_mended (files Meta) l records tail.end head.of_meta head.meta.has_label head.meta.all;
        meta_end = meta_within (files Meta) l records tail.end head.of_meta head.meta.has_label head.meta.all;
        index = index_ends (files Index) contents size end head.is_size (index_with (files Index) l records es v.volumes head.index) ends;
        last = last_is last v.ends;
        bare = bare_is top.bare refl;
        labels_index = refl;
        labels_volume = refl;
      };
      meta_size = head.meta.size;
      index_size = head.is_size;
      last_size = last_long last v.ends;
      ascend = v.ascend;
      top_is = v.top_is;
      counted = omega (arith, v.counted.more, head.none);
      latest = v.counted.on (domain_stamps records ++ entry_stamps es) head.latest;
    }
