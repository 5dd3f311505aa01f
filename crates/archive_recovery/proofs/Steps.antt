-- Each step of mending an archive leaves it on its way, and the last one leaves it recovered.
use Rattle.std.proofs.Common.{◌≡◌, inl, inr, ⊎_elim, ℕ, ◌+◌, ◌-◌, negsuc, Bool, true, false, List, [], ◌++◌, length, take, refl, sym, ap, ◌∙◌, subst, append_assoc}
use Rattle.std.specs.Prelude.{min, Option, Some, None, Result, Ok, Err, OnOk, if◌then◌else◌}
use Rattle.std.proofs.Math.Seq.{take-nil, take-length}
use Rattle.std.proofs.lemmas.List.{append-nil, take_at}
use Rattle.pcp_base.specs.declared.file.FileId.{FileId}
use Rattle.pcp_base.specs.declared.file.FileId.TheVariants.{Meta, Index, Volume}
use Rattle.pcp_model.specs.Archive.{ArchiveContents, HasEntries}
use Rattle.pcp_model.specs.Disk.{Files, Held, Holdings, CrashImage, IsSettled, bytes_of, contents_of}
use Rattle.pcp_model.specs.Labels.{label}
use Rattle.pcp_model.specs.Records.{IsRecord, entries}
use Rattle.pcp_model.specs.Recovered.{IsMended, IsMendedIndex, IsRecovered, labelled_volumes}
use Rattle.pcp_model.specs.Written.{same_file}
use Rattle.pcp_outside.specs.Devices.{Becomes, Survives, cut_to, made_sure}
use Rattle.pcp_outside.proofs.Images.{bytes-cut_to, bytes-made_sure, survives_cut, survives_front, survives_sure, take-take}
use Rattle.archive_recovery.specs.Damage.{Found, IsIndexEnd}
use Rattle.archive_recovery.specs.Halfway.{IsCutBehind, IsHalfIndex, IsHalfway}
use Rattle.archive_recovery.specs.Mending.{MayBeCut, mended_index, IsIndexBetween, IndexMayBe, LastIsMended, FirstIsGiven, VolumesAreMended, VolumesMayBe}
use Rattle.archive_recovery.specs.Syncing.{MadeSure, IsAny}
use Rattle.archive_recovery.specs.declared.mending.Last.{Last}
use Rattle.archive_recovery.specs.declared.whole.Damage.{Damage}
use Rattle.archive_recovery.proofs.LastVolume.{EndsMended, ends_mended, volumes_between, volumes_after}
use Rattle.archive_recovery.proofs.Moments.{emptied}
use Rattle.archive_recovery.proofs.Settled.{all_sure, some_sure, uncut_volumes}
use Rattle.archive_recovery.proofs.Volumes.{mended_to}

-- ---- files that mending of volumes leaves alone

abbrev IsNoVolume : FileId → Type 0
IsNoVolume g = (k : ℕ) → same_file (Volume k) g ≡ false

last_alone : (g : FileId) → IsNoVolume g → (last : Option Last) (old mid : Holdings) → LastIsMended last old mid → mid g ≡ old g
last_alone g apart None old mid same = ap (λ (h : Holdings). h g) same
last_alone g apart (Some l) old mid change = change.others g (apart l.number)

first_alone : (g : FileId) → IsNoVolume g → (bare : Bool) (bytes : List ℕ) (mid new : Holdings) → FirstIsGiven bare bytes mid new → new g ≡ mid g
first_alone g apart true bytes mid new given = given.others g (apart 0)
first_alone g apart false bytes mid new same = ap (λ (h : Holdings). h g) same

volumes_alone : (g : FileId) → IsNoVolume g → (last : Option Last) (bare : Bool) (bytes : List ℕ) (old new : Holdings) → VolumesAreMended last bare bytes old new → new g ≡ old g
volumes_alone g apart last bare bytes old new m = first_alone g apart bare bytes m.mid new m.second ∙ last_alone g apart last old m.mid m.first

between_alone : (g : FileId) → IsNoVolume g → (last : Option Last) (bare : Bool) (bytes : List ℕ) (old : Holdings) (image : Files) → VolumesMayBe last bare bytes old image → Survives (old g) (image g)
between_alone g apart None bare bytes old image (inl crash) = crash g
between_alone g apart (Some l) bare bytes old image (inl may) = subst (Survives (old g)) (sym (may.others g (apart l.number))) (may.left g)
between_alone g apart last bare bytes old image (inr given) =
    subst (λ (h : Held). Survives h (image g)) (ap (λ (b : Bool). if b then record { sure = (given.1 (Volume 0)).sure; rest = (given.1 (Volume 0)).rest ++ bytes } else given.1 g) (apart 0) ∙ last_alone g apart last old given.1 given.2) (given.3 g)

module _ (h0 : Holdings) (c : ArchiveContents) (d : Damage) (il vl : List ℕ) (found : Found (contents_of h0) c d il vl) where
  -- ---- Meta

  cut_meta : take d.meta.end (contents_of h0 Meta) ≡ found.left
  cut_meta = ap (λ (n : ℕ). take n (contents_of h0 Meta)) found.meta_end ∙ ap (take (length found.left)) found.meta.is ∙ take_at found.left found.meta.torn (length found.left) refl

  meta_behind : (b : List ℕ) → b ≡ found.left → IsCutBehind IsRecord (contents_of h0 Meta) c.label (negsuc 0) c.records b
  meta_behind b e = record { left = found.left; mended = found.meta; n = 0; is = e ∙ sym (append-nil found.left) }

  meta_whole : (b : List ℕ) → b ≡ contents_of h0 Meta → IsCutBehind IsRecord (contents_of h0 Meta) c.label (negsuc 0) c.records b
  meta_whole b e = record { left = found.left; mended = found.meta; n = length found.meta.torn; is = e ∙ found.meta.is ∙ ap (λ t. found.left ++ t) (sym (take-length found.meta.torn)) }

  -- ---- the index

  index_cut : (k end : ℕ) (was now : List ℕ) → was ≡ take k (contents_of h0 Index) → now ≡ take end was → IsHalfIndex (contents_of h0 Index) c.label now
  index_cut k end was now first cut = inl (min end k, cut ∙ ap (take end) first ∙ take-take end k (contents_of h0 Index))

  index_by : (e : Option ℕ) → IsIndexEnd (contents_of h0 Index) c e → (k : ℕ) (was now : List ℕ) → was ≡ take k (contents_of h0 Index) → IsIndexBetween e il was now → IsHalfIndex (contents_of h0 Index) c.label now
  index_by (Some end) ends k was now first (inl same) = inl (k, same ∙ first)
  index_by (Some end) ends k was now first (inr cut) = index_cut k end was now first cut
  index_by None short k was now first (inl same) = inl (k, same ∙ first)
  index_by None short k was now first (inr given) = inr (short, given.0, given.1 ∙ ap (take given.0) found.labels_index)

  index_after : (e : Option ℕ) → IsIndexEnd (contents_of h0 Index) c e → (b : List ℕ) → Survives (mended_index e il (h0 Index)) b → IsHalfIndex (contents_of h0 Index) c.label b
  index_after (Some end) ends b left =
      let was = survives_cut (h0 Index) end b left in
      let front = survives_front (h0 Index) was.0 was.1 in
      index_cut front.0 end was.0 b front.2 was.2
  index_after None short b left =
      inr (short, length (label c.label (negsuc 1)), survives_sure (made_sure (cut_to 0 (h0 Index)) il) b refl left ∙ ap (λ (h : Held). bytes_of h ++ il) (emptied (h0 Index)) ∙ found.labels_index ∙ sym (take-length (label c.label (negsuc 1))))

  index_left : (e : Option ℕ) → IsIndexEnd (contents_of h0 Index) c e → IsMendedIndex (contents_of h0 Index) c (bytes_of (mended_index e il (h0 Index)))
  index_left (Some end) ends =
      let has : HasEntries (contents_of h0 Index) c = ends.0 in
      inr (has, bytes-cut_to end (h0 Index) ∙ ap (take end) (has.is ∙ sym (append_assoc has.head (entries c.entries) has.rest)) ∙ take_at (has.head ++ entries c.entries) has.rest end (sym ends.1))
  index_left None short = inl (short, bytes-made_sure (cut_to 0 (h0 Index)) il ∙ ap (λ (h : Held). bytes_of h ++ il) (emptied (h0 Index)) ∙ found.labels_index)

  -- ---- step by step, over a settled disk

  module _ (settled : IsSettled h0) where
    pub first_step : (image : Files) → MayBeCut Meta d.meta.end h0 image → IsHalfway (contents_of h0) c image
    first_step image may =
        let meta : may.before Meta ≡ contents_of h0 Meta = all_sure h0 may.before Meta settled.meta may.left in
        record {
          meta = ⊎_elim (λ (same : image Meta ≡ may.before Meta). meta_whole (image Meta) (same ∙ meta))
              (λ (cut : image Meta ≡ take d.meta.end (may.before Meta)). meta_behind (image Meta) (cut ∙ ap (take d.meta.end) meta ∙ cut_meta)) may.this;
          index = inl (length (h0 Index).sure + (may.left Index).0, may.others Index refl ∙ some_sure h0 may.before Index may.left);
          volumes = uncut_volumes (contents_of h0) image c found.is (λ n. may.others (Volume n) refl ∙ all_sure h0 may.before (Volume n) (settled.volumes n) may.left);
        }

    module _ (h1 : Holdings) (change1 : Becomes Meta (cut_to d.meta.end (h0 Meta)) h0 h1) where
      meta_sure : (h1 Meta).rest ≡ []
      meta_sure = ap (λ (h : Held). h.rest) change1.this ∙ ap (take (d.meta.end - length (h0 Meta).sure)) settled.meta ∙ take-nil (d.meta.end - length (h0 Meta).sure)

      meta_now : bytes_of (h1 Meta) ≡ found.left
      meta_now = ap bytes_of change1.this ∙ bytes-cut_to d.meta.end (h0 Meta) ∙ cut_meta

      volume_sure : (n : ℕ) → (h1 (Volume n)).rest ≡ []
      volume_sure n = ap (λ (h : Held). h.rest) (change1.others (Volume n) refl) ∙ settled.volumes n

      volume_now : (n : ℕ) → bytes_of (h1 (Volume n)) ≡ contents_of h0 (Volume n)
      volume_now n = ap bytes_of (change1.others (Volume n) refl)

      pub second_step : (image : Files) → IndexMayBe d.index il h1 image → IsHalfway (contents_of h0) c image
      second_step image may = record {
        meta = meta_behind (image Meta) (may.others Meta refl ∙ all_sure h1 may.before Meta meta_sure may.left ∙ meta_now);
        index = index_by d.index found.index (length (h1 Index).sure + (may.left Index).0) (may.before Index) (image Index)
            (some_sure h1 may.before Index may.left ∙ ap (λ (h : Held). take (length (h1 Index).sure + (may.left Index).0) (bytes_of h)) (change1.others Index refl)) may.this;
        volumes = uncut_volumes (contents_of h0) image c found.is (λ n. may.others (Volume n) refl ∙ all_sure h1 may.before (Volume n) (volume_sure n) may.left ∙ volume_now n);
      }

      module _ (h2 : Holdings) (change2 : Becomes Index (mended_index d.index il (h1 Index)) h1 h2) where
        meta_survives : (b : List ℕ) → Survives (h2 Meta) b → b ≡ found.left
        meta_survives b left =
            let same : h2 Meta ≡ h1 Meta = change2.others Meta refl in
            let sure : (h2 Meta).rest ≡ [] = ap (λ (h : Held). h.rest) same ∙ meta_sure in
            survives_sure (h2 Meta) b sure left ∙ sym (append-nil (h2 Meta).sure) ∙ ap (λ r. (h2 Meta).sure ++ r) (sym sure) ∙ ap bytes_of same ∙ meta_now

        index_survives : (b : List ℕ) → Survives (h2 Index) b → IsHalfIndex (contents_of h0 Index) c.label b
        index_survives b left = index_after d.index found.index b (subst (λ (h : Held). Survives h b) (change2.this ∙ ap (mended_index d.index il) (change1.others Index refl)) left)

        start2 : (n : ℕ) → bytes_of (h2 (Volume n)) ≡ contents_of h0 (Volume n)
        start2 n = ap bytes_of (change2.others (Volume n) refl) ∙ volume_now n

        sure2 : (n : ℕ) → (h2 (Volume n)).rest ≡ []
        sure2 n = ap (λ (h : Held). h.rest) (change2.others (Volume n) refl) ∙ volume_sure n

        pub third_step : (image : Files) → VolumesMayBe d.last d.bare vl h2 image → IsHalfway (contents_of h0) c image
        third_step image may = record {
          meta = meta_behind (image Meta) (meta_survives (image Meta) (between_alone Meta (λ k. refl) d.last d.bare vl h2 image may));
          index = index_survives (image Index) (between_alone Index (λ k. refl) d.last d.bare vl h2 image may);
          volumes = volumes_between (contents_of h0) c found.is h2 start2 sure2 image d.last found.last d.bare found.bare vl found.labels_volume may;
        }

        pub last_step : (h3 : Holdings) → VolumesAreMended d.last d.bare vl h2 h3 → (image : Files) → CrashImage h3 image → IsHalfway (contents_of h0) c image
        last_step h3 m image crash = record {
          meta = meta_behind (image Meta) (meta_survives (image Meta) (subst (λ (h : Held). Survives h (image Meta)) (volumes_alone Meta (λ k. refl) d.last d.bare vl h2 h3 m) (crash Meta)));
          index = index_survives (image Index) (subst (λ (h : Held). Survives h (image Index)) (volumes_alone Index (λ k. refl) d.last d.bare vl h2 h3 m) (crash Index));
          volumes = volumes_after (contents_of h0) c found.is h2 start2 sure2 image d.last found.last d.bare found.bare vl found.labels_volume h3 m crash;
        }

  -- ---- in the end

  pub all_mended : (h1 h2 h3 h4 : Holdings) → Becomes Meta (cut_to d.meta.end (h0 Meta)) h0 h1 → Becomes Index (mended_index d.index il (h1 Index)) h1 h2 → VolumesAreMended d.last d.bare vl h2 h3 → MadeSure IsAny h3 h4 → IsRecovered (contents_of h0) c (contents_of h4)
  all_mended h1 h2 h3 h4 meta index volumes sure = record {
    meta = subst (IsMended IsRecord (contents_of h0 Meta) c.label (negsuc 0) c.records)
        (sym (sure.bytes Meta ∙ ap bytes_of (volumes_alone Meta (λ k. refl) d.last d.bare vl h2 h3 volumes ∙ index.others Meta refl ∙ meta.this) ∙ bytes-cut_to d.meta.end (h0 Meta) ∙ cut_meta)) found.meta;
    index = subst (IsMendedIndex (contents_of h0 Index) c)
        (sym (sure.bytes Index ∙ ap bytes_of (volumes_alone Index (λ k. refl) d.last d.bare vl h2 h3 volumes ∙ index.this ∙ ap (mended_index d.index il) (meta.others Index refl)))) (index_left d.index found.index);
    volumes = mended_to (contents_of h0) (contents_of h3) (contents_of h4) c.label (labelled_volumes (contents_of h0) c.volumes) (λ n. sure.bytes (Volume n)) ends.mended;
    others = λ n none. sure.bytes (Volume n) ∙ ends.others n none;
  }
    where
      ends : EndsMended (contents_of h0) c found.is h2 (λ n. ap bytes_of (index.others (Volume n) refl ∙ meta.others (Volume n) refl)) h3
      ends = ends_mended (contents_of h0) c found.is h2 (λ n. ap bytes_of (index.others (Volume n) refl ∙ meta.others (Volume n) refl)) d.last found.last d.bare found.bare vl found.labels_volume h3 volumes

  pub all_mended_ok : {E : Type 0} (h1 h2 h3 h4 : Holdings) (result : Result (Unit {0}) E) → Becomes Meta (cut_to d.meta.end (h0 Meta)) h0 h1 → Becomes Index (mended_index d.index il (h1 Index)) h1 h2 → VolumesAreMended d.last d.bare vl h2 h3 → OnOk result (MadeSure IsAny h3 h4)
      → OnOk result (IsRecovered (contents_of h0) c (contents_of h4))
  all_mended_ok h1 h2 h3 h4 (Ok x) meta index volumes sure = all_mended h1 h2 h3 h4 meta index volumes sure
  all_mended_ok h1 h2 h3 h4 (Err e) meta index volumes sure = tt
