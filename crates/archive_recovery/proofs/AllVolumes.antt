-- The volumes below the last one, one after another, and then the last.
use Rattle.std.proofs.Common.{◌≡◌, ◌⊎◌, inl, inr, ⊎_elim, ℕ, pos, ◌+◌, ◌<◌, ◌≤◌, true, false, List, [], ◌∷◌, ◌++◌, length, take, drop, map, refl, sym, ap, ◌∙◌, subst, arith, Some, None}
use Rattle.std.specs.Prelude.{Contains}
use Rattle.std.specs.List.{AllByRecursion}
use Rattle.std.proofs.lemmas.Bool.{cases_lt}
use Rattle.std.proofs.lemmas.List.{append-nil, drop_all, length-take, map-append, take-append-drop}
use Rattle.std.proofs.lemmas.List.Elements.{All-contains, All-from_recursion, Contains-append_left}
use Rattle.pcp_base.specs.declared.file.FileId.TheVariants.{Volume}
use Rattle.pcp_base.specs.declared.result.Item.{Item}
use Rattle.pcp_model.specs.Archive.{LabelledFile, IsLastVolume, AreVolumes, items_of}
use Rattle.pcp_model.specs.Disk.{Files}
use Rattle.pcp_model.specs.Frame.{IsTorn}
use Rattle.pcp_model.specs.LabelFields.{LabelFields}
use Rattle.pcp_model.specs.Labels.{BeginsLabel}
use Rattle.pcp_model.specs.Payload.{IsItem}
use Rattle.pcp_model.specs.Recovered.{IsMended, labelled_volumes}
use Rattle.pcp_model.proofs.Added.{last_listed, items_of-append}
use Rattle.pcp_model.proofs.Lists.{each-append, each-map}
use Rattle.pcp_model.proofs.Recovered.{labelled_all, nothing_torn}
use Rattle.pcp_model.proofs.Sound.{labelled_long}
use Rattle.pcp_model.proofs.Unique.{torn_has_none}
use Rattle.archive_loading.specs.Standing.{NoItemStands}
use Rattle.archive_loading.specs.LoadFaults.{IsFollowed}
use Rattle.archive_loading.proofs.Passed.{behind_record}
use Rattle.archive_recovery.specs.declared.counting.VolumeRead.TheVariants.{Stops}
use Rattle.archive_recovery.specs.declared.reading.Top.{Top}
use Rattle.archive_recovery.specs.declared.stamps.Tally.{Tally}
use Rattle.archive_recovery.specs.Counts.{CountsMore}
use Rattle.archive_recovery.specs.RecoverFaults.{IsWhole, AreWholeBelow, VolumeIsRefused}
use Rattle.archive_recovery.specs.Volumes.{Ascend, IsTopOf, EarlierStand, VolumesStand, VolumeStands, IsVolumeRead}
use Rattle.archive_recovery.proofs.Latest.{counted_none, counted_on}
use Rattle.archive_recovery.proofs.OneVolume.{file_up_to}
use Rattle.archive_recovery.proofs.Volumes.{labelled_short}

abbrev numbers : List (ℕ × List Item) → List ℕ
numbers vs = map (λ (v : ℕ × List Item). v.0) vs

-- where a record wasn't written whole, none stands
pub torn_stands : (bytes : List ℕ) (at : ℕ) → IsTorn (drop at bytes) → NoItemStands bytes at
torn_stands bytes at torn next x s = torn_has_none s.payload (drop next bytes) s.stands.fits (subst IsTorn (behind_record bytes s.payload at next s.stands) torn)

module _ (files : Files) (l : LabelFields) where
  abbrev IsWholeVolume : (ℕ × List Item) → Type 0
  IsWholeVolume v = LabelledFile IsItem (files (Volume v.0)) l (pos v.0) v.1 []

  pub none_earlier : (t : Tally) (top : Top) → top.bare ≡ true → top.volume ≡ 0 → top.length ≡ 132 → EarlierStand files l 0 t t top
  none_earlier t top bare first size = record {
    volumes = [];
    each = tt;
    ascend = tt;
    below = tt;
    listed = λ k lt. absurd (omega arith);
    counted = counted_none t;
    last = inl (refl, bare, first, size);
  }

  one_above : (n : ℕ) (vs : List (ℕ × List Item)) → AllByRecursion (λ (v : ℕ × List Item). v.0 < n) vs → AllByRecursion (λ (v : ℕ × List Item). v.0 < n + 1) vs
  one_above n vs all = each-map (λ (v : ℕ × List Item). v.0 < n) (λ (v : ℕ × List Item). v.0 < n + 1) (λ v lt. omega (arith, lt)) vs all

  next_listed : {P : ℕ → Type 0} (n : ℕ) → ((k : ℕ) → k < n → P k) → P n → (k : ℕ) → k < n + 1 → P k
  next_listed {P} n below here k h = ⊎_elim (below k) (λ (le : n ≤ k). subst P (let e : n ≡ k = omega arith in e) here) (cases_lt k n)

  pub empty_more : (n : ℕ) (old mid new : Tally) (top : Top) → files (Volume n) ≡ [] → new ≡ mid → EarlierStand files l n old mid top → EarlierStand files l (n + 1) old new top
  empty_more n old mid new top none same s = record {
    volumes = s.volumes;
    each = s.each;
    ascend = s.ascend;
    below = one_above n s.volumes s.below;
    listed = next_listed {P = λ k. (files (Volume k) ≡ []) ⊎ Contains (numbers s.volumes) k} n s.listed (inl none);
    counted = subst (CountsMore old (items_of s.volumes)) (sym same) s.counted;
    last = s.last;
  }

  pub ascend_last : (n : ℕ) (items : List Item) (vs : List (ℕ × List Item)) → Ascend vs → AllByRecursion (λ (v : ℕ × List Item). v.0 < n) vs → Ascend (vs ++ (n, items) ∷ [])
  ascend_last n items [] up below = (tt, tt)
  ascend_last n items (v ∷ vs) up below = (each-append (λ (w : ℕ × List Item). v.0 < w.0) vs ((n, items) ∷ []) up.0 (below.0, tt), ascend_last n items vs up.1 below.1)

  still_listed : (vs : List (ℕ × List Item)) (v : ℕ × List Item) (k : ℕ) → Contains (numbers vs) k → Contains (numbers (vs ++ v ∷ [])) k
  still_listed vs v k has = subst (λ ns. Contains ns k) (sym (map-append (λ (w : ℕ × List Item). w.0) vs (v ∷ []))) (Contains-append_left (numbers vs) (v.0 ∷ []) k has)

  -- a whole volume ends at its length
  whole_file : (n end size : ℕ) (old new : Tally) → (s : VolumeStands (files (Volume n)) l n end size old new) → size ≤ end → LabelledFile IsItem (files (Volume n)) l (pos n) s.items []
  whole_file n end size old new s all = subst (LabelledFile IsItem (files (Volume n)) l (pos n) s.items) (drop_all end (files (Volume n)) (omega (arith, all, s.is_size))) s.holds

  items_more : (vs : List (ℕ × List Item)) (n : ℕ) (items : List Item) → items_of vs ++ items ≡ items_of (vs ++ (n, items) ∷ [])
  items_more vs n items = ap (λ (t : List Item). items_of vs ++ t) (sym (append-nil items)) ∙ sym (items_of-append vs ((n, items) ∷ []))

  pub volume_more : (n end size : ℕ) (old mid new : Tally) (top : Top) → (s : VolumeStands (files (Volume n)) l n end size mid new) → size ≤ end → EarlierStand files l n old mid top
      → EarlierStand files l (n + 1) old new (record { bare = false; volume = n; length = size })
  volume_more n end size old mid new top s all e =
      let whole = whole_file n end size mid new s all in
      let vs : List (ℕ × List Item) = e.volumes ++ (n, s.items) ∷ [] in
      record {
        volumes = vs;
        each = each-append IsWholeVolume e.volumes ((n, s.items) ∷ []) e.each (whole, tt);
        ascend = ascend_last n s.items e.volumes e.ascend e.below;
        below = each-append (λ (v : ℕ × List Item). v.0 < n + 1) e.volumes ((n, s.items) ∷ []) (one_above n e.volumes e.below) (omega arith, tt);
        listed = next_listed {P = λ k. (files (Volume k) ≡ []) ⊎ Contains (numbers vs) k} n
            (λ k lt. ⊎_elim (λ (none : files (Volume k) ≡ []). inl none) (λ (has : Contains (numbers e.volumes) k). inr (still_listed e.volumes (n, s.items) k has)) (e.listed k lt))
            (inr (last_listed e.volumes n s.items));
        counted = subst (λ (t : List Item). CountsMore old t new) (items_more e.volumes n s.items) (counted_on old mid new (items_of e.volumes) s.items e.counted s.counted);
        last = inr (record {
          some = refl;
          before = e.volumes;
          items = s.items;
          are = refl;
          left = files (Volume n);
          mended = record { torn = []; is_torn = nothing_torn; is = sym (append-nil (files (Volume n))); whole = whole };
          ends = s.is_size;
        });
      }

  -- each volume below is empty or whole
  pub whole_below : (n : ℕ) (old new : Tally) (top : Top) → EarlierStand files l n old new top → AreWholeBelow files l n
  whole_below n old new top e k lt = ⊎_elim (λ (none : files (Volume k) ≡ []). inl none) (λ (has : Contains (numbers e.volumes) k). found has) (e.listed k lt)
    where
      each_number : (vs : List (ℕ × List Item)) → AllByRecursion IsWholeVolume vs → AllByRecursion (IsWhole files l) (numbers vs)
      each_number [] all = tt
      each_number (v ∷ vs) all = (inr (v.1, all.0), each_number vs all.1)

      found : Contains (numbers e.volumes) k → IsWhole files l k
      found has = All-contains (IsWhole files l) (numbers e.volumes) k (All-from_recursion (IsWhole files l) (numbers e.volumes) (each_number e.volumes e.each)) has

  -- ---- where a volume stops

  some_bytes : (bytes : List ℕ) → (bytes ≡ [] → ⊥) → 0 < length bytes
  some_bytes [] some = absurd (some refl)
  some_bytes (b ∷ bytes) some = omega arith

  pub is_followed : (n count : ℕ) → n < count → (files (Volume count) ≡ [] → ⊥) → IsFollowed files n
  is_followed n count lt some = (count, lt, some)

  pub begun_refused : (n size : ℕ) → IsFollowed files n → size ≡ length (files (Volume n)) → 0 < size → BeginsLabel (files (Volume n)) l (pos n) → VolumeIsRefused files l n size
  begun_refused n size followed is some b = inl (omega (arith, is, some), inr (inl (is, b, followed)))

  pub torn_refused : (n end size : ℕ) (old new : Tally) → IsFollowed files n → VolumeStands (files (Volume n)) l n end size old new → end < size → VolumeIsRefused files l n end
  torn_refused n end size old new followed s lt = inr (record {
    items = s.items;
    whole = file_up_to files l n end s.items s.within s.holds;
    goes_on = omega (arith, lt, s.is_size);
    none = torn_stands (files (Volume n)) end s.torn;
    torn = λ t. followed;
  })

  pub stop_refused : (n offset : ℕ) (old new : Tally) → IsVolumeRead (files (Volume n)) l n old new (Stops offset) → VolumeIsRefused files l n offset
  stop_refused n offset old new (inl (some, inl label)) = inl (some, inl label)
  stop_refused n offset old new (inl (some, inr high)) = inl (some, inr (inr high))
  stop_refused n offset old new (inr b) = inr (record { items = b.items; whole = b.whole; goes_on = b.goes_on; none = b.none; torn = λ t. absurd (b.not_torn t) })

  -- ---- the last volume

  with_last : (n : ℕ) (items : List Item) (vs : List (ℕ × List Item)) → AllByRecursion IsWholeVolume vs → Ascend vs → AllByRecursion (λ (v : ℕ × List Item). v.0 < n) vs → IsLastVolume (files (Volume n)) l n items → AreVolumes files l (vs ++ (n, items) ∷ [])
  with_last n items [] each up below last = last
  with_last n items (v ∷ []) each up below last = (each.0, below.0, last)
  with_last n items (v ∷ w ∷ vs) each up below last = (each.0, up.0.0, with_last n items (w ∷ vs) each.1 up.1 below.1 last)

  module _ (n : ℕ) (old mid new : Tally) (top : Top) (e : EarlierStand files l n old mid top) (past : (k : ℕ) → n < k → files (Volume k) ≡ []) (items : List Item) (counted : CountsMore mid items new) where
    abbrev all : List (ℕ × List Item)
    all = e.volumes ++ (n, items) ∷ []

    no_others : (k : ℕ) → (Contains (numbers all) k → ⊥) → files (Volume k) ≡ []
    no_others k none = ⊎_elim below_it from_it (cases_lt k n)
      where
        below_it : k < n → files (Volume k) ≡ []
        below_it lt = ⊎_elim (λ (empty : files (Volume k) ≡ []). empty) (λ (has : Contains (numbers e.volumes) k). absurd (none (still_listed e.volumes (n, items) k has))) (e.listed k lt)

        from_it : n ≤ k → files (Volume k) ≡ []
        from_it le = ⊎_elim (past k) (λ (also : k ≤ n). absurd (none (subst (Contains (numbers all)) (let same : n ≡ k = omega arith in same) (last_listed e.volumes n items)))) (cases_lt n k)

    all_counted : CountsMore old (items_of all) new
    all_counted = subst (λ (t : List Item). CountsMore old t new) (items_more e.volumes n items) (counted_on old mid new (items_of e.volumes) items e.counted counted)

    pub whole_last : (end size : ℕ) → LabelledFile IsItem (files (Volume n)) l (pos n) items (drop end (files (Volume n))) → 132 ≤ end → end ≤ length (files (Volume n)) → size ≡ length (files (Volume n)) → IsTorn (drop end (files (Volume n)))
        → VolumesStand files l old new (Some (record { number = n; end = Some end; length = size })) (record { bare = false; volume = n; length = end })
    whole_last end size holds low within is torn =
        let left : List ℕ = take end (files (Volume n)) in
        let mended : IsMended IsItem (files (Volume n)) l (pos n) items left =
        record { torn = drop end (files (Volume n)); is_torn = torn; is = sym (take-append-drop end (files (Volume n))); whole = file_up_to files l n end items within holds } in
        let ends : end ≡ length left = omega (arith, length-take end (files (Volume n)), within) in
        let long : AllByRecursion (λ (v : ℕ × List Item). 132 ≤ length (files (Volume v.0))) all =
        each-append (λ (v : ℕ × List Item). 132 ≤ length (files (Volume v.0))) e.volumes ((n, items) ∷ [])
        (each-map IsWholeVolume (λ (v : ℕ × List Item). 132 ≤ length (files (Volume v.0))) (λ v h. labelled_long IsItem (files (Volume v.0)) l (pos v.0) v.1 [] h) e.volumes e.each)
        (omega (arith, low, within), tt) in
        let labelled : labelled_volumes files all ≡ all = labelled_all files all long in
        record {
          volumes = all;
          are = with_last n items e.volumes e.each e.ascend e.below (inr (drop end (files (Volume n)), torn, holds));
          ascend = subst Ascend (sym labelled) (ascend_last n items e.volumes e.ascend e.below);
          others = no_others;
          counted = all_counted;
          ends = record { before = e.volumes; items = items; are = refl; ends = (left, mended, ends); size = is };
          top_is = inr (record { some = refl; before = e.volumes; items = items; are = labelled; left = left; mended = mended; ends = ends });
        }

    pub begun_last : (size : ℕ) → items ≡ [] → size ≡ length (files (Volume n)) → 0 < size → BeginsLabel (files (Volume n)) l (pos n) → VolumesStand files l old new (Some (record { number = n; end = None; length = size })) top
    begun_last size none is some b =
        let short : labelled_volumes files all ≡ e.volumes = labelled_short files n items e.volumes b.short in
        record {
          volumes = all;
          are = with_last n items e.volumes e.each e.ascend e.below (inl (omega (arith, is, some), none, b));
          ascend = subst Ascend (sym short) e.ascend;
          others = no_others;
          counted = all_counted;
          ends = record { before = e.volumes; items = items; are = refl; ends = b.short; size = is };
          top_is = subst (λ (vs : List (ℕ × List Item)). IsTopOf files l vs top) (sym short) e.last;
        }

  pub no_volume : (t : Tally) (top : Top) → top.bare ≡ true → top.volume ≡ 0 → top.length ≡ 132 → ((k : ℕ) → files (Volume k) ≡ []) → VolumesStand files l t t None top
  no_volume t top bare first size none = record {
    volumes = [];
    are = tt;
    ascend = tt;
    others = λ k h. none k;
    counted = counted_none t;
    ends = refl;
    top_is = inl (refl, bare, first, size);
  }
