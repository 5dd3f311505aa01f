-- Files of which recovery would leave a sound archive are sound before it too, and no entry is of a volume that ends within its label: so
-- a search by time begins among the records of a volume, and ends at the last whole one.
use Rattle.std.proofs.Common.{zero, suc, ◌≡◌, ◌⊎◌, inl, inr, ⊎_elim, ℕ, ℤ, ◌<◌, ◌≤◌, pos, negsuc, Bool, true, false, List, [], ◌∷◌, ◌++◌, length, take, map, refl, sym, ap, ◌∙◌, subst, append_assoc, arith, length-append, eqb-true, eq-eqb, ltb-true, Option, Some, None}
use Rattle.std.specs.Prelude.{Contains, if◌then◌else◌, nat_lt, nat_eq, IfSome}
use Rattle.std.specs.List.{AllByRecursion}
use Rattle.std.proofs.Math.Seq.{take-nil}
use Rattle.std.proofs.lemmas.Bool.{cases_lt, le-ltb, ltb-false}
use Rattle.std.proofs.lemmas.List.{append-nil}
use Rattle.pcp_base.specs.Time.{Moment}
use Rattle.pcp_base.specs.declared.file.FileId.{FileId}
use Rattle.pcp_base.specs.declared.file.FileId.TheVariants.{Meta, Index, Volume}
use Rattle.pcp_base.specs.declared.result.Item.{Item}
use Rattle.pcp_model.specs.declared.records.Entry.{Entry}
use Rattle.pcp_model.specs.declared.records.MetaRecord.{MetaRecord}
use Rattle.pcp_model.specs.Archive.{ArchiveContents, ArchiveReading, LabelledFile, IsIndex, IsLastVolume, AreVolumes, IsArchive, IsStoppedCreation, Reads}
use Rattle.pcp_model.specs.Disk.{Files}
use Rattle.pcp_model.specs.Frame.{IsTorn, frames}
use Rattle.pcp_model.specs.LabelFields.{LabelFields}
use Rattle.pcp_model.specs.Labels.{label, BeginsLabel}
use Rattle.pcp_model.specs.Payload.{IsItem}
use Rattle.pcp_model.specs.Records.{IsRecord, entries}
use Rattle.pcp_model.specs.Recovered.{IsMended, IsMendedIndex, labelled_volumes, or_first_volume, recovered_contents, AreMended, IsRecovered}
use Rattle.pcp_model.specs.Sound.{IsBoundary, IsSound, IsSoundEntry, NeverFalls, NoItemAfter, PointsWell}
use Rattle.pcp_model.proofs.Boundaries.{boundary_stays}
use Rattle.pcp_model.proofs.OneReading.{one_reading, others_above}
use Rattle.pcp_model.proofs.Recovered.{each_left, no_item, nothing_torn, recovered_items}
use Rattle.pcp_model.proofs.Sound.{labelled_long}
use Rattle.archive_loading.specs.Loaded.{Loaded, IsOver, IsKeptOf, IsLabelledArchive}
use Rattle.archive_reader.specs.declared.beginning.Begin.TheVariants.{At, Outside}
use Rattle.archive_reader.specs.declared.fault.ReaderFault.TheVariants.{NotArchive}
use Rattle.archive_reader.specs.Asked.{last_entry, is_entry_before, is_entry_by, length_of, begin_in, begin_of, at_begin, range_begin, IsAtFault, IsRangeFault}
use Rattle.archive_reader.specs.Searches.{or_else}
use Rattle.archive_reader.specs.Sounds.{BeginsInCutLabel}
use Rattle.archive_reader.proofs.Archives.{same_as}
use Rattle.archive_reader.proofs.Finds.{sound_finds_last, sound_finds_range}
use Rattle.pm_words.specs.Sound.{RecoversSound}

-- ---- one of the volumes

same_or_not : (m n : ℕ) → (m ≡ n) ⊎ (m ≡ n → ⊥)
same_or_not m n = go (nat_eq m n) refl
  where
    go : (b : Bool) → nat_eq m n ≡ b → (m ≡ n) ⊎ (m ≡ n → ⊥)
    go true e = inl (eqb-true m n e)
    go false e = inr (λ same. let both : true ≡ false = sym (eq-eqb m n same) ∙ e in cc)

differs : (m n : ℕ) → m < n → nat_eq m n ≡ false
differs m n lt = go (nat_eq m n) refl
  where
    go : (b : Bool) → nat_eq m n ≡ b → nat_eq m n ≡ false
    go true e = absurd (omega (arith, lt, eqb-true m n e))
    go false e = e

abbrev numbers : List (ℕ × List Item) → List ℕ
numbers vs = map (λ v. v.0) vs

abbrev IsOne : ℕ → List (ℕ × List Item) → Type 0
IsOne n [] = ⊥
IsOne n (v ∷ vs) = (v.0 ≡ n) ⊎ IsOne n vs

is_one : (n : ℕ) (vs : List (ℕ × List Item)) → IsOne n vs ⊎ (IsOne n vs → ⊥)
is_one n [] = inr (λ none. none)
is_one n (v ∷ vs) = ⊎_elim (λ (same : v.0 ≡ n). inl (inl same))
    (λ (other : v.0 ≡ n → ⊥). ⊎_elim (λ (later : IsOne n vs). inl (inr later)) (λ (none : IsOne n vs → ⊥). inr (λ one. ⊎_elim other none one)) (is_one n vs)) (same_or_not v.0 n)

of_list : (n : ℕ) (vs : List (ℕ × List Item)) → Contains (numbers vs) n → IsOne n vs
of_list n [] has = absurd (omega (arith, has.1))
of_list n (v ∷ vs) (zero, h, is) = inl is
of_list n (v ∷ vs) (suc k, h, is) = inr (of_list n vs (k, omega (arith, h), is))

in_list : (n : ℕ) (vs : List (ℕ × List Item)) → IsOne n vs → Contains (numbers vs) n
in_list n [] one = absurd one
in_list n (v ∷ vs) (inl same) = (0, omega arith, same)
in_list n (v ∷ vs) (inr later) = let has : Contains (numbers vs) n = in_list n vs later in (suc has.0, omega (arith, has.1), has.2)

above : (k n : ℕ) (vs : List (ℕ × List Item)) → AllByRecursion (λ (v : ℕ × List Item). k < v.0) vs → IsOne n vs → k < n
above k n [] all one = absurd one
above k n (v ∷ vs) all (inl same) = omega (arith, all.0, same)
above k n (v ∷ vs) all (inr later) = above k n vs all.1 later

-- ---- what recovery would leave exists

cut_end : {X : Type 0} (R : List ℕ → X → Type 0) (bytes : List ℕ) (l : LabelFields) (number : ℤ) (values : List X) (torn : List ℕ) → IsTorn torn → LabelledFile R bytes l number values torn → (left : List ℕ) × IsMended R bytes l number values left
cut_end R bytes l number values torn is_torn h = (
  h.head ++ (frames h.payloads ++ []),
  record {
    torn = torn;
    is_torn = is_torn;
    is = h.is ∙ sym (append_assoc h.head (frames h.payloads) torn) ∙ ap (λ t. (h.head ++ t) ++ torn) (sym (append-nil (frames h.payloads)));
    whole = record { head = h.head; label = h.label; payloads = h.payloads; read = h.read; is = refl };
  },
)

cut_index : (bytes : List ℕ) (c : ArchiveContents) → IsIndex bytes c → (left : List ℕ) × IsMendedIndex bytes c left
cut_index bytes c (inl begins) = (label c.label (negsuc 1), inl (begins.1.short, refl))
cut_index bytes c (inr has) = (has.head ++ entries c.entries, inr (has, refl))

module _ (files : Files) (l : LabelFields) where
  abbrev MendedTo : (ℕ → List ℕ) → (ℕ × List Item) → Type 0
  MendedTo left v = IsMended IsItem (files (Volume v.0)) l (pos v.0) v.1 (left v.0)

  -- these volumes mended, and no other
  record Mended (vs : List (ℕ × List Item)) : Type 0 where
    left : ℕ → List ℕ
    mended : AllByRecursion (MendedTo left) vs
    others : (n : ℕ) → (IsOne n vs → ⊥) → left n ≡ []

  no_volume : Mended []
  no_volume = record { left = λ n. []; mended = tt; others = λ n none. refl }

  one_more : (v : ℕ × List Item) (vs : List (ℕ × List Item)) (bytes : List ℕ) → IsMended IsItem (files (Volume v.0)) l (pos v.0) v.1 bytes → AllByRecursion (λ (w : ℕ × List Item). v.0 < w.0) vs → Mended vs → Mended (v ∷ vs)
  one_more v vs bytes is rise m = record {
    left = λ n. if nat_eq v.0 n then bytes else m.left n;
    mended = (subst (IsMended IsItem (files (Volume v.0)) l (pos v.0) v.1) (sym (here v.0 refl)) is, each vs rise m.mended);
    others = none;
  }
    where
      here : (n : ℕ) → v.0 ≡ n → (if nat_eq v.0 n then bytes else m.left n) ≡ bytes
      here n same = ap (λ (b : Bool). if b then bytes else m.left n) (eq-eqb v.0 n same)

      there : (n : ℕ) → nat_eq v.0 n ≡ false → (if nat_eq v.0 n then bytes else m.left n) ≡ m.left n
      there n other = ap (λ (b : Bool). if b then bytes else m.left n) other

      each : (ws : List (ℕ × List Item)) → AllByRecursion (λ (w : ℕ × List Item). v.0 < w.0) ws → AllByRecursion (MendedTo m.left) ws → AllByRecursion (MendedTo (λ n. if nat_eq v.0 n then bytes else m.left n)) ws
      each [] up all = tt
      each (w ∷ ws) up all = (subst (IsMended IsItem (files (Volume w.0)) l (pos w.0) w.1) (sym (there w.0 (differs v.0 w.0 up.0))) all.0, each ws up.1 all.1)

      test : (n : ℕ) → (IsOne n (v ∷ vs) → ⊥) → (b : Bool) → nat_eq v.0 n ≡ b → (if b then bytes else m.left n) ≡ []
      test n other true same = absurd (other (inl (eqb-true v.0 n same)))
      test n other false same = m.others n (λ one. other (inr one))

      none : (n : ℕ) → (IsOne n (v ∷ vs) → ⊥) → (if nat_eq v.0 n then bytes else m.left n) ≡ []
      none n other = test n other (nat_eq v.0 n) refl

  with_last : (v : ℕ × List Item) → IsLastVolume (files (Volume v.0)) l v.0 v.1 → 132 ≤ length (files (Volume v.0)) → Mended (v ∷ [])
  with_last v (inl begins) long = absurd (omega (arith, begins.2.short, long))
  with_last v (inr (torn, is_torn, h)) long =
      let cut : (left : List ℕ) × IsMended IsItem (files (Volume v.0)) l (pos v.0) v.1 left = cut_end IsItem (files (Volume v.0)) l (pos v.0) v.1 torn is_torn h in one_more v [] cut.0 cut.1 tt no_volume

  mended_volumes : (vs : List (ℕ × List Item)) → AreVolumes files l vs → Mended (labelled_volumes files vs)
  mended_volumes [] are = no_volume
  mended_volumes (v ∷ []) are = test (nat_lt (length (files (Volume v.0))) 132) (λ long. ltb-false (length (files (Volume v.0))) 132 long)
    where
      test : (b : Bool) → (b ≡ false → 132 ≤ length (files (Volume v.0))) → Mended (if b then [] else v ∷ [])
      test true long = no_volume
      test false long = with_last v are (long refl)
  mended_volumes (v ∷ w ∷ vs) are =
      let cut : (left : List ℕ) × IsMended IsItem (files (Volume v.0)) l (pos v.0) v.1 left = cut_end IsItem (files (Volume v.0)) l (pos v.0) v.1 [] nothing_torn are.0 in
      one_more v (labelled_volumes files (w ∷ vs)) cut.0 cut.1 (each_left files (λ (x : ℕ × List Item). v.0 < x.0) (w ∷ vs) (others_above files l v (w ∷ vs) are)) (mended_volumes (w ∷ vs) are.2)

abbrev put_together : List ℕ → List ℕ → (ℕ → List ℕ) → Files
put_together meta index volumes Meta = meta
put_together meta index volumes Index = index
put_together meta index volumes (Volume n) = volumes n

-- the volumes that recovery would leave
record AllLeft (files : Files) (l : LabelFields) (vs : List (ℕ × List Item)) : Type 0 where
  left : ℕ → List ℕ
  mended : (meta index : List ℕ) → AreMended files l (put_together meta index left) vs
  others : (n : ℕ) → (Contains (map (λ v. v.0) (or_first_volume vs)) n → ⊥) → left n ≡ []

all_left : (files : Files) (l : LabelFields) (vs : List (ℕ × List Item)) → Mended files l vs → AllLeft files l vs
all_left files l [] m = record { left = λ n. if nat_eq 0 n then label l (pos 0) else []; mended = λ meta index. refl; others = λ n none. test n none (nat_eq 0 n) refl }
  where
    test : (n : ℕ) → (Contains (0 ∷ []) n → ⊥) → (b : Bool) → nat_eq 0 n ≡ b → (if b then label l (pos 0) else []) ≡ []
    test n none true same = absurd (none (0, omega arith, eqb-true 0 n same))
    test n none false same = refl
all_left files l (v ∷ vs) m = record { left = m.left; mended = λ meta index. m.mended; others = λ n none. m.others n (λ one. none (in_list n (v ∷ vs) one)) }

recovered : (files : Files) (c : ArchiveContents) → IsArchive files c → (left : Files) × IsRecovered files c left
recovered files c is =
    let meta : (left : List ℕ) × IsMended IsRecord (files Meta) c.label (negsuc 0) c.records left = cut_end IsRecord (files Meta) c.label (negsuc 0) c.records is.meta.torn is.meta.is_torn is.meta.holds in
    let index : (left : List ℕ) × IsMendedIndex (files Index) c left = cut_index (files Index) c is.index in
    let all : AllLeft files c.label (labelled_volumes files c.volumes) = all_left files c.label (labelled_volumes files c.volumes) (mended_volumes files c.label c.volumes is.volumes) in
    (put_together meta.0 index.0 all.left, record { meta = meta.1; index = index.1; volumes = all.mended meta.0 index.0; others = all.others })

-- ---- volumes with their label

module _ (files : Files) (l : LabelFields) where
  long_is_left : (n : ℕ) (vs : List (ℕ × List Item)) → IsOne n vs → 132 ≤ length (files (Volume n)) → IsOne n (labelled_volumes files vs)
  long_is_left n [] one long = one
  long_is_left n (v ∷ []) (inl same) long =
      subst (λ (b : Bool). IsOne n (if b then [] else v ∷ [])) (sym (le-ltb (length (files (Volume v.0))) 132 (subst (λ k. 132 ≤ length (files (Volume k))) (sym same) long))) (inl same)
  long_is_left n (v ∷ []) (inr none) long = absurd none
  long_is_left n (v ∷ w ∷ vs) (inl same) long = inl same
  long_is_left n (v ∷ w ∷ vs) (inr later) long = inr (long_is_left n (w ∷ vs) later long)

  -- one that ends within its label is above all that don't
  short_is_above : (n m : ℕ) (vs : List (ℕ × List Item)) → AreVolumes files l vs → IsOne n vs → IsOne m vs → length (files (Volume n)) < 132 → 132 ≤ length (files (Volume m)) → m < n
  short_is_above n m [] are a b short long = absurd a
  short_is_above n m (v ∷ []) are (inl p) (inl q) short long = absurd (omega (arith, ap (λ k. length (files (Volume k))) (sym p ∙ q), short, long))
  short_is_above n m (v ∷ []) are (inl p) (inr b) short long = absurd b
  short_is_above n m (v ∷ []) are (inr a) b short long = absurd a
  short_is_above n m (v ∷ w ∷ vs) are (inl p) b short long = absurd (omega (arith, labelled_long IsItem (files (Volume v.0)) l (pos v.0) v.1 [] are.0, ap (λ k. length (files (Volume k))) p, short))
  short_is_above n m (v ∷ w ∷ vs) are (inr a) (inl q) short long = omega (arith, above v.0 n (w ∷ vs) (others_above files l v (w ∷ vs) are) a, q)
  short_is_above n m (v ∷ w ∷ vs) are (inr a) (inr b) short long = short_is_above n m (w ∷ vs) are.2 a b short long

  -- a property of each volume that is left is one of each volume, where it holds of those without an item
  each_was : (P : (ℕ × List Item) → Type 0) → ((v : ℕ × List Item) → v.1 ≡ [] → P v) → (vs : List (ℕ × List Item)) → AreVolumes files l vs → AllByRecursion P (labelled_volumes files vs) → AllByRecursion P vs
  each_was P empty [] are all = tt
  each_was P empty (v ∷ []) are all = test (nat_lt (length (files (Volume v.0))) 132) (λ e. ltb-true (length (files (Volume v.0))) 132 e) all
    where
      test : (b : Bool) → (b ≡ true → length (files (Volume v.0)) < 132) → AllByRecursion P (if b then [] else v ∷ []) → AllByRecursion P (v ∷ [])
      test true short all = (empty v (no_item (files (Volume v.0)) l v.0 v.1 are (short refl)), tt)
      test false short all = all
  each_was P empty (v ∷ w ∷ vs) are all = (all.0, each_was P empty (w ∷ vs) are.2 all.1)

not_first : (P : (ℕ × List Item) → Type 0) (vs : List (ℕ × List Item)) → AllByRecursion P (or_first_volume vs) → AllByRecursion P vs
not_first P [] all = tt
not_first P (v ∷ vs) all = all

of_first : (n m : ℕ) (vs : List (ℕ × List Item)) → IsOne m vs → Contains (numbers (or_first_volume vs)) n → IsOne n vs
of_first n m [] one has = absurd one
of_first n m (v ∷ vs) one has = of_list n (v ∷ vs) has

-- ---- sound before recovery

-- an entry's volume, where it isn't empty, holds its whole label
abbrev HasLabel : Files → Entry → Type 0
HasLabel files e = 0 < length (files (Volume e.volume)) → 132 ≤ length (files (Volume e.volume))

module _ (files left : Files) (c : ArchiveContents) (is : IsArchive files c) (r : IsRecovered files c left) where
  abbrev IsMendedVolume : ℕ → Type 0
  IsMendedVolume n = (items : List Item) × IsMended IsItem (files (Volume n)) c.label (pos n) items (left (Volume n))

  each_mended : (vs : List (ℕ × List Item)) → AreMended files c.label left vs → (n : ℕ) → IsOne n vs → IsMendedVolume n
  each_mended [] are n one = absurd one
  each_mended (v ∷ vs) are n one = find (v ∷ vs) are one
    where
      find : (ws : List (ℕ × List Item)) → AllByRecursion (λ (w : ℕ × List Item). IsMended IsItem (files (Volume w.0)) c.label (pos w.0) w.1 (left (Volume w.0))) ws → IsOne n ws → IsMendedVolume n
      find [] all one = absurd one
      find (w ∷ ws) all (inl same) = subst IsMendedVolume same (w.1, all.0)
      find (w ∷ ws) all (inr later) = find ws all.1 later

  one_of : (n : ℕ) → 0 < length (files (Volume n)) → IsOne n c.volumes
  one_of n some = ⊎_elim (λ (one : IsOne n c.volumes). one) (λ (none : IsOne n c.volumes → ⊥). absurd (omega (arith, some, ap length (is.others n (λ has. none (of_list n c.volumes has)))))) (is_one n c.volumes)

  mended_long : (n : ℕ) → 132 ≤ length (files (Volume n)) → IsMendedVolume n
  mended_long n long = each_mended (labelled_volumes files c.volumes) r.volumes n (long_is_left files c.label n c.volumes (one_of n (omega (arith, long))) long)

  module _ (m : ℕ) (long : 132 ≤ length (files (Volume m))) where
    -- a volume of which recovery leaves bytes holds its label
    left_long : (n : ℕ) → 0 < length (left (Volume n)) → 132 ≤ length (files (Volume n))
    left_long n some = ⊎_elim
        (λ (one : IsOne n (labelled_volumes files c.volumes)).
        let v : IsMendedVolume n = each_mended (labelled_volumes files c.volumes) r.volumes n one in
        let whole : 132 ≤ length (left (Volume n)) = labelled_long IsItem (left (Volume n)) c.label (pos n) v.0 [] v.1.whole in
        omega (arith, whole, ap length v.1.is, length-append (left (Volume n)) v.1.torn))
        (λ (none : IsOne n (labelled_volumes files c.volumes) → ⊥).
        let first : IsOne m (labelled_volumes files c.volumes) = long_is_left files c.label m c.volumes (one_of m (omega (arith, long))) long in
        absurd (omega (arith, some, ap length (r.others n (λ has. none (of_first n m (labelled_volumes files c.volumes) first has))))))
        (is_one n (labelled_volumes files c.volumes))

    has_label : (e : Entry) → IsSoundEntry left (recovered_contents files c) e → HasLabel files e
    has_label e sound some = ⊎_elim
        (λ (short : length (files (Volume e.volume)) < 132).
        let top : ℕ = sound.not_above.0 in
        let named : 132 ≤ length (files (Volume top)) = left_long top sound.not_above.1 in
        absurd (omega (arith, sound.not_above.2, short_is_above files c.label e.volume top c.volumes is.volumes (one_of e.volume some) (one_of top (omega (arith, named))) short named)))
        (λ (named : 132 ≤ length (files (Volume e.volume))). named) (cases_lt (length (files (Volume e.volume))) 132)

    pointed : (e : Entry) → IsSoundEntry left (recovered_contents files c) e → 132 ≤ length (files (Volume e.volume)) → PointsWell files c e
    pointed e sound named =
        let v : IsMendedVolume e.volume = mended_long e.volume named in
        let whole : 132 ≤ length (left (Volume e.volume)) = labelled_long IsItem (left (Volume e.volume)) c.label (pos e.volume) v.0 [] v.1.whole in
        let now : PointsWell left (recovered_contents files c) e = sound.points (omega (arith, whole)) in
        record {
          records = now.records;
          meta = subst (λ t. IsBoundary t e.meta now.records) (sym r.meta.is) (boundary_stays (left Meta) r.meta.torn e.meta now.records now.meta);
          domains = now.domains;
          items = now.items;
          volume = subst (λ t. IsBoundary t e.offset now.items) (sym v.1.is) (boundary_stays (left (Volume e.volume)) v.1.torn e.offset now.items now.volume);
          before = each_was files c.label (λ (w : ℕ × List Item). w.0 ≡ e.volume → NoItemAfter e.stamp (take now.items w.1))
              (λ w none same. subst (NoItemAfter e.stamp) (sym (ap (take now.items) none ∙ take-nil now.items)) tt) c.volumes is.volumes
              (not_first (λ (w : ℕ × List Item). w.0 ≡ e.volume → NoItemAfter e.stamp (take now.items w.1)) (labelled_volumes files c.volumes) now.before);
          earlier = each_was files c.label (λ (w : ℕ × List Item). w.0 < e.volume → NoItemAfter e.stamp w.1) (λ w none low. subst (NoItemAfter e.stamp) (sym none) tt) c.volumes is.volumes
              (not_first (λ (w : ℕ × List Item). w.0 < e.volume → NoItemAfter e.stamp w.1) (labelled_volumes files c.volumes) now.earlier);
        }

    was_sound : (e : Entry) → IsSoundEntry left (recovered_contents files c) e → IsSoundEntry files c e
    was_sound e sound = record {
      not_above = (sound.not_above.0, omega (arith, left_long sound.not_above.0 sound.not_above.1), sound.not_above.2);
      points = λ some. pointed e sound (has_label e sound some);
    }

    each_entry : (es : List Entry) → AllByRecursion (IsSoundEntry left (recovered_contents files c)) es → AllByRecursion (IsSoundEntry files c) es × AllByRecursion (HasLabel files) es
    each_entry [] all = (tt, tt)
    each_entry (e ∷ es) all = let more = each_entry es all.1 in ((was_sound e all.0, more.0), (has_label e all.0, more.1))

  all_entries : AllByRecursion (IsSoundEntry left (recovered_contents files c)) c.entries → (c.entries ≡ []) ⊎ ((n : ℕ) × (132 ≤ length (files (Volume n)))) → AllByRecursion (IsSoundEntry files c) c.entries × AllByRecursion (HasLabel files) c.entries
  all_entries all (inl none) = (subst (AllByRecursion (IsSoundEntry files c)) (sym none) tt, subst (AllByRecursion (HasLabel files)) (sym none) tt)
  all_entries all (inr (m, long)) = each_entry m long c.entries all

  sound_before : IsSound left (ArchiveReading.archive (recovered_contents files c)) → IsSound files (ArchiveReading.archive c) × AllByRecursion (HasLabel files) c.entries
  sound_before sound =
      let both : AllByRecursion (IsSoundEntry files c) c.entries × AllByRecursion (HasLabel files) c.entries = all_entries sound.1 is.labelled in
      ((subst NeverFalls (recovered_items files left c is r) sound.0, both.0), both.1)

-- ---- where a search begins

abbrev entries_of : ArchiveReading → List Entry
entries_of ArchiveReading.nothing = []
entries_of (ArchiveReading.archive c) = c.entries

pub torn_is_sound : (files : Files) (reading : ArchiveReading) → Reads files reading → RecoversSound files → IsSound files reading × AllByRecursion (HasLabel files) (entries_of reading)
torn_is_sound files ArchiveReading.nothing reads sound = (tt, tt)
torn_is_sound files (ArchiveReading.archive c) reads sound =
    let r : (left : Files) × IsRecovered files c left = recovered files c reads in sound_before files r.0 c reads r.1 (sound (ArchiveReading.archive c) reads r.0 r.1)

no_meta : (files : Files) (l : LabelFields) (records : List MetaRecord) (entries : List Entry) (vs : List (ℕ × ℕ)) → IsStoppedCreation files → IsLabelledArchive files l records entries vs → ⊥
no_meta files l records entries vs stop kept =
    let long : 132 ≤ length (files Meta) = labelled_long IsRecord (files Meta) l (negsuc 0) records kept.meta.torn kept.meta.holds in
    ⊎_elim (λ (none : files Meta ≡ []). omega (arith, ap length none, long)) (λ (begins : (l : LabelFields) × BeginsLabel (files Meta) l (negsuc 0)). omega (arith, begins.1.short, long)) stop.meta

kept_entries : (files : Files) (reading : ArchiveReading) (label : Option LabelFields) (records : List MetaRecord) (entries : List Entry) (vs : List (ℕ × ℕ)) → Reads files reading → IsKeptOf files label records entries vs → entries_of reading ≡ entries
kept_entries files ArchiveReading.nothing None records entries vs reads kept = sym kept.2
kept_entries files ArchiveReading.nothing (Some l) records entries vs reads kept = absurd (no_meta files l records entries vs reads kept)
kept_entries files (ArchiveReading.archive c) None records entries vs reads kept = absurd (let both : ArchiveReading.archive c ≡ ArchiveReading.nothing = one_reading files (ArchiveReading.archive c) ArchiveReading.nothing reads kept.0 in cc)
kept_entries files (ArchiveReading.archive c) (Some l) records entries vs reads kept = (same_as files c l records entries vs reads kept).entries_are

-- the last entry of which a test holds is one of the entries
last_has : (P : Entry → Type 0) (test : Entry → Bool) (es : List Entry) → AllByRecursion P es → IfSome (last_entry test es) P
last_has P test [] all = tt
last_has P test (e ∷ es) all = step (last_entry test es) (test e) (last_has P test es all.1)
  where
    step : (o : Option Entry) (b : Bool) → IfSome o P → IfSome (or_else o (if b then Some e else None)) P
    step (Some f) b such = such
    step None true such = all.0
    step None false such = tt

not_in_label : (files : Files) (vs : List (ℕ × ℕ)) (o : Option Entry) → IfSome o (HasLabel files) → BeginsInCutLabel files (begin_of vs o) → ⊥
not_in_label files vs None named cut = cut
not_in_label files vs (Some e) named cut = go (length_of e.volume vs) cut
  where
    test : (b d : Bool) → BeginsInCutLabel files (if b then Outside e.volume e.offset else (if d then Outside e.volume e.offset else At e.volume e.offset)) → ⊥
    test true d cut = omega (arith, named cut.0, cut.1)
    test false true cut = omega (arith, named cut.0, cut.1)
    test false false cut = cut

    go : (end : Option ℕ) → BeginsInCutLabel files (begin_in vs e end) → ⊥
    go None cut = cut
    go (Some end) cut = test (nat_lt e.offset 132) (nat_lt end e.offset) cut

-- ---- what is left by a stop is searched to the end

module _ (files : Files) (reading : ArchiveReading) (reads : Reads files reading) (left_sound : RecoversSound files) (r : Loaded) (over : IsOver files r) where
  begins_well : (test : Entry → Bool) → BeginsInCutLabel files (begin_of r.volumes (last_entry test r.entries)) → ⊥
  begins_well test =
      let same : entries_of reading ≡ r.entries = kept_entries files reading r.label r.records r.entries r.volumes reads over in
      let labels : AllByRecursion (HasLabel files) r.entries = subst (AllByRecursion (HasLabel files)) same (torn_is_sound files reading reads left_sound).1 in
      not_in_label files r.volumes (last_entry test r.entries) (last_has (HasLabel files) test r.entries labels)

  pub last_never_refused : (t : Moment) (file : FileId) (offset : ℕ) → IsAtFault files r.volumes t (at_begin r t) (NotArchive file offset) → ⊥
  last_never_refused t file offset fault =
      begins_well (is_entry_by t) ((sound_finds_last files reading r t reads (torn_is_sound files reading reads left_sound).0 over).refused file offset fault)

  pub range_never_refused : (from to : Moment) (file : FileId) (offset : ℕ) → IsRangeFault files r.volumes to (range_begin r from) (NotArchive file offset) → ⊥
  range_never_refused from to file offset fault =
      begins_well (is_entry_before from) ((sound_finds_range files reading r from to reads (torn_is_sound files reading reads left_sound).0 over).refused file offset fault)
