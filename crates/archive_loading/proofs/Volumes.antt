-- The volumes so far, as far as their labels go.
use Rattle.std.proofs.Common.{◌≡◌, ◌⊎◌, inl, inr, ⊎_elim, ℕ, pos, ◌+◌, ◌-◌, ◌<◌, ◌≤◌, true, false, List, [], ◌∷◌, ◌++◌, length, sym, ◌∙◌, subst, arith, eqb-true, eq-eqb}
use Rattle.std.specs.Prelude.{Contains, nat_eq}
use Rattle.std.specs.List.{AllByRecursion}
use Rattle.std.proofs.lemmas.Bool.{cases_lt}
use Rattle.std.proofs.lemmas.List.{map-append}
use Rattle.std.proofs.lemmas.List.Elements.{All-contains, All-from_recursion, Contains-append_left, Contains-push}
use Rattle.pcp_base.specs.declared.file.FileId.TheVariants.{Volume}
use Rattle.pcp_model.proofs.Lists.{each-append, each-map}
use Rattle.pcp_model.specs.Disk.{Files, Holdings, contents_of}
use Rattle.pcp_model.specs.LabelFields.{LabelFields}
use Rattle.pcp_model.specs.Labels.{BeginsLabel}
use Rattle.pcp_outside.specs.Devices.{IsVolumes}
use Rattle.archive_loading.specs.declared.loading.VolumePart.TheVariants.{Headed, Stops as StopsAt}
use Rattle.archive_loading.specs.Loaded.{IsLabelled, IsHeaded, Rises, AreLabelled, IsMeasured, numbers}
use Rattle.archive_loading.specs.LoadFaults.{VolumeStops, AreLabelledBelow, IsFollowed}
use Rattle.archive_loading.specs.Volumes.{IsVolumePart}

-- a volume of so many has its label, or it is the last one and ends within it
abbrev pub IsHeadedOf : Files → LabelFields → ℕ → ℕ × ℕ → Type 0
IsHeadedOf files l count v = (v.1 ≡ length (files (Volume v.0))) × (0 < v.1)
    × (IsLabelled (files (Volume v.0)) l v.0 ⊎ (BeginsLabel (files (Volume v.0)) l (pos v.0) × (v.0 + 1 ≡ count)))

-- those below a number
pub record SoFar (files : Files) (l : LabelFields) (count n : ℕ) (vs : List (ℕ × ℕ)) : Type 0 where
  pub each : AllByRecursion (IsHeadedOf files l count) vs
  pub rises : Rises vs
  pub below : AllByRecursion (λ (v : ℕ × ℕ). v.0 < n) vs
  pub told : (k : ℕ) → k < n → (files (Volume k) ≡ []) ⊎ Contains (numbers vs) k

pub none_yet : (files : Files) (l : LabelFields) (count : ℕ) → SoFar files l count 0 []
none_yet files l count = record { each = tt; rises = tt; below = tt; told = λ k lt. absurd (omega arith) }

still_told : (vs : List (ℕ × ℕ)) (v : ℕ × ℕ) (n : ℕ) → Contains (numbers vs) n → Contains (numbers (vs ++ v ∷ [])) n
still_told vs v n told = subst (λ ns. Contains ns n) (sym (map-append (λ (w : ℕ × ℕ). w.0) vs (v ∷ []))) (Contains-append_left (numbers vs) (v.0 ∷ []) n told)

now_told : (vs : List (ℕ × ℕ)) (v : ℕ × ℕ) → Contains (numbers (vs ++ v ∷ [])) v.0
now_told vs v = subst (λ ns. Contains ns v.0) (sym (map-append (λ (w : ℕ × ℕ). w.0) vs (v ∷ []))) (Contains-push (numbers vs) v.0)

told_next : {P : ℕ → Type 0} (n : ℕ) → ((m : ℕ) → m < n → P m) → P n → (m : ℕ) → m < n + 1 → P m
told_next {P} n below here m h = ⊎_elim (below m) (λ (le : n ≤ m). subst P (let e : n ≡ m = omega arith in e) here) (cases_lt m n)

above : (n : ℕ) (vs : List (ℕ × ℕ)) → AllByRecursion (λ (v : ℕ × ℕ). v.0 < n) vs → AllByRecursion (λ (v : ℕ × ℕ). v.0 < n + 1) vs
above n vs all = each-map (λ (v : ℕ × ℕ). v.0 < n) (λ (v : ℕ × ℕ). v.0 < n + 1) (λ v lt. omega (arith, lt)) vs all

rises_push : (n end : ℕ) (vs : List (ℕ × ℕ)) → Rises vs → AllByRecursion (λ (v : ℕ × ℕ). v.0 < n) vs → Rises (vs ++ (n, end) ∷ [])
rises_push n end [] rises below = (tt, tt)
rises_push n end (v ∷ vs) rises below = (each-append (λ (w : ℕ × ℕ). v.0 < w.0) vs ((n, end) ∷ []) rises.0 (below.0, tt), rises_push n end vs rises.1 below.1)

-- they rise, all below a number
abbrev pub RiseTo : ℕ → List (ℕ × ℕ) → Type 0
RiseTo n vs = Rises vs × AllByRecursion (λ (v : ℕ × ℕ). v.0 < n) vs

pub rise_on : (n : ℕ) (vs : List (ℕ × ℕ)) → RiseTo n vs → RiseTo (n + 1) vs
rise_on n vs r = (r.0, above n vs r.1)

pub rise_with : (n end : ℕ) (vs : List (ℕ × ℕ)) → RiseTo n vs → RiseTo (n + 1) (vs ++ (n, end) ∷ [])
rise_with n end vs r = (
  rises_push n end vs r.0 r.1,
  each-append (λ (v : ℕ × ℕ). v.0 < n + 1) vs ((n, end) ∷ []) (above n vs r.1) (let lt : n < n + 1 = omega arith in lt, tt),
)

pub skips : (files : Files) (l : LabelFields) (count n : ℕ) (vs : List (ℕ × ℕ)) → files (Volume n) ≡ [] → SoFar files l count n vs → SoFar files l count (n + 1) vs
skips files l count n vs none s = record {
  each = s.each;
  rises = s.rises;
  below = above n vs s.below;
  told = told_next {P = λ m. (files (Volume m) ≡ []) ⊎ Contains (numbers vs) m} n s.told (inl none);
}

pub adds : (files : Files) (l : LabelFields) (count n end : ℕ) (vs : List (ℕ × ℕ)) → IsHeadedOf files l count (n, end) → SoFar files l count n vs → SoFar files l count (n + 1) (vs ++ (n, end) ∷ [])
adds files l count n end vs headed s = record {
  each = each-append (IsHeadedOf files l count) vs ((n, end) ∷ []) s.each (headed, tt);
  rises = rises_push n end vs s.rises s.below;
  below = each-append (λ (v : ℕ × ℕ). v.0 < n + 1) vs ((n, end) ∷ []) (above n vs s.below) (let lt : n < n + 1 = omega arith in lt, tt);
  told = told_next {P = λ m. (files (Volume m) ≡ []) ⊎ Contains (numbers (vs ++ (n, end) ∷ [])) m} n
      (λ m h. ⊎_elim (λ (none : files (Volume m) ≡ []). inl none) (λ (told : Contains (numbers vs) m). inr (still_told vs (n, end) m told)) (s.told m h))
      (inr (now_told vs (n, end)));
}

-- one of those that are listed has its label, or is the last of all
abbrev IsGood : Files → LabelFields → ℕ → ℕ → Type 0
IsGood files l count k = IsLabelled (files (Volume k)) l k ⊎ (k + 1 ≡ count)

good_numbers : (files : Files) (l : LabelFields) (count : ℕ) (vs : List (ℕ × ℕ)) → AllByRecursion (IsHeadedOf files l count) vs → AllByRecursion (IsGood files l count) (numbers vs)
good_numbers files l count [] all = tt
good_numbers files l count (v ∷ vs) all = (⊎_elim (λ label. inl label) (λ part. inr part.1) all.0.2, good_numbers files l count vs all.1)

pub labelled_below : (files : Files) (l : LabelFields) (count n : ℕ) (vs : List (ℕ × ℕ)) → n < count → SoFar files l count n vs → AreLabelledBelow files l n
labelled_below files l count n vs lt s k low = ⊎_elim (λ none. inl none)
    (λ told. ⊎_elim (λ label. inr label) (λ last. absurd (omega (arith, last, low, lt)))
    (All-contains (IsGood files l count) (numbers vs) k (All-from_recursion (IsGood files l count) (numbers vs) (good_numbers files l count vs s.each)) told))
    (s.told k low)

pub all_headed : (held : Holdings) (l : LabelFields) (count : ℕ) (vs : List (ℕ × ℕ)) → IsVolumes held count → SoFar (contents_of held) l count count vs
    → AreLabelled (contents_of held) l vs × ((n : ℕ) → (Contains (numbers vs) n → ⊥) → contents_of held (Volume n) ≡ [])
all_headed held l count vs all s = (
  (each-map (IsHeadedOf (contents_of held) l count) (IsHeaded (contents_of held) l) headed vs s.each, s.rises),
  λ n other. ⊎_elim (λ lt. ⊎_elim (λ none. none) (λ told. absurd (other told)) (s.told n lt)) (λ le. all.past n le) (cases_lt n count),
)
  where
    headed : (v : ℕ × ℕ) → IsHeadedOf (contents_of held) l count v → IsHeaded (contents_of held) l v
    headed v h = (h.0, h.1, ⊎_elim (λ label. inl label) (λ part. inr (part.0, (λ k up. all.past k (omega (arith, part.1, up))))) h.2)

-- a volume that isn't as it should be
pub one_stops : (held : Holdings) (l : LabelFields) (count n offset : ℕ) (vs : List (ℕ × ℕ)) → IsVolumes held count → n < count → SoFar (contents_of held) l count n vs
    → IsVolumePart (contents_of held) l n (nat_eq (n + 1) count) (StopsAt offset) → AreLabelledBelow (contents_of held) l n × VolumeStops (contents_of held) l n offset
one_stops held l count n offset vs all lt s (some, why) = (
  labelled_below (contents_of held) l count n vs lt s,
  (some, ⊎_elim (λ label. inl label) (λ rest. ⊎_elim (λ part. inr (inl (part.0, part.1, followed part.2))) (λ high. inr (inr high)) rest) why),
)
  where
    no : nat_eq (n + 1) count ≡ true → nat_eq (n + 1) count ≡ false → ⊥
    no a b = let both : true ≡ false = sym a ∙ b in cc

    up : nat_eq (n + 1) count ≡ false → n < count - 1
    up last = ⊎_elim (λ more. omega (arith, more)) (λ le. absurd (no (eq-eqb (n + 1) count (omega (arith, le, lt))) last)) (cases_lt (n + 1) count)

    followed : nat_eq (n + 1) count ≡ false → IsFollowed (contents_of held) n
    followed last = (count - 1, up last, all.last (count - 1) (omega (arith, lt)))

-- the volume as it was found
pub headed_here : (files : Files) (l : LabelFields) (count n end : ℕ) → IsVolumePart files l n (nat_eq (n + 1) count) (Headed end) → IsHeadedOf files l count (n, end)
headed_here files l count n end part = (part.0, part.1, ⊎_elim (λ label. inl label) (λ begun. inr (begun.0, eqb-true (n + 1) count begun.1)) part.2)

-- ---- what a reader wants of them

pub measured : (files : Files) (l : LabelFields) (vs : List (ℕ × ℕ)) → AreLabelled files l vs → AllByRecursion (IsMeasured files) vs
measured files l vs are = each-map (IsHeaded files l) (IsMeasured files) (λ v h. h.0) vs are.0
