-- The record boundaries of a file as a list: which of them is next to an offset.
use Rattle.std.proofs.Common.{zero, suc, ◌≡◌, ◌⊎◌, inl, inr, ⊎_elim, ℕ, ℤ, pos, ◌+◌, ◌<◌, ◌≤◌, List, [], ◌∷◌, ◌++◌, length, take, drop, refl, sym, ap, ◌∙◌, subst, append_assoc, arith, length-append}
use Rattle.std.proofs.lemmas.Bool.{cases_eq, cases_lt}
use Rattle.std.proofs.lemmas.List.{drop_at, length-take, take-append-drop}
use Rattle.pcp_base.specs.declared.result.Item.{Item}
use Rattle.pcp_model.specs.Archive.{LabelledFile, IsLastVolume}
use Rattle.pcp_model.specs.Frame.{IsFrameable, IsTorn, frame, frames}
use Rattle.pcp_model.specs.LabelFields.{LabelFields}
use Rattle.pcp_model.specs.Payload.{IsItem}
use Rattle.pcp_model.specs.Sound.{IsBoundary}
use Rattle.pcp_model.proofs.Boundaries.{boundary_of_file}
use Rattle.pcp_model.proofs.Cuts.{as_many, frameable, frames-append, length_of_label}
use Rattle.pcp_model.proofs.Lists.{each-first}
use Rattle.pcp_model.proofs.Sound.{label_boundary}
use Rattle.archive_reader.proofs.Archives.{short_boundary}
use Rattle.archive_check.specs.Breaches.{AtBoundary, IsBelow, IsAbove, IsBetween}

-- ---- numbers of a list

abbrev pub IsIn : ℕ → List ℕ → Type 0
IsIn n [] = ⊥
IsIn n (m ∷ ms) = (n ≡ m) ⊎ IsIn n ms

pub in_or_not : (n : ℕ) (ns : List ℕ) → IsIn n ns ⊎ (IsIn n ns → ⊥)
in_or_not n [] = inr (λ h. h)
in_or_not n (m ∷ ms) =
    ⊎_elim (λ (same : n ≡ m). let found : IsIn n (m ∷ ms) ⊎ (IsIn n (m ∷ ms) → ⊥) = inl (inl same) in found)
    (λ (other : n ≡ m → ⊥).
    ⊎_elim (λ (there : IsIn n ms). let found : IsIn n (m ∷ ms) ⊎ (IsIn n (m ∷ ms) → ⊥) = inl (inr there) in found)
    (λ (none : IsIn n ms → ⊥). let found : IsIn n (m ∷ ms) ⊎ (IsIn n (m ∷ ms) → ⊥) = inr (λ h. ⊎_elim other none h) in found) (in_or_not n ms)) (cases_eq n m)

-- the greatest below an offset, if one is
abbrev Greatest : ℕ → List ℕ → ℕ → Type 0
Greatest n ns m = IsIn m ns × (m < n) × ((k : ℕ) → IsIn k ns → k < n → k ≤ m)

abbrev GreatestOrNone : ℕ → List ℕ → Type 0
GreatestOrNone n ns = ((m : ℕ) × Greatest n ns m) ⊎ ((k : ℕ) → IsIn k ns → k < n → ⊥)

lower : (n m : ℕ) (ms : List ℕ) → (m < n → ⊥) → GreatestOrNone n ms → GreatestOrNone n (m ∷ ms)
lower n m ms high (inl (g, (is, below, most))) =
    inl (g, (inr is, below, λ k h lt. ⊎_elim (λ (same : k ≡ m). absurd (high (omega (arith, same, lt)))) (λ (there : IsIn k ms). most k there lt) h))
lower n m ms high (inr none) = inr (λ k h lt. ⊎_elim (λ (same : k ≡ m). high (omega (arith, same, lt))) (λ (there : IsIn k ms). none k there lt) h)

among_lower : (n m g : ℕ) (ms : List ℕ) → m < n → Greatest n ms g → GreatestOrNone n (m ∷ ms)
among_lower n m g ms low (is, below, most) =
    ⊎_elim (λ (lt : g < m). let found : GreatestOrNone n (m ∷ ms) = inl (m, (inl refl, low, λ k h below_n. ⊎_elim (λ (same : k ≡ m). omega (arith, same)) (λ (there : IsIn k ms). let le : k ≤ g = most k there below_n in omega (arith, le, lt)) h)) in found)
    (λ (ge : m ≤ g). let found : GreatestOrNone n (m ∷ ms) = inl (g, (inr is, below, λ k h below_n. ⊎_elim (λ (same : k ≡ m). omega (arith, same, ge)) (λ (there : IsIn k ms). most k there below_n) h)) in found) (cases_lt g m)

with_lower : (n m : ℕ) (ms : List ℕ) → m < n → GreatestOrNone n ms → GreatestOrNone n (m ∷ ms)
with_lower n m ms low (inl (g, so)) = among_lower n m g ms low so
with_lower n m ms low (inr none) = inl (m, (inl refl, low, λ k h lt. ⊎_elim (λ (same : k ≡ m). omega (arith, same)) (λ (there : IsIn k ms). absurd (none k there lt)) h))

greatest : (n : ℕ) (ns : List ℕ) → GreatestOrNone n ns
greatest n [] = inr (λ k h lt. h)
greatest n (m ∷ ms) = ⊎_elim (λ (low : m < n). with_lower n m ms low (greatest n ms)) (λ (high : n ≤ m). lower n m ms (λ lt. omega (arith, high, lt)) (greatest n ms)) (cases_lt m n)

-- the least above it, if one is
abbrev Least : ℕ → List ℕ → ℕ → Type 0
Least n ns m = IsIn m ns × (n < m) × ((k : ℕ) → IsIn k ns → n < k → m ≤ k)

abbrev LeastOrNone : ℕ → List ℕ → Type 0
LeastOrNone n ns = ((m : ℕ) × Least n ns m) ⊎ ((k : ℕ) → IsIn k ns → n < k → ⊥)

higher : (n m : ℕ) (ms : List ℕ) → (n < m → ⊥) → LeastOrNone n ms → LeastOrNone n (m ∷ ms)
higher n m ms low (inl (g, (is, above, fewest))) =
    inl (g, (inr is, above, λ k h lt. ⊎_elim (λ (same : k ≡ m). absurd (low (omega (arith, same, lt)))) (λ (there : IsIn k ms). fewest k there lt) h))
higher n m ms low (inr none) = inr (λ k h lt. ⊎_elim (λ (same : k ≡ m). low (omega (arith, same, lt))) (λ (there : IsIn k ms). none k there lt) h)

among_higher : (n m g : ℕ) (ms : List ℕ) → n < m → Least n ms g → LeastOrNone n (m ∷ ms)
among_higher n m g ms high (is, above, fewest) =
    ⊎_elim (λ (lt : m < g). let found : LeastOrNone n (m ∷ ms) = inl (m, (inl refl, high, λ k h above_n. ⊎_elim (λ (same : k ≡ m). omega (arith, same)) (λ (there : IsIn k ms). let le : g ≤ k = fewest k there above_n in omega (arith, le, lt)) h)) in found)
    (λ (ge : g ≤ m). let found : LeastOrNone n (m ∷ ms) = inl (g, (inr is, above, λ k h above_n. ⊎_elim (λ (same : k ≡ m). omega (arith, same, ge)) (λ (there : IsIn k ms). fewest k there above_n) h)) in found) (cases_lt m g)

with_higher : (n m : ℕ) (ms : List ℕ) → n < m → LeastOrNone n ms → LeastOrNone n (m ∷ ms)
with_higher n m ms high (inl (g, so)) = among_higher n m g ms high so
with_higher n m ms high (inr none) = inl (m, (inl refl, high, λ k h lt. ⊎_elim (λ (same : k ≡ m). omega (arith, same)) (λ (there : IsIn k ms). absurd (none k there lt)) h))

least : (n : ℕ) (ns : List ℕ) → LeastOrNone n ns
least n [] = inr (λ k h lt. h)
least n (m ∷ ms) = ⊎_elim (λ (high : n < m). with_higher n m ms high (least n ms)) (λ (low : m ≤ n). higher n m ms (λ lt. omega (arith, low, lt)) (least n ms)) (cases_lt n m)

-- ---- a file whose boundaries are a list

pub record HasBounds (bytes : List ℕ) : Type 0 where
  pub offsets : List ℕ
  pub all : (offset : ℕ) → AtBoundary bytes offset → IsIn offset offsets
  pub only : (offset : ℕ) → IsIn offset offsets → AtBoundary bytes offset

-- where each record begins, and where the last ends
abbrev offsets_from : ℕ → List (List ℕ) → List ℕ
offsets_from at [] = at ∷ []
offsets_from at (p ∷ ps) = at ∷ offsets_from (at + length (frame p)) ps

-- they are these
listed : (at : ℕ) (ps : List (List ℕ)) (count : ℕ) → count ≤ length ps → IsIn (at + length (frames (take count ps))) (offsets_from at ps)
listed at [] zero few = inl (omega arith)
listed at [] (suc count) few = absurd (omega (arith, few))
listed at (p ∷ ps) zero few = inl (omega arith)
listed at (p ∷ ps) (suc count) few =
    let there : IsIn (at + length (frame p) + length (frames (take count ps))) (offsets_from (at + length (frame p)) ps) = listed (at + length (frame p)) ps count (omega (arith, few)) in
    let same : at + length (frame p) + length (frames (take count ps)) ≡ at + length (frame p ++ frames (take count ps)) = omega (arith, length-append (frame p) (frames (take count ps))) in
    inr (subst (λ n. IsIn n (offsets_from (at + length (frame p)) ps)) same there)

abbrev IsOffset : ℕ → List (List ℕ) → ℕ → Type 0
IsOffset at ps offset = (count : ℕ) × (count ≤ length ps) × (offset ≡ at + length (frames (take count ps)))

counted : (at : ℕ) (ps : List (List ℕ)) (offset : ℕ) → IsIn offset (offsets_from at ps) → IsOffset at ps offset
counted at [] offset (inl same) = (0, omega arith, omega (arith, same))
counted at [] offset (inr none) = absurd none
counted at (p ∷ ps) offset (inl same) = (0, omega arith, omega (arith, same))
counted at (p ∷ ps) offset (inr there) =
    let more : IsOffset (at + length (frame p)) ps offset = counted (at + length (frame p)) ps offset there in
    (suc more.0, omega (arith, more.1), omega (arith, more.2, length-append (frame p) (frames (take more.0 ps))))

module _ {X : Type 0} (R : List ℕ → X → Type 0) (bytes : List ℕ) (l : LabelFields) (number : ℤ) (values : List X) (torn : List ℕ) (h : LabelledFile R bytes l number values torn) where
  -- so many records stand before it
  at_count : (count offset : ℕ) → count ≤ length h.payloads → offset ≡ 132 + length (frames (take count h.payloads)) → IsBoundary bytes offset count
  at_count count offset few is =
      let ps : List (List ℕ) = h.payloads in
      let parts : frames ps ++ torn ≡ frames (take count ps) ++ (frames (drop count ps) ++ torn) =
      ap (λ qs. frames qs ++ torn) (sym (take-append-drop count ps)) ∙ ap (λ t. t ++ torn) (frames-append (take count ps) (drop count ps)) ∙ append_assoc (frames (take count ps)) (frames (drop count ps)) torn in
      record {
        payloads = take count ps;
        many = length-take-all count ps few;
        fit = each-first IsFrameable count ps (frameable R ps values h.read);
        behind = frames (drop count ps) ++ torn;
        stand = ap (drop 132) h.is ∙ drop_at h.head (frames ps ++ torn) 132 (length_of_label h.head l number h.label) ∙ parts;
        is = is;
      }
    where
      length-take-all : (count : ℕ) (ps : List (List ℕ)) → count ≤ length ps → length (take count ps) ≡ count
      length-take-all count ps few = omega (arith, few, length-take count ps)

  pub labelled_bounds : IsTorn torn → HasBounds bytes
  labelled_bounds is_torn = record {
    offsets = offsets_from 132 h.payloads;
    all = λ offset b.
        let own : (b.0 ≤ length values) × (offset ≡ 132 + length (frames (take b.0 h.payloads))) = boundary_of_file R bytes l number values torn offset b.0 h is_torn b.1 in
        subst (λ n. IsIn n (offsets_from 132 h.payloads)) (sym own.1) (listed 132 h.payloads b.0 (omega (arith, own.0, as_many R h.payloads values h.read)));
    only = λ offset is. let found : IsOffset 132 h.payloads offset = counted 132 h.payloads offset is in (found.0, at_count found.0 offset found.1 found.2);
  }

-- a file that ends within its label
pub short_bounds : (bytes : List ℕ) → length bytes < 132 → HasBounds bytes
short_bounds bytes short = record {
  offsets = 132 ∷ [];
  all = λ offset b. inl (short_boundary bytes offset b.0 short b.1).0;
  only = λ offset is. ⊎_elim (λ (same : offset ≡ 132). subst (AtBoundary bytes) (sym same) (0, label_boundary bytes)) (λ (none : ⊥). absurd none) is;
}

pub last_bounds : (bytes : List ℕ) (l : LabelFields) (n : ℕ) (items : List Item) → IsLastVolume bytes l n items → HasBounds bytes
last_bounds bytes l n items (inl (some, none, begins)) = short_bounds bytes begins.short
last_bounds bytes l n items (inr (torn, is_torn, h)) = labelled_bounds IsItem bytes l (pos n) items torn h is_torn

-- ---- an offset is a boundary, or lies between two

pub behind_label : (bytes : List ℕ) (offset : ℕ) → AtBoundary bytes offset → 132 ≤ offset
behind_label bytes offset b = omega (arith, b.1.is)

module _ (bytes : List ℕ) (h : HasBounds bytes) (offset : ℕ) (none : AtBoundary bytes offset → ⊥) where
  a_boundary : AtBoundary bytes 132
  a_boundary = (0, label_boundary bytes)

  below_of : 132 < offset → GreatestOrNone offset h.offsets → (below : ℕ) × IsBelow bytes offset below
  below_of high (inl (m, (is, low, most))) = (m, inr (h.only m is, low, λ k at lt. most k (h.all k at) lt))
  below_of high (inr nothing) = absurd (nothing 132 (h.all 132 a_boundary) high)

  high_of : 132 ≤ offset → 132 < offset
  high_of low = ⊎_elim (λ (lt : 132 < offset). lt) (λ (ge : offset ≤ 132). let same : 132 ≡ offset = omega (arith, low, ge) in absurd (none (subst (AtBoundary bytes) same a_boundary))) (cases_lt 132 offset)

  has_below : (below : ℕ) × IsBelow bytes offset below
  has_below = ⊎_elim (λ (low : offset < 132). let found : (below : ℕ) × IsBelow bytes offset below = (0, inl (low, refl)) in found) (λ (high : 132 ≤ offset). below_of (high_of high) (greatest offset h.offsets)) (cases_lt offset 132)

  above_of : LeastOrNone offset h.offsets → (above : ℕ) × IsAbove bytes offset above
  above_of (inl (m, (is, high, low))) = (m, inl (h.only m is, high, λ k at lt. low k (h.all k at) lt))
  above_of (inr nothing) = (offset, inr (λ k at lt. nothing k (h.all k at) lt, refl))

  has_above : (above : ℕ) × IsAbove bytes offset above
  has_above = above_of (least offset h.offsets)

abbrev pub AtOrBetween : List ℕ → ℕ → Type 0
AtOrBetween bytes offset = AtBoundary bytes offset ⊎ ((below : ℕ) × (above : ℕ) × IsBetween bytes offset below above)

pub at_or_between : (bytes : List ℕ) → HasBounds bytes → (offset : ℕ) → AtOrBetween bytes offset
at_or_between bytes h offset =
    ⊎_elim (λ (is : IsIn offset h.offsets). let found : AtOrBetween bytes offset = inl (h.only offset is) in found)
    (λ (other : IsIn offset h.offsets → ⊥).
    let none : AtBoundary bytes offset → ⊥ = λ at. other (h.all offset at) in
    let below = has_below bytes h offset none in
    let above = has_above bytes h offset none in
    let found : AtOrBetween bytes offset = inr (below.0, above.0, record { none = none; below_is = below.1; above_is = above.1 }) in found) (in_or_not offset h.offsets)

-- ---- in one way

one_below : (bytes : List ℕ) (offset a b : ℕ) → IsBelow bytes offset a → IsBelow bytes offset b → a ≡ b
one_below bytes offset a b (inl p) (inl q) = p.1 ∙ sym q.1
one_below bytes offset a b (inl p) (inr q) = absurd (omega (arith, p.0, q.1, behind_label bytes b q.0))
one_below bytes offset a b (inr p) (inl q) = absurd (omega (arith, q.0, p.1, behind_label bytes a p.0))
one_below bytes offset a b (inr p) (inr q) = let up : b ≤ a = p.2 b q.0 q.1 in let down : a ≤ b = q.2 a p.0 p.1 in omega (arith, up, down)

one_above : (bytes : List ℕ) (offset a b : ℕ) → IsAbove bytes offset a → IsAbove bytes offset b → a ≡ b
one_above bytes offset a b (inl p) (inl q) = let up : a ≤ b = p.2 b q.0 q.1 in let down : b ≤ a = q.2 a p.0 p.1 in omega (arith, up, down)
one_above bytes offset a b (inl p) (inr q) = absurd (q.0 a p.0 p.1)
one_above bytes offset a b (inr p) (inl q) = absurd (p.0 b q.0 q.1)
one_above bytes offset a b (inr p) (inr q) = p.1 ∙ sym q.1

pub one_between : (bytes : List ℕ) (offset a b c d : ℕ) → IsBetween bytes offset a b → IsBetween bytes offset c d → (a ≡ c) × (b ≡ d)
one_between bytes offset a b c d p q = (one_below bytes offset a c p.below_is q.below_is, one_above bytes offset b d p.above_is q.above_is)
