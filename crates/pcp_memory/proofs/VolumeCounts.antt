-- The greatest number of a volume that isn't empty, over the entries of a map.
use Rattle.std.proofs.Common.{◌≡◌, ⊎_elim, ℕ, ◌+◌, ◌≢◌, ◌≤◌, max, Bool, true, false, cond, List, [], ◌∷◌, length, Vec, Some, refl, sym, ◌∙◌, ap, arith}
use Rattle.std.specs.Prelude.{if◌then◌else◌, ◌==◌}
use Rattle.std.specs.List.{All}
use Rattle.std.specs.Ordering.{nat_cmp}
use Rattle.std.specs.BTreeMap.{get, is_at, IsOrdered}
use Rattle.std.specs.Map.{lookup}
use Rattle.std.specs.declared.alloc.Global.{Global}
use Rattle.std.proofs.lemmas.List.Elements.{All-head, All-tail}
use Rattle.std.proofs.lemmas.Map.Views.{All-found, tells_apart}
use Rattle.std.proofs.lemmas.Map.Lookups.{exact_unsigned}
use Rattle.std.proofs.lemmas.Cmp.{nat_cmp_total}
use Rattle.std.proofs.lemmas.Bool.{cases_eq, eqb-true, eq-eqb, false≢true}
use Rattle.pcp_memory.specs.Volumes.{Volumes, volume, bytes_found}

abbrev pub Entry : Type 0
Entry = ℕ × Vec ℕ Global

-- one more than the greatest number among these whose bytes aren't none, or 0
abbrev pub used : List Entry → ℕ
used [] = 0
used (e ∷ es) = if length e.1.items == 0 then used es else max (e.0 + 1) (used es)

used_empty : (e : Entry) (es : List Entry) → (length e.1.items == 0) ≡ true → used (e ∷ es) ≡ used es
used_empty e es is = ap (λ (b : Bool). if b then used es else max (e.0 + 1) (used es)) is

used_more : (e : Entry) (es : List Entry) → (length e.1.items == 0) ≡ false → used (e ∷ es) ≡ max (e.0 + 1) (used es)
used_more e es is = ap (λ (b : Bool). if b then used es else max (e.0 + 1) (used es)) is

none_of : (l : List ℕ) → (length l == 0) ≡ true → l ≡ []
none_of [] is = refl
none_of (x ∷ l) is = absurd (let zero : length (x ∷ l) ≡ 0 = eqb-true (length (x ∷ l)) 0 is in omega arith)

some_of : (l : List ℕ) → (length l == 0) ≡ false → l ≡ [] → ⊥
some_of l is none = false≢true (sym is ∙ eq-eqb (length l) 0 (ap length none))

-- what a look-up finds at or past it is empty
pub found_past : (es : List Entry) (k : ℕ) → used es ≤ k → bytes_found (lookup (is_at (nat_cmp k)) es) ≡ []
found_past [] k le = refl
found_past (e ∷ es) k le = choose (found_past es k) (is_at (nat_cmp k) e.0) refl (length e.1.items == 0) refl
  where
    choose : (used es ≤ k → bytes_found (lookup (is_at (nat_cmp k)) es) ≡ []) → (hit : Bool) → is_at (nat_cmp k) e.0 ≡ hit → (empty : Bool) → (length e.1.items == 0) ≡ empty → bytes_found (cond hit (Some e.1) (lookup (is_at (nat_cmp k)) es)) ≡ []
    choose rest true h true none = none_of e.1.items none
    choose rest true h false some =
        let here : k ≡ e.0 = tells_apart exact_unsigned k e.0 h in
        let is : used (e ∷ es) ≡ max (e.0 + 1) (used es) = used_more e es some in
        absurd (omega arith)
    choose rest false h true none = let is : used (e ∷ es) ≡ used es = used_empty e es none in rest (omega arith)
    choose rest false h false some = let is : used (e ∷ es) ≡ max (e.0 + 1) (used es) = used_more e es some in rest (omega arith)

-- what stands just below it isn't
pub found_last : (m : Volumes) (es : List Entry) → All (λ e. get nat_cmp m e.0 ≡ Some e.1) es → (k : ℕ) → used es ≡ k + 1 → volume m k ≡ [] → ⊥
found_last m [] all k is none = absurd (let zero : used [] ≡ 0 = refl in omega arith)
found_last m (e ∷ es) all k is none = choose (λ same. found_last m es (All-tail Found e es all) k same none) (length e.1.items == 0) refl
  where
    Found : Entry → Type 0
    Found d = get nat_cmp m d.0 ≡ Some d.1

    choose : (used es ≡ k + 1 → ⊥) → (empty : Bool) → (length e.1.items == 0) ≡ empty → ⊥
    choose rest true empty = rest (sym (used_empty e es empty) ∙ is)
    choose rest false some = ⊎_elim
        (λ (here : e.0 ≡ k). some_of e.1.items some (sym (ap bytes_found (All-head Found e es all)) ∙ ap (volume m) here ∙ none))
        (λ (other : e.0 ≢ k). rest (let same : used (e ∷ es) ≡ max (e.0 + 1) (used es) = used_more e es some in omega arith))
        (cases_eq e.0 k)

pub volumes_past : (m : Volumes) (k : ℕ) → used m.entries ≤ k → volume m k ≡ []
volumes_past m k le = found_past m.entries k le

pub volumes_last : (m : Volumes) → IsOrdered nat_cmp m → (k : ℕ) → used m.entries ≡ k + 1 → volume m k ≡ [] → ⊥
volumes_last m ordered k is none = found_last m m.entries (All-found nat_cmp_total m ordered) k is none
