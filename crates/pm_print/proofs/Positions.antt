-- The name at the first position of a number is the number's.
use Rattle.std.proofs.Common.{◌≡◌, ℕ, suc, ℤ, pos, ◌-◌, ◌<◌, ◌≤◌, Bool, true, false, cond, List, [], ◌∷◌, length, drop, get_or, refl, sym, ap, ◌∙◌, arith, Option, Some, None, slice_get, option_map}
use Rattle.std.proofs.Math.Seq.{drop-cons}
use Rattle.std.proofs.lemmas.Option.{slice_get_within, get_or_from_slice_get, slice_get-get_or}
use Rattle.std.specs.Ordering.{int_eq}
use Rattle.pm_print.specs.Holding.{Pairs}
use Rattle.pm_print.specs.Sets.{name_in, position_in}

behind : (pairs : Pairs) (n : ℤ) (base at : ℕ) → position_in base pairs n ≡ Some at → base ≤ at
behind [] n base at e = absurd cc
behind (p ∷ pairs) n base at e = by (int_eq p.0 n) e (λ f. behind pairs n (suc base) at f)
  where
    by : (b : Bool) → cond b (Some base) (position_in (suc base) pairs n) ≡ Some at → (position_in (suc base) pairs n ≡ Some at → suc base ≤ at) → base ≤ at
    by true f more = let same : base ≡ at = cc in omega (arith, same)
    by false f more = omega (arith, more f)

pub named : (pairs : Pairs) (n : ℤ) (base at : ℕ) → position_in base pairs n ≡ Some at → name_in pairs n ≡ option_map (λ p. p.1) (slice_get pairs (at - base))
named [] n base at e = absurd cc
named (p ∷ pairs) n base at e = by (int_eq p.0 n) e (λ f. named pairs n (suc base) at f)
  where
    by : (b : Bool) → cond b (Some base) (position_in (suc base) pairs n) ≡ Some at → (position_in (suc base) pairs n ≡ Some at → name_in pairs n ≡ option_map (λ q. q.1) (slice_get pairs (at - suc base)))
        → cond b (Some p.1) (name_in pairs n) ≡ option_map (λ q. q.1) (slice_get (p ∷ pairs) (at - base))
    by true f more =
        let same : base ≡ at = cc in
        let first : 0 ≡ at - base = omega (arith, same) in
        ap (λ k. option_map (λ q. q.1) (slice_get (p ∷ pairs) k)) first
    by false f more =
        let later : suc (at - suc base) ≡ at - base = omega (arith, behind pairs n (suc base) at f) in
        more f ∙ ap (λ k. option_map (λ q. q.1) (slice_get (p ∷ pairs) k)) later

pub unnamed : (pairs : Pairs) (n : ℤ) (base : ℕ) → position_in base pairs n ≡ None → name_in pairs n ≡ None
unnamed [] n base e = refl
unnamed (p ∷ pairs) n base e = by (int_eq p.0 n) e (λ f. unnamed pairs n (suc base) f)
  where
    by : (b : Bool) → cond b (Some base) (position_in (suc base) pairs n) ≡ None → (position_in (suc base) pairs n ≡ None → name_in pairs n ≡ None) → cond b (Some p.1) (name_in pairs n) ≡ None
    by true f more = absurd cc
    by false f more = more f

-- what stands at the position is the first instance with the number
pub found : (pairs : Pairs) (n : ℤ) (at : ℕ) → position_in 0 pairs n ≡ Some at → option_map (λ p. p.1) (slice_get pairs at) ≡ name_in pairs n
found pairs n at position =
    let here : at ≡ at - 0 = omega arith in ap (λ k. option_map (λ p. p.1) (slice_get pairs k)) here ∙ sym (named pairs n 0 at position)

-- the instance that stands at a position is the first of those from there on
pub noted : (pairs : Pairs) (at : ℕ) (number n : ℤ) → Some number ≡ option_map (λ p. p.0) (slice_get pairs at) → position_in at (drop at pairs) n ≡ cond (int_eq number n) (Some at) (position_in (suc at) (drop (suc at) pairs) n)
noted pairs at number n e = by (slice_get pairs at) refl e
  where
    by : (x : Option (ℤ × List ℕ)) → slice_get pairs at ≡ x → Some number ≡ option_map (λ p. p.0) x → position_in at (drop at pairs) n ≡ cond (int_eq number n) (Some at) (position_in (suc at) (drop (suc at) pairs) n)
    by None is f = absurd cc
    by (Some p) is f =
        let same : p.0 ≡ number = cc in
        let front : drop at pairs ≡ p ∷ drop (suc at) pairs =
        drop-cons pairs at p (slice_get_within pairs at p is) ∙ ap (λ q. q ∷ drop (suc at) pairs) (get_or_from_slice_get pairs at p p is) in
        ap (λ ps. position_in at ps n) front ∙ ap (λ k. cond (int_eq k n) (Some at) (position_in (suc at) (drop (suc at) pairs) n)) same

pub not_past : (pairs : Pairs) (at : ℕ) → at < length pairs → None ≡ option_map (λ (p : ℤ × List ℕ). p.0) (slice_get pairs at) → ⊥
not_past pairs at lt e =
    let there : slice_get pairs at ≡ Some (get_or pairs at (pos 0, [])) = slice_get-get_or pairs at (pos 0, []) lt in
    let both : None ≡ Some (get_or pairs at (pos 0, [])).0 = e ∙ ap (option_map (λ (p : ℤ × List ℕ). p.0)) there in cc
