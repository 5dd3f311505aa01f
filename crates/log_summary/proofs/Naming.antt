-- The first instance with a number, from a position on.
use Rattle.std.proofs.Common.{◌≡◌, suc, ℕ, ◌+◌, ℤ, Bool, true, false, cond, List, ◌∷◌, drop, Some, refl, ap, ◌∙◌, slice_get, arith}
use Rattle.std.proofs.Math.Seq.{drop-cons}
use Rattle.std.proofs.lemmas.Bool.Decides.{Decides-int_eq}
use Rattle.std.proofs.lemmas.Option.{slice_get_within, get_or_from_slice_get}
use Rattle.std.specs.Ordering.{int_eq}
use Rattle.pm_print.specs.Holding.{Pairs}
use Rattle.pm_print.specs.Sets.{name_in}

from_here : (pairs : Pairs) (n : ℤ) (at : ℕ) (p : ℤ × List ℕ) → slice_get pairs at ≡ Some p → name_in (drop at pairs) n ≡ cond (int_eq p.0 n) (Some p.1) (name_in (drop (at + 1) pairs) n)
from_here pairs n at p is =
    let front : drop at pairs ≡ p ∷ drop (suc at) pairs = drop-cons pairs at p (slice_get_within pairs at p is) ∙ ap (λ q. q ∷ drop (suc at) pairs) (get_or_from_slice_get pairs at p p is) in
    let next : suc at ≡ at + 1 = omega arith in
    ap (λ ps. name_in ps n) front ∙ ap (λ k. cond (int_eq p.0 n) (Some p.1) (name_in (drop k pairs) n)) next

pub named_here : (pairs : Pairs) (n : ℤ) (at : ℕ) (p : ℤ × List ℕ) → slice_get pairs at ≡ Some p → p.0 ≡ n → name_in (drop at pairs) n ≡ Some p.1
named_here pairs n at p is same = from_here pairs n at p is ∙ ap (λ b. cond b (Some p.1) (name_in (drop (at + 1) pairs) n)) ((Decides-int_eq p.0 n).1 same)

pub not_named : (pairs : Pairs) (n : ℤ) (at : ℕ) (p : ℤ × List ℕ) → slice_get pairs at ≡ Some p → (p.0 ≡ n → ⊥) → name_in (drop at pairs) n ≡ name_in (drop (at + 1) pairs) n
not_named pairs n at p is other = from_here pairs n at p is ∙ by (int_eq p.0 n) refl
  where
    by : (b : Bool) → int_eq p.0 n ≡ b → cond (int_eq p.0 n) (Some p.1) (name_in (drop (at + 1) pairs) n) ≡ name_in (drop (at + 1) pairs) n
    by true e = absurd (other ((Decides-int_eq p.0 n).0 e))
    by false e = ap (λ b. cond b (Some p.1) (name_in (drop (at + 1) pairs) n)) e
