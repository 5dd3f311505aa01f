-- The stores of a change, one after the other.
use Rattle.std.proofs.Common.{◌≡◌, ℕ, zero, suc, ◌+◌, ◌-◌, ◌<◌, List, ◌++◌, length, slice_index, add-one, sym, ap, ◌∙◌, subst, arith}
use Rattle.region_core.specs.declared.act.Act.{Act}
use Rattle.region_core.specs.Shape.{Shaping}
use Rattle.region_rule.specs.declared.view.View.{View}
use Rattle.region_rule.specs.Changes.{Relaying, next_after, left_from, left_of, puts_left, Acts, Stores}
use Rattle.region_rule.proofs.Places.{suc_is, left_suc, puts_next}

-- whatever a change does from here on, it did from there on
abbrev pub Continues : Shaping → Relaying → Relaying → Type 0
Continues S old new = (acts : List Act) (w : View) → Acts S new.token.view (puts_left new.next new.image ++ acts) w → Acts S old.token.view (puts_left old.next old.image ++ acts) w

-- one store more
pub continues_step : (S : Shaping) (first old new : Relaying) → 0 < left_of old → Stores S old new → Continues S first old → Continues S first new
continues_step S first old new some_left s k acts w a =
    let x : ℕ = slice_index old.image old.next in
    let next : puts_left new.next new.image ≡ puts_left (next_after old.next) old.image = (λ i. puts_left (s.next some_left i) (s.image i)) in
    let a' : Acts S new.token.view (puts_left (next_after old.next) old.image ++ acts) w = subst (λ (rest : List Act). Acts S new.token.view (rest ++ acts) w) next a in
    k acts w (subst (λ (rest : List Act). Acts S old.token.view (rest ++ acts) w) (sym (puts_next old.next old.image some_left)) (x, new.token.view, s.puts some_left, a'))

-- one store less is left
pub left_less : (next : ℕ) (image : List ℕ) → 0 < left_from next image → left_from (next_after next) image < left_from next image
left_less zero image h = let e = left_suc 2 image in omega arith
left_less (suc k) image h =
    let left = left_suc k image in
    let after : next_after (suc k) ≡ suc (suc k) = suc_is k 3 (suc k + 1) ∙ add-one (suc k) in
    let left' : left_from (next_after (suc k)) image ≡ length image - suc (suc k) = ap (λ (j : ℕ). left_from j image) after ∙ left_suc (suc k) image in
    omega arith
