-- Where nothing is found, one test after the other.
use Rattle.std.proofs.Common.{◌≡◌, ℕ, zero, suc, Bool, true, false, ◌&&◌, if◌then◌else◌, ap, ap₂, sym, ◌∙◌, refl}
use Rattle.std.specs.Prelude.{Option, Some, None, is_none}
use Rattle.mmv_layout.specs.declared.fault.ImageFault.{ImageFault}
use Rattle.mmv_layout.specs.Below.{all_below}
use Rattle.mmv_layout.specs.Faults.{or_else, lower, unless, first_below, fault_where}

pub none_or_else : {A : Type 0} (a b : Option A) → is_none (or_else a b) ≡ (is_none a && is_none b)
unfolding or_else
none_or_else (Some a) b = refl
none_or_else None b = refl

pub none_lower : (a b : Option ℕ) → is_none (lower a b) ≡ (is_none a && is_none b)
unfolding lower
none_lower None b = refl
none_lower (Some a) None = refl
none_lower (Some a) (Some b) = chosen _ a b
  where
    chosen : (t : Bool) (a b : ℕ) → is_none (if t then Some a else Some b) ≡ false
    chosen true a b = refl
    chosen false a b = refl

pub none_unless : (good : Bool) (at : ℕ) → is_none (unless good at) ≡ good
unfolding unless
none_unless true at = refl
none_unless false at = refl

pub none_refused : (fault : ℕ → ImageFault) (found : Option ℕ) → is_none (fault_where fault found) ≡ is_none found
none_refused fault (Some at) = refl
none_refused fault None = refl

-- nothing is found where nothing is found at any number
pub none_first : (n : ℕ) (found : ℕ → Option ℕ) → is_none (first_below n found) ≡ all_below n (λ i. is_none (found i))
unfolding first_below all_below
none_first zero found = refl
none_first (suc n) found = none_or_else (first_below n found) (found n) ∙ ap (λ b. b && is_none (found n)) (none_first n found)

-- tests that agree at each number
pub all_same : (n : ℕ) (f g : ℕ → Bool) → ((i : ℕ) → f i ≡ g i) → all_below n f ≡ all_below n g
unfolding all_below
all_same zero f g h = refl
all_same (suc n) f g h = ap₂ (λ a b. a && b) (all_same n f g h) (h n)

swapped : (a b c d : Bool) → ((a && b) && (c && d)) ≡ ((a && c) && (b && d))
swapped true true c d = refl
swapped true false true d = refl
swapped true false false d = refl
swapped false b c d = refl

-- two tests at each number
pub all_both : (n : ℕ) (f g : ℕ → Bool) → (all_below n f && all_below n g) ≡ all_below n (λ i. f i && g i)
unfolding all_below
all_both zero f g = refl
all_both (suc n) f g = swapped (all_below n f) (f n) (all_below n g) (g n) ∙ ap (λ b. b && (f n && g n)) (all_both n f g)

pub none_tests : (n : ℕ) (good : ℕ → Bool) (offset : ℕ → ℕ) → is_none (first_below n (λ i. unless (good i) (offset i))) ≡ all_below n good
none_tests n good offset = none_first n (λ i. unless (good i) (offset i)) ∙ all_same n (λ i. is_none (unless (good i) (offset i))) good (λ i. none_unless (good i) (offset i))

pub tests_pass : (n : ℕ) (good : ℕ → Bool) (offset : ℕ → ℕ) → first_below n (λ i. unless (good i) (offset i)) ≡ None → all_below n good ≡ true
tests_pass n good offset none = sym (none_tests n good offset) ∙ ap (λ o. is_none o) none
