-- What is known of the entries of an image.
use Rattle.std.proofs.Common.{◌≡◌, ℕ, zero, suc, ◌+◌, ◌*◌, ◌<◌, ◌≤◌, Bool, true, false, ◌||◌, ◌⊎◌, inl, inr, List, sym, refl, arith, nat_eq, nat_le, true≢false, ⊎_elim}
use Rattle.std.proofs.lemmas.Bool.Decides.{nat_tests}
use Rattle.mmv_layout.specs.Below.{some_below}
use Rattle.mmv_layout.specs.Contents.{sections_are_good, sections_are_aligned}
use Rattle.mmv_layout.specs.Entries.{leads, indom_count, instance_count, metric_count, value_count, string_count, is_good_indom, is_good_instance, is_good_metric, is_good_value, is_good_string, indoms_are_good, instances_are_good, metrics_are_good, values_are_good, strings_are_good}
use Rattle.mmv_layout.specs.Images.{has_good_header, is_image}
use Rattle.mmv_layout.proofs.Below.{all_at, both_left, both_right}
use Rattle.mmv_layout.specs.Says.{LeadsTo}

pub le_of : (a b : ℕ) → nat_le a b ≡ true → a ≤ b
le_of a b h = grind (arith, nat_tests)

pub eq_of : (a b : ℕ) → nat_eq a b ≡ true → a ≡ b
eq_of a b h = grind (arith, nat_tests)

pub ne_of : (a b : ℕ) → nat_eq a b ≡ false → a ≡ b → ⊥
ne_of a b h e = grind (arith, nat_tests)

pub either : (b : Bool) → (b ≡ true) ⊎ (b ≡ false)
either true = inl refl
either false = inr refl

pub or_right : (a b : Bool) → (a || b) ≡ true → a ≡ false → b ≡ true
or_right true b h e = cc
or_right false b h e = h

-- where some number passes, there is one
pub some_at : (n : ℕ) (test : ℕ → Bool) → some_below n test ≡ true → (k : ℕ) × (k < n) × (test k ≡ true)
unfolding some_below
some_at zero test h = absurd (true≢false (sym h))
some_at (suc n) test h =
    ⊎_elim (λ (before : some_below n test ≡ true). let (k, below, passes) = some_at n test before in (k, omega arith, passes))
    (λ (none : some_below n test ≡ false). (n, omega arith, or_right _ _ h none)) (either (some_below n test))

-- an offset that leads is that of an entry
pub leads_there : (first count size offset : ℕ) → leads first count size offset ≡ true → LeadsTo count (λ k. first + size * k) offset
unfolding leads
leads_there first count size offset h =
    let (k, below, stands) = some_at count (λ k. nat_eq (first + size * k) offset) h in
    (k, below, sym (eq_of (first + size * k) offset stands))

pub header : (words : List ℕ) → is_image words ≡ true → has_good_header words ≡ true
unfolding is_image
header words h = both_left _ _ (both_left _ _ (both_left _ _ (both_left _ _ (both_left _ _ (both_left _ _ (both_left _ _ h))))))

pub sections : (words : List ℕ) → is_image words ≡ true → sections_are_good words ≡ true
unfolding is_image
sections words h = both_right _ _ (both_left _ _ (both_left _ _ (both_left _ _ (both_left _ _ (both_left _ _ (both_left _ _ h))))))

pub aligned : (words : List ℕ) → is_image words ≡ true → sections_are_aligned words ≡ true
unfolding is_image
aligned words h = both_right _ _ (both_left _ _ (both_left _ _ (both_left _ _ (both_left _ _ (both_left _ _ h)))))

pub good_indom : (words : List ℕ) (i : ℕ) → is_image words ≡ true → i < indom_count words → is_good_indom words i ≡ true
unfolding is_image indoms_are_good
good_indom words i h below =
    all_at (indom_count words) i (is_good_indom words) (both_right _ _ (both_left _ _ (both_left _ _ (both_left _ _ (both_left _ _ h))))) below

pub good_instance : (words : List ℕ) (i : ℕ) → is_image words ≡ true → i < instance_count words → is_good_instance words i ≡ true
unfolding is_image instances_are_good
good_instance words i h below =
    all_at (instance_count words) i (is_good_instance words) (both_right _ _ (both_left _ _ (both_left _ _ (both_left _ _ h)))) below

pub good_metric : (words : List ℕ) (i : ℕ) → is_image words ≡ true → i < metric_count words → is_good_metric words i ≡ true
unfolding is_image metrics_are_good
good_metric words i h below =
    all_at (metric_count words) i (is_good_metric words) (both_right _ _ (both_left _ _ (both_left _ _ h))) below

pub good_value : (words : List ℕ) (i : ℕ) → is_image words ≡ true → i < value_count words → is_good_value words i ≡ true
unfolding is_image values_are_good
good_value words i h below = all_at (value_count words) i (is_good_value words) (both_right _ _ (both_left _ _ h)) below

pub good_string : (words : List ℕ) (i : ℕ) → is_image words ≡ true → i < string_count words → is_good_string words i ≡ true
unfolding is_image strings_are_good
good_string words i h below = all_at (string_count words) i (is_good_string words) (both_right _ _ h) below
