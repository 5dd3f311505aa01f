-- The first entry that stood before, by its keys.
use Rattle.std.proofs.Common.{◌≡◌, ℕ, ◌<◌, ◌≤◌, Bool, true, false, not, ◌&&◌, ◌||◌, ◌≢◌, ◌⊎◌, List, sym, subst, ◌∙◌, refl, arith, ⊎_elim, nat_eq, bytes_eq}
use Rattle.std.specs.Prelude.{Option, Some, None, is_none}
use Rattle.mmv_layout.specs.declared.keys.Key.TheVariants.{Serial, Number, InstanceName, Item, MetricName, Place}
use Rattle.mmv_layout.specs.Below.{all_below}
use Rattle.mmv_layout.specs.EntryFields.{same_name, serial_in_indom, domain_in_instance, number_in_instance, name_in_instance, name_in_metric, item_in_metric, metric_in_value, instance_in_value}
use Rattle.mmv_layout.specs.Entries.{indom_at, instance_at, metric_at, value_at, has_serial, is_same_instance, is_same_metric, is_same_value, is_new_indom, is_new_instance, is_new_metric, is_new_value}
use Rattle.mmv_layout.specs.Faults.{unless, first_below}
use Rattle.mmv_layout.specs.Keys.{key_at, is_new_key, IsFirst}
use Rattle.mmv_layout.proofs.Below.{all_lesser}
use Rattle.mmv_layout.proofs.Firsts.{test_stops}
use Rattle.mmv_layout.proofs.Nones.{none_tests, all_same, all_both}

-- a first index for one test, and below it for another, is one for both
pub first_both : (count a b : ℕ) (f g : ℕ → Bool) → IsFirst count f a → IsFirst a g b → IsFirst count (λ i. f i && g i) b
first_both count a b f g h k = record {
  within = omega arith;
  before = sym (all_both b f g) ∙ both_true _ _ (all_lesser a b f h.before k.within) k.before;
  here = λ below. ⊎_elim (λ (less : b < a). right_false _ _ (k.here less)) (λ (same : b ≡ a). left_false _ _ (subst (λ n. f n ≡ false) (sym same) (h.here (omega arith)))) (less_or b a k.within);
}
  where
    both_true : (x y : Bool) → x ≡ true → y ≡ true → (x && y) ≡ true
    both_true x y p q = cc

    right_false : (x y : Bool) → y ≡ false → (x && y) ≡ false
    right_false true y q = q
    right_false false y q = refl

    left_false : (x y : Bool) → x ≡ false → (x && y) ≡ false
    left_false x y q = cc

    less_or : (x y : ℕ) → x ≤ y → (x < y) ⊎ (x ≡ y)
    less_or x y p = grind arith

-- tests that agree have the same first index
pub first_same : (count n : ℕ) (f g : ℕ → Bool) → ((i : ℕ) → f i ≡ g i) → IsFirst count f n → IsFirst count g n
first_same count n f g h k = record {
  within = k.within;
  before = sym (all_same n f g h) ∙ k.before;
  here = λ below. sym (h n) ∙ k.here below;
}

nothing : (found : Option ℕ) → is_none found ≡ true → found ≡ None
nothing None h = refl
nothing (Some at) h = cc

none_before : (n : ℕ) (test : ℕ → Bool) (offset : ℕ → ℕ) → all_below n test ≡ true → first_below n (λ i. unless (test i) (offset i)) ≡ None
none_before n test offset h = nothing _ (none_tests n test offset ∙ h)

-- what is found is at the first index
pub found_at : (total count n at : ℕ) (test : ℕ → Bool) (offset : ℕ → ℕ) → IsFirst count test n → count ≡ total → n ≢ count → at ≡ offset n → Some at ≡ first_below total (λ i. unless (test i) (offset i))
found_at total count n at test offset h same other is =
    let within : n ≤ count = h.within in
    let below : n < count = omega arith in
    test_stops total n at test offset (omega arith) (none_before n test offset h.before) (h.here below) is

pub found_none : (total count n : ℕ) (test : ℕ → Bool) (offset : ℕ → ℕ) → IsFirst count test n → count ≡ total → n ≡ count → None ≡ first_below total (λ i. unless (test i) (offset i))
found_none total count n test offset h same end = sym (none_before total test offset (subst (λ m. all_below m test ≡ true) (end ∙ same) h.before))

-- The keys tell entries apart as the definitions do

pub indom_keys : (words : List ℕ) (i : ℕ) → is_new_key words Serial i ≡ is_new_indom words i
unfolding is_new_key is_new_indom key_at has_serial
indom_keys words i = all_same i _ _ (λ j. one (nat_eq (serial_in_indom words (indom_at words j)) (serial_in_indom words (indom_at words i))))
  where
    one : (a : Bool) → not (a && true) ≡ not a
    one true = refl
    one false = refl

pub instance_keys : (words : List ℕ) (i : ℕ) → (is_new_key words Number i && is_new_key words InstanceName i) ≡ is_new_instance words i
unfolding is_new_key is_new_instance key_at is_same_instance same_name
instance_keys words i =
    all_both i _ _ ∙ all_same i _ _ (λ j. one (nat_eq (domain_in_instance words (instance_at words j)) (domain_in_instance words (instance_at words i)))
    (nat_eq (number_in_instance words (instance_at words j)) (number_in_instance words (instance_at words i)))
    (bytes_eq (name_in_instance words (instance_at words j)) (name_in_instance words (instance_at words i))))
  where
    one : (d n m : Bool) → (not (d && (n && true)) && not (d && m)) ≡ not (d && (n || m))
    one true true m = refl
    one true false m = refl
    one false n m = refl

pub metric_keys : (words : List ℕ) (i : ℕ) → (is_new_key words Item i && is_new_key words MetricName i) ≡ is_new_metric words i
unfolding is_new_key is_new_metric key_at is_same_metric same_name
metric_keys words i =
    all_both i _ _ ∙ all_same i _ _ (λ j. one (nat_eq (item_in_metric words (metric_at words j)) (item_in_metric words (metric_at words i)))
    (bytes_eq (name_in_metric words (metric_at words j)) (name_in_metric words (metric_at words i))))
  where
    one : (n m : Bool) → (not (n && true) && not m) ≡ not (n || m)
    one true m = refl
    one false m = refl

pub value_keys : (words : List ℕ) (i : ℕ) → is_new_key words Place i ≡ is_new_value words i
unfolding is_new_key is_new_value key_at is_same_value
value_keys words i =
    all_same i _ _ (λ j. one (nat_eq (metric_in_value words (value_at words j)) (metric_in_value words (value_at words i)))
    (nat_eq (instance_in_value words (value_at words j)) (instance_in_value words (value_at words i))))
  where
    one : (n m : Bool) → not (n && (m && true)) ≡ not (n && m)
    one true true = refl
    one true false = refl
    one false m = refl
