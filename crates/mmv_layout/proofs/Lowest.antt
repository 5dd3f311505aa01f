-- What is found first is the lowest, since entries lie one behind another.
use Rattle.std.proofs.Common.{◌≡◌, ◌≢◌, ℕ, zero, suc, ◌+◌, ◌*◌, ◌<◌, ◌≤◌, Bool, true, false, ◌&&◌, ◌||◌, ◌⊎◌, inl, inr, List, if◌then◌else◌, nat_eq, nat_le, ap, sym, subst, ◌∙◌, refl, arith, ⊎_elim}
use Rattle.std.specs.Prelude.{Option, Some, None}
use Rattle.std.proofs.Math.Nat.{mul-le-mul_left}
use Rattle.std.proofs.lemmas.Bool.Decides.{nat_tests}
use Rattle.mmv_layout.specs.Sizes.{name_width, indom_size, instance_size, metric_size, value_size, string_size}
use Rattle.mmv_layout.specs.EntryFields.{serial_in_indom, first_offset_in_indom, short_offset_in_indom, long_offset_in_indom, domain_in_instance, number_offset_in_instance, number_in_instance, name_offset_in_instance, item_offset_in_metric, item_in_metric, type_offset_in_metric, type_in_metric, semantics_offset_in_metric, semantics_in_metric, serial_offset_in_metric, serial_in_metric, short_offset_in_metric, long_offset_in_metric, extra_offset_in_value, metric_offset_in_value, instance_offset_in_value, instance_in_value}
use Rattle.mmv_layout.specs.Contents.{version_in, bytes_in, contents_in, cluster_offset, cluster_in, entry_at, type_in, offset_field_in, entry_lies, has_good_section, is_aligned, section_of}
use Rattle.mmv_layout.specs.Entries.{indom_count, indom_at, instance_count, instance_at, metric_count, metric_at, value_count, value_at, string_count, string_at, leads, leads_to_indom, leads_to_instance, has_text, has_name, is_good_string, is_kind, is_semantics, has_good_run, help_leads, name_leads, lies_in_run, is_no_domain, serial_leads, leads_to_metric, metric_of, choice_leads, instance_leads, is_new_indom, is_new_instance, is_new_metric, is_new_value, is_serial, is_instance_number, is_item}
use Rattle.mmv_layout.specs.Below.{some_below}
use Rattle.mmv_layout.specs.Images.{is_cluster}
use Rattle.mmv_layout.specs.Faults.{or_else, lower, unless, first_below, bad_type, section_fault, offset_fault, instance_name_fault, metric_name_fault, string_fault, name_fault, code_fault, kind_fault, help_fault, indom_reference_fault, name_reference_fault, instance_reference_fault, metric_reference_fault, value_reference_fault, indoms_reference_fault, instances_reference_fault, metrics_reference_fault, values_reference_fault, reference_fault, indoms_duplicate_fault, instances_duplicate_fault, metrics_duplicate_fault, values_duplicate_fault, duplicate_fault, indoms_serial_fault, instances_serial_fault, metrics_serial_fault, cluster_fault, serial_fault}
use Rattle.mmv_layout.specs.Lowest.{IsLowest, Fails, InSome, LacksName, IsEmpty, BreaksTheRule, CodeFails, IndomReferenceFails, InstanceReferenceFails, MetricReferenceFails, IsInstanceOf, HasInstance, ValueReferenceFails, SectionIs, SectionsInOrder, OffsetsAreLowest, NamesAreLowest, KindsAreLowest, ReferencesAreLowest, DuplicatesAreLowest, SerialsAreLowest}
use Rattle.mmv_layout.proofs.Below.{all_at, some_holds, both_left, both_right}
use Rattle.mmv_layout.proofs.Lacking.{text_lacks, lacks_text, name_lacks, lacks_name}
use Rattle.mmv_layout.proofs.Nones.{tests_pass}
use Rattle.mmv_layout.proofs.Lies.{le_of, eq_of}
use Rattle.mmv_layout.proofs.Widths.{width_least}

some_same : (a b : ℕ) → Some a ≡ Some b → a ≡ b
some_same a b h = cc

none_some : (x : ℕ) → None ≡ Some x → ⊥
none_some x e = cc

same_le : (p q : ℕ) → p ≡ q → p ≤ q
same_le p q e = omega arith

true_false : true ≡ false → ⊥
true_false e = cc

below_suc : (k n : ℕ) → k < suc n → (k < n) ⊎ (k ≡ n)
below_suc k n h = grind arith

le_trans : (p q r : ℕ) → p ≤ q → q ≤ r → p ≤ r
le_trans p q r e f = omega arith

-- one test
unless_lowest : (good : Bool) (offset : ℕ) → IsLowest (Fails good offset) (unless good offset)
unfolding unless
unless_lowest true offset = λ at h. true_false h.0
unless_lowest false offset = ((refl, refl), λ other h. same_le offset other (sym h.1))

module _ (P Q : ℕ → Type 0) where
  -- the same said otherwise
  said : (found : Option ℕ) → ((at : ℕ) → P at → Q at) → ((at : ℕ) → Q at → P at) → IsLowest P found → IsLowest Q found
  said None to from h = λ at q. h at (from at q)
  said (Some at) to from h = (to at h.0, λ other q. h.1 other (from other q))

  -- of two, the one in front
  else_lowest : (a b : Option ℕ) → ((x y : ℕ) → P x → Q y → x ≤ y) → IsLowest P a → IsLowest Q b → IsLowest (λ at. P at ⊎ Q at) (or_else a b)
  unfolding or_else
  else_lowest (Some x) b front h k = (inl h.0, λ other. ⊎_elim (λ (p : P other). h.1 other p) (λ (q : Q other). front x other h.0 q))
  else_lowest None (Some y) front h k = (inr k.0, λ other. ⊎_elim (λ (p : P other). absurd (h other p)) (λ (q : Q other). k.1 other q))
  else_lowest None None front h k = λ other. ⊎_elim (λ (p : P other). h other p) (λ (q : Q other). k other q)

  -- of two, the lower one
  lower_lowest : (a b : Option ℕ) → IsLowest P a → IsLowest Q b → IsLowest (λ at. P at ⊎ Q at) (lower a b)
  unfolding lower
  lower_lowest None None h k = λ other. ⊎_elim (λ (p : P other). h other p) (λ (q : Q other). k other q)
  lower_lowest None (Some y) h k = (inr k.0, λ other. ⊎_elim (λ (p : P other). absurd (h other p)) (λ (q : Q other). k.1 other q))
  lower_lowest (Some x) None h k = (inl h.0, λ other. ⊎_elim (λ (p : P other). h.1 other p) (λ (q : Q other). absurd (k other q)))
  lower_lowest (Some x) (Some y) h k = here (nat_le x y) refl
    where
      at_most : nat_le x y ≡ true → x ≤ y
      at_most e = grind (arith, nat_tests)

      above : nat_le x y ≡ false → y ≤ x
      above e = grind (arith, nat_tests)

      here : (t : Bool) → nat_le x y ≡ t → IsLowest (λ at. P at ⊎ Q at) (if t then Some x else Some y)
      here true e = (inl h.0, λ other. ⊎_elim (λ (p : P other). h.1 other p) (λ (q : Q other). le_trans x y other (at_most e) (k.1 other q)))
      here false e = (inr k.0, λ other. ⊎_elim (λ (p : P other). le_trans y x other (above e) (h.1 other p)) (λ (q : Q other). k.1 other q))

-- of entries one behind another, the first in which something fails
module _ (start size : ℕ) (found : ℕ → Option ℕ) (P : ℕ → ℕ → Type 0) (each : (i : ℕ) → IsLowest (P i) (found i))
    (within : (i x : ℕ) → P i x → (start + size * i ≤ x) × (x < start + size * i + size)) where
  in_front : (i j x y : ℕ) → i < j → P i x → P j y → x ≤ y
  in_front i j x y less p q =
      let (a, b) = within i x p in
      let (d, e) = within j y q in
      let next : size * (i + 1) ≤ size * j = mul-le-mul_left size (omega arith) in
      let whole : size * (i + 1) ≡ size * i + size = more size i in
      omega arith
    where
      more : (s k : ℕ) → s * (k + 1) ≡ s * k + s
      more s k = omega arith

  pub entries_lowest : (n : ℕ) → IsLowest (InSome n P) (first_below n found)
  unfolding first_below
  entries_lowest zero = λ at h. let (i, below, p) = h in absurd (omega arith)
  entries_lowest (suc n) =
      said (λ at. InSome n P at ⊎ P n at) (InSome (suc n) P) (or_else (first_below n found) (found n))
      (λ at. ⊎_elim (λ (p : InSome n P at). let (i, below, q) = p in (i, omega arith, q)) (λ (q : P n at). (n, omega arith, q)))
      (λ at h. let (i, below, p) = h in ⊎_elim (λ (less : i < n). inl (i, less, p)) (λ (same : i ≡ n). inr (subst (λ k. P k at) same p)) (below_suc i n below))
      (else_lowest (InSome n P) (P n) (first_below n found) (found n)
      (λ x y p q. let (i, below, r) = p in in_front i n x y below r q) (entries_lowest n) (each n))

-- one test of each entry
tests_lowest : (n start size : ℕ) (test : ℕ → Bool) (offset : ℕ → ℕ) → ((i : ℕ) → (start + size * i ≤ offset i) × (offset i < start + size * i + size))
    → IsLowest (InSome n (λ i. Fails (test i) (offset i))) (first_below n (λ i. unless (test i) (offset i)))
tests_lowest n start size test offset lies =
    entries_lowest start size (λ i. unless (test i) (offset i)) (λ i. Fails (test i) (offset i)) (λ i. unless_lowest (test i) (offset i))
    (λ i x h. subst (λ y. (start + size * i ≤ y) × (y < start + size * i + size)) (sym h.1) (lies i)) n

-- two tests of one entry, and three, the lower offset in front
two_lowest : (a b : Bool) (p q : ℕ) → p ≤ q → IsLowest (λ at. Fails a p at ⊎ Fails b q at) (or_else (unless a p) (unless b q))
two_lowest a b p q le =
    else_lowest (Fails a p) (Fails b q) (unless a p) (unless b q) (λ x y f g. between p q x y le f.1 g.1) (unless_lowest a p) (unless_lowest b q)
  where
    between : (p q x y : ℕ) → p ≤ q → x ≡ p → y ≡ q → x ≤ y
    between p q x y le e f = omega arith

three_lowest : (a b c : Bool) (p q r : ℕ) → p ≤ q → q ≤ r
    → IsLowest (λ at. Fails a p at ⊎ (Fails b q at ⊎ Fails c r at)) (or_else (unless a p) (or_else (unless b q) (unless c r)))
three_lowest a b c p q r le le' =
    else_lowest (Fails a p) (λ at. Fails b q at ⊎ Fails c r at) (unless a p) (or_else (unless b q) (unless c r))
    (λ x y f. ⊎_elim (λ (g : Fails b q y). first p q x y le f.1 g.1) (λ (g : Fails c r y). second p q r x y le le' f.1 g.1))
    (unless_lowest a p) (two_lowest b c q r le')
  where
    first : (p q x y : ℕ) → p ≤ q → x ≡ p → y ≡ q → x ≤ y
    first p q x y le e f = omega arith

    second : (p q r x y : ℕ) → p ≤ q → q ≤ r → x ≡ p → y ≡ r → x ≤ y
    second p q r x y le le' e f = omega arith

-- at the offset of a field of an entry
at_field : (lo hi p at : ℕ) → lo ≤ p → p < hi → at ≡ p → (lo ≤ at) × (at < hi)
at_field lo hi p at a b e = (omega arith, omega arith)

-- The kinds

pub offsets_are_lowest : OffsetsAreLowest
unfolding offset_fault
offsets_are_lowest words = tests_lowest (contents_in words) 48 16 (λ i. is_aligned words i) (λ i. offset_field_in i) (λ i. (omega arith, omega arith))

pub kinds_are_lowest : KindsAreLowest
unfolding kind_fault code_fault
kinds_are_lowest words =
    entries_lowest (section_of words 3).offset (metric_size (version_in words)) (λ i. code_fault words (metric_at words i)) (λ i. CodeFails words (metric_at words i))
    (λ i. two_lowest (is_kind (type_in_metric words (metric_at words i))) (is_semantics (semantics_in_metric words (metric_at words i))) (type_offset_in_metric words (metric_at words i)) (semantics_offset_in_metric words (metric_at words i)) (omega arith))
    (λ i x. ⊎_elim (λ (h : Fails (is_kind (type_in_metric words (metric_at words i))) (type_offset_in_metric words (metric_at words i)) x). at_field _ _ _ x (omega arith) (omega arith) h.1)
    (λ (h : Fails (is_semantics (semantics_in_metric words (metric_at words i))) (semantics_offset_in_metric words (metric_at words i)) x). at_field _ _ _ x (omega arith) (omega arith) h.1))
    (metric_count words)

pub duplicates_are_lowest : DuplicatesAreLowest
unfolding duplicate_fault indoms_duplicate_fault instances_duplicate_fault metrics_duplicate_fault values_duplicate_fault
duplicates_are_lowest words =
    lower_lowest _ _ (lower (indoms_duplicate_fault words) (instances_duplicate_fault words)) (lower (metrics_duplicate_fault words) (values_duplicate_fault words))
    (lower_lowest _ _ (indoms_duplicate_fault words) (instances_duplicate_fault words)
    (tests_lowest (indom_count words) (section_of words 1).offset indom_size (λ i. is_new_indom words i) (λ i. indom_at words i) (λ i. (omega arith, omega arith)))
    (tests_lowest (instance_count words) (section_of words 2).offset (instance_size (version_in words)) (λ i. is_new_instance words i) (λ i. instance_at words i) (λ i. (omega arith, omega arith))))
    (lower_lowest _ _ (metrics_duplicate_fault words) (values_duplicate_fault words)
    (tests_lowest (metric_count words) (section_of words 3).offset (metric_size (version_in words)) (λ i. is_new_metric words i) (λ i. metric_at words i) (λ i. (omega arith, omega arith)))
    (tests_lowest (value_count words) (section_of words 4).offset value_size (λ i. is_new_value words i) (λ i. value_at words i) (λ i. (omega arith, omega arith))))

-- Numbers out of range

cluster_far : (n : ℕ) → nat_le n 4095 ≡ false → 4095 < n
cluster_far n h = grind (arith, nat_tests)

far_cluster : (n : ℕ) → 4095 < n → nat_le n 4095 ≡ false
far_cluster n h = grind (arith, nat_tests)

serial_far : (n : ℕ) → is_serial n ≡ false → (n ≡ 0) ⊎ (1023 < n)
serial_far n h = grind (arith, nat_tests)

far_serial : (n : ℕ) → (n ≡ 0) ⊎ (1023 < n) → is_serial n ≡ false
far_serial n h = grind (arith, nat_tests)

number_far : (n : ℕ) → is_instance_number n ≡ false → 2147483648 ≤ n
number_far n h = grind (arith, nat_tests)

far_number : (n : ℕ) → 2147483648 ≤ n → is_instance_number n ≡ false
far_number n h = grind (arith, nat_tests)

item_far : (n : ℕ) → is_item n ≡ false → 1023 < n
item_far n h = grind (arith, nat_tests)

far_item : (n : ℕ) → 1023 < n → is_item n ≡ false
far_item n h = grind (arith, nat_tests)

-- a test of each entry, said otherwise
module _ (n start size : ℕ) (test : ℕ → Bool) (offset : ℕ → ℕ) (bad : ℕ → Type 0) (to : (i : ℕ) → test i ≡ false → bad i) (from : (i : ℕ) → bad i → test i ≡ false) where
  pub said_lowest : ((i : ℕ) → (start + size * i ≤ offset i) × (offset i < start + size * i + size)) → IsLowest (InSome n (λ i at. bad i × (at ≡ offset i))) (first_below n (λ i. unless (test i) (offset i)))
  said_lowest lies =
      said (InSome n (λ i. Fails (test i) (offset i))) (InSome n (λ i at. bad i × (at ≡ offset i))) (first_below n (λ i. unless (test i) (offset i)))
      (λ at h. let (i, below, f) = h in (i, below, (to i f.0, f.1))) (λ at h. let (i, below, f) = h in (i, below, (from i f.0, f.1)))
      (tests_lowest n start size test offset lies)

pub serials_are_lowest : SerialsAreLowest
unfolding serial_fault cluster_fault indoms_serial_fault instances_serial_fault metrics_serial_fault
serials_are_lowest words =
    lower_lowest _ _ (cluster_fault words) (lower (indoms_serial_fault words) (lower (instances_serial_fault words) (metrics_serial_fault words)))
    (said (Fails (is_cluster (cluster_in words)) cluster_offset) (λ at. (4095 < cluster_in words) × (at ≡ cluster_offset)) (unless (is_cluster (cluster_in words)) cluster_offset)
    (λ at f. (cluster_far (cluster_in words) f.0, f.1)) (λ at f. (far_cluster (cluster_in words) f.0, f.1)) (unless_lowest (is_cluster (cluster_in words)) cluster_offset))
    (lower_lowest _ _ (indoms_serial_fault words) (lower (instances_serial_fault words) (metrics_serial_fault words))
    (said_lowest (indom_count words) (section_of words 1).offset indom_size (λ i. is_serial (serial_in_indom words (indom_at words i))) (λ i. indom_at words i)
    (λ i. (serial_in_indom words (indom_at words i) ≡ 0) ⊎ (1023 < serial_in_indom words (indom_at words i)))
    (λ i. serial_far (serial_in_indom words (indom_at words i))) (λ i. far_serial (serial_in_indom words (indom_at words i))) (λ i. (omega arith, omega arith)))
    (lower_lowest _ _ (instances_serial_fault words) (metrics_serial_fault words)
    (said_lowest (instance_count words) (section_of words 2).offset (instance_size (version_in words)) (λ i. is_instance_number (number_in_instance words (instance_at words i))) (λ i. number_offset_in_instance (instance_at words i))
    (λ i. 2147483648 ≤ number_in_instance words (instance_at words i))
    (λ i. number_far (number_in_instance words (instance_at words i))) (λ i. far_number (number_in_instance words (instance_at words i))) (λ i. (omega arith, omega arith)))
    (said_lowest (metric_count words) (section_of words 3).offset (metric_size (version_in words)) (λ i. is_item (item_in_metric words (metric_at words i))) (λ i. item_offset_in_metric words (metric_at words i))
    (λ i. 1023 < item_in_metric words (metric_at words i))
    (λ i. item_far (item_in_metric words (metric_at words i))) (λ i. far_item (item_in_metric words (metric_at words i))) (λ i. (omega arith, omega arith)))))

-- Names

pub names_are_lowest : NamesAreLowest
unfolding name_fault instance_name_fault metric_name_fault string_fault
names_are_lowest words =
    let some : 8 ≤ name_width (version_in words) = width_least (version_in words) in
    lower_lowest _ _ (instance_name_fault words) (lower (metric_name_fault words) (string_fault words))
    (said_lowest (instance_count words) (section_of words 2).offset (instance_size (version_in words)) (λ i. has_text words (name_offset_in_instance (instance_at words i))) (λ i. name_offset_in_instance (instance_at words i))
    (λ i. LacksName IsEmpty words (name_offset_in_instance (instance_at words i)))
    (λ i. text_lacks words (name_offset_in_instance (instance_at words i))) (λ i. lacks_text words (name_offset_in_instance (instance_at words i))) (λ i. (omega arith, omega arith)))
    (lower_lowest _ _ (metric_name_fault words) (string_fault words)
    (said_lowest (metric_count words) (section_of words 3).offset (metric_size (version_in words)) (λ i. has_name words (metric_at words i)) (λ i. metric_at words i)
    (λ i. LacksName BreaksTheRule words (metric_at words i))
    (λ i. name_lacks words (metric_at words i)) (λ i. lacks_name words (metric_at words i)) (λ i. (omega arith, omega arith)))
    (tests_lowest (string_count words) (section_of words 5).offset string_size (λ i. is_good_string words i) (λ i. string_at words i) (λ i. (omega arith, omega arith))))

-- References

of_eq : (a b : ℕ) → a ≡ b → nat_eq a b ≡ true
of_eq a b h = grind (arith, nat_tests)

null_of : (n : ℕ) → is_no_domain n ≡ true → (n ≡ 0) ⊎ (n ≡ 4294967295)
null_of n h = grind (arith, nat_tests)

of_null : (n : ℕ) → (n ≡ 0) ⊎ (n ≡ 4294967295) → is_no_domain n ≡ true
of_null n h = grind (arith, nat_tests)

named_of : (n : ℕ) → is_no_domain n ≡ false → (n ≢ 0) × (n ≢ 4294967295)
named_of n h = (grind (arith, nat_tests), grind (arith, nat_tests))

of_named : (n : ℕ) → n ≢ 0 → n ≢ 4294967295 → is_no_domain n ≡ false
of_named n f g = grind (arith, nat_tests)

-- an offset leads to an entry where it is that of one
some_at : (n : ℕ) (test : ℕ → Bool) → some_below n test ≡ true → (k : ℕ) × (k < n) × (test k ≡ true)
unfolding some_below
some_at zero test h = absurd (true_false (sym h))
some_at (suc n) test h = here (test n) refl h (some_at n test)
  where
    or_false : (a : Bool) → (a || false) ≡ a
    or_false true = refl
    or_false false = refl

    here : (t : Bool) → test n ≡ t → (some_below n test || t) ≡ true → (some_below n test ≡ true → (k : ℕ) × (k < n) × (test k ≡ true)) → (k : ℕ) × (k < suc n) × (test k ≡ true)
    here true e h before = (n, omega arith, e)
    here false e h before = let (k, below, f) = before (sym (or_false (some_below n test)) ∙ h) in (k, omega arith, f)

leads_at : (first count size offset : ℕ) → leads first count size offset ≡ true → (k : ℕ) × (k < count) × (offset ≡ first + size * k)
unfolding leads
leads_at first count size offset h =
    let (k, below, e) = some_at count (λ k. nat_eq (first + size * k) offset) h in (k, below, sym (eq_of (first + size * k) offset e))

at_leads : (first count size offset k : ℕ) → k < count → offset ≡ first + size * k → leads first count size offset ≡ true
unfolding leads
at_leads first count size offset k below e = some_holds count k (λ k. nat_eq (first + size * k) offset) below (of_eq (first + size * k) offset (sym e))

-- the instance field of a value passes where it's as the law says
module _ (words : List ℕ) (value : ℕ) where
  leads_has : instance_leads words value ≡ true → HasInstance words value
  unfolding instance_leads
  leads_has h = here (is_no_domain (serial_in_metric words (metric_of words value))) refl h
    where
      here : (t : Bool) → is_no_domain (serial_in_metric words (metric_of words value)) ≡ t
          → (if t then nat_eq (instance_in_value words value) 0 else (leads_to_instance words (instance_in_value words value)
          && (leads_to_indom words (domain_in_instance words (instance_in_value words value)) && nat_eq (serial_in_indom words (domain_in_instance words (instance_in_value words value))) (serial_in_metric words (metric_of words value))))) ≡ true
          → HasInstance words value
      here true e h = inl (null_of _ e, eq_of (instance_in_value words value) 0 h)
      here false e h =
          let (k, known, stands) = leads_at (section_of words 2).offset (section_of words 2).count (instance_size (version_in words)) (instance_in_value words value) (both_left _ _ h) in
          let (d, counted, leads) = leads_at (section_of words 1).offset (section_of words 1).count indom_size (domain_in_instance words (instance_in_value words value)) (both_left _ _ (both_right _ _ h)) in
          inr (
            named_of _ e,
            record {
              instance = k;
              known = known;
              stands = stands;
              indom = d;
              counted = counted;
              leads = leads;
              has = sym (ap (serial_in_indom words) leads) ∙ eq_of (serial_in_indom words (domain_in_instance words (instance_in_value words value))) (serial_in_metric words (metric_of words value)) (both_right _ _ (both_right _ _ h));
            },
          )

  has_leads : HasInstance words value → instance_leads words value ≡ true
  unfolding instance_leads
  has_leads =
      ⊎_elim (λ (none : ((serial_in_metric words (metric_of words value) ≡ 0) ⊎ (serial_in_metric words (metric_of words value) ≡ 4294967295)) × (instance_in_value words value ≡ 0)).
      taken (is_no_domain (serial_in_metric words (metric_of words value))) _ _ (of_null _ none.0) (of_eq (instance_in_value words value) 0 none.1))
      (λ (some : ((serial_in_metric words (metric_of words value) ≢ 0) × (serial_in_metric words (metric_of words value) ≢ 4294967295)) × IsInstanceOf words (serial_in_metric words (metric_of words value)) (instance_in_value words value)).
      other (is_no_domain (serial_in_metric words (metric_of words value))) _ _ (of_named _ some.0.0 some.0.1)
      (and_of _ _ (at_leads (section_of words 2).offset (section_of words 2).count (instance_size (version_in words)) (instance_in_value words value) some.1.instance some.1.known some.1.stands)
      (and_of _ _ (at_leads (section_of words 1).offset (section_of words 1).count indom_size (domain_in_instance words (instance_in_value words value)) some.1.indom some.1.counted some.1.leads)
      (of_eq (serial_in_indom words (domain_in_instance words (instance_in_value words value))) (serial_in_metric words (metric_of words value)) (ap (serial_in_indom words) some.1.leads ∙ some.1.has)))))
    where
      and_of : (a b : Bool) → a ≡ true → b ≡ true → (a && b) ≡ true
      and_of a b p q = cc

      taken : (t a b : Bool) → t ≡ true → a ≡ true → (if t then a else b) ≡ true
      taken true a b e h = h
      taken false a b e h = cc

      other : (t a b : Bool) → t ≡ false → b ≡ true → (if t then a else b) ≡ true
      other false a b e h = h
      other true a b e h = cc

not_true : (b : Bool) → (b ≡ true → ⊥) → b ≡ false
not_true true h = absurd (h refl)
not_true false h = refl

false_not : (b : Bool) → b ≡ false → b ≡ true → ⊥
false_not b h k = cc

-- the references of a value
value_lowest : (words : List ℕ) (value : ℕ) → IsLowest (ValueReferenceFails words value) (value_reference_fault words value)
unfolding value_reference_fault
value_lowest words value = here (leads_to_metric words (metric_of words value)) refl
  where
    both : IsLowest (λ at. Fails (choice_leads words value) (extra_offset_in_value value) at ⊎ ((HasInstance words value → ⊥) × (at ≡ instance_offset_in_value value)))
        (or_else (unless (choice_leads words value) (extra_offset_in_value value)) (unless (instance_leads words value) (instance_offset_in_value value)))
    both =
        said (λ at. Fails (choice_leads words value) (extra_offset_in_value value) at ⊎ Fails (instance_leads words value) (instance_offset_in_value value) at) _ _
        (λ at. ⊎_elim (λ (f : Fails (choice_leads words value) (extra_offset_in_value value) at). inl f)
        (λ (f : Fails (instance_leads words value) (instance_offset_in_value value) at). inr (λ has. false_not (instance_leads words value) f.0 (has_leads words value has), f.1)))
        (λ at. ⊎_elim (λ (f : Fails (choice_leads words value) (extra_offset_in_value value) at). inl f)
        (λ (f : (HasInstance words value → ⊥) × (at ≡ instance_offset_in_value value)). inr (not_true (instance_leads words value) (λ h. f.0 (leads_has words value h)), f.1)))
        (two_lowest (choice_leads words value) (instance_leads words value) (extra_offset_in_value value) (instance_offset_in_value value) (omega arith))

    here : (t : Bool) → leads_to_metric words (metric_of words value) ≡ t → IsLowest (ValueReferenceFails words value)
        (if t then or_else (unless (choice_leads words value) (extra_offset_in_value value)) (unless (instance_leads words value) (instance_offset_in_value value)) else Some (metric_offset_in_value value))
    here true e =
        said (λ at. Fails (choice_leads words value) (extra_offset_in_value value) at ⊎ ((HasInstance words value → ⊥) × (at ≡ instance_offset_in_value value))) (ValueReferenceFails words value) _
        (λ at h. inr (e, h))
        (λ at. ⊎_elim (λ (f : Fails (leads_to_metric words (metric_of words value)) (metric_offset_in_value value) at). absurd (false_not _ f.0 e))
        (λ (f : (leads_to_metric words (metric_of words value) ≡ true) × (Fails (choice_leads words value) (extra_offset_in_value value) at ⊎ ((HasInstance words value → ⊥) × (at ≡ instance_offset_in_value value)))). f.1))
        both
    here false e = (
      inl (e, refl),
      λ other. ⊎_elim (λ (f : Fails (leads_to_metric words (metric_of words value)) (metric_offset_in_value value) other). same_le (metric_offset_in_value value) other (sym f.1))
          (λ (f : (leads_to_metric words (metric_of words value) ≡ true) × (Fails (choice_leads words value) (extra_offset_in_value value) other ⊎ ((HasInstance words value → ⊥) × (other ≡ instance_offset_in_value value)))). absurd (false_not _ e f.0)),
    )

value_within : (words : List ℕ) (value at : ℕ) → ValueReferenceFails words value at → (value ≤ at) × (at < value + value_size)
value_within words value at =
    ⊎_elim (λ (f : Fails (leads_to_metric words (metric_of words value)) (metric_offset_in_value value) at). at_field _ _ _ at (omega arith) (omega arith) f.1)
    (λ (f : (leads_to_metric words (metric_of words value) ≡ true) × (Fails (choice_leads words value) (extra_offset_in_value value) at ⊎ ((HasInstance words value → ⊥) × (at ≡ instance_offset_in_value value)))).
    ⊎_elim (λ (g : Fails (choice_leads words value) (extra_offset_in_value value) at). at_field _ _ _ at (omega arith) (omega arith) g.1)
    (λ (g : (HasInstance words value → ⊥) × (at ≡ instance_offset_in_value value)). at_field _ _ _ at (omega arith) (omega arith) g.1) f.1)

three_within : (lo hi : ℕ) (a b c : Bool) (p q r at : ℕ) → lo ≤ p → p ≤ q → q ≤ r → r < hi → Fails a p at ⊎ (Fails b q at ⊎ Fails c r at) → (lo ≤ at) × (at < hi)
three_within lo hi a b c p q r at l m n o =
    ⊎_elim (λ (f : Fails a p at). at_field lo hi p at (omega arith) (omega arith) f.1)
    (⊎_elim (λ (f : Fails b q at). at_field lo hi q at (omega arith) (omega arith) f.1) (λ (f : Fails c r at). at_field lo hi r at (omega arith) (omega arith) f.1))

-- the references of an instance, and of a metric, whose name stands in front
instance_within : (words : List ℕ) (instance at : ℕ) → InstanceReferenceFails words instance at → (instance ≤ at) × (at < instance + instance_size (version_in words))
instance_within words instance at =
    ⊎_elim (λ (f : Fails (lies_in_run words instance) instance at). at_field _ _ _ at (omega arith) (omega arith) f.1)
    (λ (f : Fails (name_leads words (name_offset_in_instance instance)) (name_offset_in_instance instance) at).
    let some : 8 ≤ name_width (version_in words) = width_least (version_in words) in at_field _ _ _ at (omega arith) (omega arith) f.1)

module _ (words : List ℕ) (metric : ℕ) where
  Others : ℕ → Type 0
  Others at =
      Fails (serial_leads words (serial_in_metric words metric)) (serial_offset_in_metric words metric) at
      ⊎ (Fails (help_leads words (short_offset_in_metric words metric)) (short_offset_in_metric words metric) at
      ⊎ Fails (help_leads words (long_offset_in_metric words metric)) (long_offset_in_metric words metric) at)

  others_within : (at : ℕ) → Others at → (metric ≤ at) × (at < metric + metric_size (version_in words))
  unfolding Others
  others_within at =
      three_within metric (metric + metric_size (version_in words)) (serial_leads words (serial_in_metric words metric)) (help_leads words (short_offset_in_metric words metric)) (help_leads words (long_offset_in_metric words metric))
      (serial_offset_in_metric words metric) (short_offset_in_metric words metric) (long_offset_in_metric words metric) at (omega arith) (omega arith) (omega arith) (omega arith)

  metric_lowest : IsLowest (MetricReferenceFails words metric) (metric_reference_fault words metric)
  unfolding metric_reference_fault name_reference_fault help_fault Others
  metric_lowest =
      else_lowest (Fails (name_leads words metric) metric) Others (unless (name_leads words metric) metric) _
      (λ x y f g. subst (λ p. p ≤ y) (sym f.1) (others_within y g).0) (unless_lowest (name_leads words metric) metric)
      (three_lowest (serial_leads words (serial_in_metric words metric)) (help_leads words (short_offset_in_metric words metric)) (help_leads words (long_offset_in_metric words metric))
      (serial_offset_in_metric words metric) (short_offset_in_metric words metric) (long_offset_in_metric words metric) (omega arith) (omega arith))

  metric_within : (at : ℕ) → MetricReferenceFails words metric at → (metric ≤ at) × (at < metric + metric_size (version_in words))
  unfolding Others
  metric_within at =
      ⊎_elim (λ (f : Fails (name_leads words metric) metric at). at_field _ _ _ at (omega arith) (omega arith) f.1) (λ (g : Others at). others_within at g)

pub references_are_lowest : ReferencesAreLowest
unfolding reference_fault indoms_reference_fault indom_reference_fault help_fault instances_reference_fault instance_reference_fault name_reference_fault metrics_reference_fault values_reference_fault
references_are_lowest words =
    let help : (ℕ → Bool) = λ at. help_leads words at in
    lower_lowest _ _ (lower (indoms_reference_fault words) (instances_reference_fault words)) (lower (metrics_reference_fault words) (values_reference_fault words))
    (lower_lowest _ _ (indoms_reference_fault words) (instances_reference_fault words)
    (entries_lowest (section_of words 1).offset indom_size (λ i. indom_reference_fault words (indom_at words i)) (λ i. IndomReferenceFails words (indom_at words i))
    (λ i. three_lowest (has_good_run words (indom_at words i)) (help (short_offset_in_indom (indom_at words i))) (help (long_offset_in_indom (indom_at words i))) (first_offset_in_indom (indom_at words i)) (short_offset_in_indom (indom_at words i)) (long_offset_in_indom (indom_at words i)) (omega arith) (omega arith))
    (λ i x. three_within (indom_at words i) (indom_at words i + indom_size) (has_good_run words (indom_at words i)) (help (short_offset_in_indom (indom_at words i))) (help (long_offset_in_indom (indom_at words i))) (first_offset_in_indom (indom_at words i)) (short_offset_in_indom (indom_at words i)) (long_offset_in_indom (indom_at words i)) x (omega arith) (omega arith) (omega arith) (omega arith))
    (indom_count words))
    (entries_lowest (section_of words 2).offset (instance_size (version_in words)) (λ i. instance_reference_fault words (instance_at words i)) (λ i. InstanceReferenceFails words (instance_at words i))
    (λ i. two_lowest (lies_in_run words (instance_at words i)) (name_leads words (name_offset_in_instance (instance_at words i))) (instance_at words i) (name_offset_in_instance (instance_at words i)) (omega arith))
    (λ i x. instance_within words (instance_at words i) x) (instance_count words)))
    (lower_lowest _ _ (metrics_reference_fault words) (values_reference_fault words)
    (entries_lowest (section_of words 3).offset (metric_size (version_in words)) (λ i. metric_reference_fault words (metric_at words i)) (λ i. MetricReferenceFails words (metric_at words i))
    (λ i. metric_lowest words (metric_at words i)) (λ i x. metric_within words (metric_at words i) x)
    (metric_count words))
    (entries_lowest (section_of words 4).offset value_size (λ i. value_reference_fault words (value_at words i)) (λ i. ValueReferenceFails words (value_at words i))
    (λ i. value_lowest words (value_at words i)) (λ i x. value_within words (value_at words i) x) (value_count words)))

-- The sections

-- what is found first is found at a number before which nothing is
first_at : (n y : ℕ) (test : ℕ → Bool) (told : ℕ → ℕ) → first_below n (λ i. unless (test i) (told i)) ≡ Some y
    → (j : ℕ) × (j < n) × (test j ≡ false) × (y ≡ told j) × ((k : ℕ) → k < j → test k ≡ true)
unfolding first_below or_else unless
first_at zero y test told h = absurd (none_some y h)
first_at (suc n) y test told h = here (first_below n (λ i. unless (test i) (told i))) refl h (first_at n y test told)
  where
    last : (t : Bool) → test n ≡ t → unless t (told n) ≡ Some y → (test n ≡ false) × (y ≡ told n)
    last true e h = absurd (none_some y h)
    last false e h = (e, sym (some_same (told n) y h))

    here : (o : Option ℕ) → first_below n (λ i. unless (test i) (told i)) ≡ o → or_else o (unless (test n) (told n)) ≡ Some y
        → (first_below n (λ i. unless (test i) (told i)) ≡ Some y → (j : ℕ) × (j < n) × (test j ≡ false) × (y ≡ told j) × ((k : ℕ) → k < j → test k ≡ true))
        → (j : ℕ) × (j < suc n) × (test j ≡ false) × (y ≡ told j) × ((k : ℕ) → k < j → test k ≡ true)
    here None e h before =
        let (fails, is) = last (test n) refl h in
        (n, omega arith, fails, is, λ k less. all_at n k test (tests_pass n test told e) less)
    here (Some z) e h before = let (j, below, fails, is, all) = before (e ∙ h) in (j, omega arith, fails, is, all)

gt_of : (a b : ℕ) → nat_le a b ≡ false → b < a
gt_of a b h = grind (arith, nat_tests)

bad_types : (words : List ℕ) (i : ℕ) → ((bytes_in words < entry_at (i + 1)) × (bad_type words i ≡ 0)) ⊎ ((entry_at (i + 1) ≤ bytes_in words) × (bad_type words i ≡ type_in words i))
unfolding bad_type
bad_types words i = here (entry_lies words i) refl
  where
    inside : (i n : ℕ) → nat_le (56 + 16 * i) n ≡ true → 40 + 16 * (i + 1) ≤ n
    inside i n h = let e : 56 + 16 * i ≤ n = le_of (56 + 16 * i) n h in omega arith

    outside : (i n : ℕ) → nat_le (56 + 16 * i) n ≡ false → n < 40 + 16 * (i + 1)
    outside i n h = let e : n < 56 + 16 * i = gt_of (56 + 16 * i) n h in omega arith

    here : (t : Bool) → entry_lies words i ≡ t → ((bytes_in words < entry_at (i + 1)) × ((if t then type_in words i else 0) ≡ 0)) ⊎ ((entry_at (i + 1) ≤ bytes_in words) × ((if t then type_in words i else 0) ≡ type_in words i))
    here true e = inr (inside i (bytes_in words) e, refl)
    here false e = inl (outside i (bytes_in words) e, refl)

pub sections_in_order : SectionsInOrder
unfolding section_fault
sections_in_order words = here (section_fault words) refl
  where
    here : (o : Option ℕ) → section_fault words ≡ o → SectionIs words o
    here None e = λ i below. all_at (contents_in words) i (has_good_section words) (tests_pass (contents_in words) (has_good_section words) (bad_type words) e) below
    here (Some told) e =
        let (j, below, fails, is, all) = first_at (contents_in words) told (has_good_section words) (bad_type words) e in record {
          entry = j;
          below = below;
          before = all;
          bad = fails;
          is = ⊎_elim (λ (f : (bytes_in words < entry_at (j + 1)) × (bad_type words j ≡ 0)). inl (f.0, is ∙ f.1)) (λ (f : (entry_at (j + 1) ≤ bytes_in words) × (bad_type words j ≡ type_in words j)). inr (f.0, is ∙ f.1)) (bad_types words j);
        }
