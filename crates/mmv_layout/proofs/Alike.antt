-- Words that agree with an image wherever its tests look are an image too: each test has the same answer.
use Rattle.std.proofs.Common.{◌≡◌, ℕ, zero, suc, ◌+◌, ◌-◌, ◌*◌, ◌/◌, ◌%◌, ◌^◌, ◌<◌, ◌≤◌, Bool, true, false, not, ◌&&◌, ◌||◌, ◌⊎◌, inl, inr, List, [], ◌∷◌, length, ap, ap₂, sym, subst, ◌∙◌, refl, arith, add-zero, nat_eq, nat_le, cond, bytes_eq, ⊎_elim}
use Rattle.std.proofs.lemmas.Bool.Decides.{nat_tests}
use Rattle.mmv_layout.specs.declared.contents.Section.{Section}
use Rattle.mmv_layout.specs.Below.{all_below, some_below}
use Rattle.mmv_layout.specs.Fields.{number32, number64, byte_at, text_at, has_zero}
use Rattle.mmv_layout.specs.Sizes.{has_inline_names, name_width, name_room, header_size, indom_size, instance_size, metric_size, value_size, string_size}
use Rattle.mmv_layout.specs.EntryFields.{name_start, name_text, same_name, count_offset_in_indom, count_in_indom, first_offset_in_indom, short_offset_in_indom, long_offset_in_indom, domain_in_instance, number_offset_in_instance, name_offset_in_instance, item_offset_in_metric, type_offset_in_metric, type_in_metric, semantics_offset_in_metric, serial_offset_in_metric, serial_in_metric, short_offset_in_metric, long_offset_in_metric, extra_in_value, metric_offset_in_value, instance_offset_in_value, instance_in_value}
use Rattle.mmv_layout.specs.Contents.{version_in, contents_in, type_in, count_in, offset_in, end_in, section_lies, are_apart, is_first_of_type, has_good_section, find_section, section_of, entry_at, entry_end, count_offset_in, offset_field_in}
use Rattle.mmv_layout.specs.Entries.{leads_to_string, indom_count, indom_at, instance_count, instance_at, metric_count, metric_at, value_count, value_at, string_count, string_at, help_leads, name_leads, name_ends, is_passed_over, run_at, is_instance_of, has_good_run, has_serial, is_new_indom, is_good_indom, has_text, lies_in_run, is_same_instance, is_new_instance, is_good_instance, has_name, is_no_domain, is_indom_serial, serial_leads, is_same_metric, is_new_metric, has_good_fields, is_good_metric, metric_of, instance_leads, choice_leads, is_same_value, is_new_value, is_good_value, is_good_string}
use Rattle.mmv_layout.specs.Images.{is_image}
use Rattle.mmv_layout.proofs.Below.{both_left, both_right}
use Rattle.mmv_layout.specs.Rows.{item_of, type_of, domain_of}
use Rattle.mmv_layout.specs.Says.{LeadsTo}
use Rattle.mmv_layout.proofs.Goods.{eq_of, either, leads_there, good_instance, good_value}
use Rattle.mmv_layout.proofs.Looked.{Looked, looked_header, looked_contents, looked_indom, looked_instance, looked_metric, looked_string, looked_value}
use Rattle.mmv_layout.proofs.Named.{outline_leads, instance_named, metric_named}
use Rattle.mmv_layout.proofs.Runs.{run_leads}
use Rattle.mmv_layout.proofs.Widths.{width_least, room_least}
use Rattle.mmv_layout.proofs.Saying.{value_metric}

-- other words agree with an image where its tests look, have one generation twice, and no more than 65,536 words
pub record Agrees (a b : List ℕ) : Type 0 where
  pub longer : length a ≤ length b
  pub few : length b ≤ 65536
  pub again : number64 b 8 ≡ number64 b 16
  pub same : (offset : ℕ) → Looked a offset → number64 b offset ≡ number64 a offset
  pub choices : (i : ℕ) → i < value_count a → type_in_metric a (metric_of a (value_at a i)) ≡ 6 → leads_to_string a (extra_in_value b (value_at a i)) ≡ true

all_alike : (n : ℕ) (test other : ℕ → Bool) → ((k : ℕ) → k < n → other k ≡ test k) → all_below n other ≡ all_below n test
unfolding all_below
all_alike zero test other same = refl
all_alike (suc n) test other same = ap₂ (λ x y. x && y) (all_alike n test other (λ k below. same k (omega arith))) (same n (omega arith))

some_alike : (n : ℕ) (test other : ℕ → Bool) → ((k : ℕ) → k < n → other k ≡ test k) → some_below n other ≡ some_below n test
unfolding some_below
some_alike zero test other same = refl
some_alike (suc n) test other same = ap₂ (λ x y. x || y) (some_alike n test other (λ k below. same k (omega arith))) (same n (omega arith))

all_same : (n m : ℕ) (test other : ℕ → Bool) → m ≡ n → ((k : ℕ) → k < n → other k ≡ test k) → all_below m other ≡ all_below n test
all_same n m test other e same = ap (λ c. all_below c other) e ∙ all_alike n test other same

some_same : (n m : ℕ) (test other : ℕ → Bool) → m ≡ n → ((k : ℕ) → k < n → other k ≡ test k) → some_below m other ≡ some_below n test
some_same n m test other e same = ap (λ c. some_below c other) e ∙ some_alike n test other same

section_with : ℕ → ℕ → Section
section_with p c = record { offset = p; count = c }

pick_same : (type t u p q c d : ℕ) (s r : Section) → t ≡ u → p ≡ q → c ≡ d → s ≡ r → cond (nat_eq t type) (section_with p c) s ≡ cond (nat_eq u type) (section_with q d) r
pick_same type t u p q c d s r e f m n = cc

lies_still : (c n p e w v : ℕ) → w ≤ v → (nat_eq c 0 || (nat_le (entry_at n) p && nat_le e (8 * w))) ≡ true → (nat_eq c 0 || (nat_le (entry_at n) p && nat_le e (8 * v))) ≡ true
lies_still c n p e w v h l = grind (arith, nat_tests)

fits_still : (n w v : ℕ) → w ≤ v → nat_le n (8 * w) ≡ true → nat_le n (8 * v) ≡ true
fits_still n w v h l = grind (arith, nat_tests)

all_four : (p q r s : Bool) → p ≡ true → q ≡ true → r ≡ true → s ≡ true → (p && q && r && s) ≡ true
all_four p q r s a b c d = rw (a, b, c, d) refl

module _ (a b : List ℕ) (h : is_image a ≡ true) (g : Agrees a b) where
  pub same32 : (offset : ℕ) → Looked a offset → number32 b offset ≡ number32 a offset
  unfolding number32
  same32 offset looked = ap (λ n. n / 2 ^ (8 * (offset % 8)) % 4294967296) (g.same offset looked)

  same_byte : (offset : ℕ) → Looked a offset → byte_at b offset ≡ byte_at a offset
  unfolding byte_at
  same_byte offset looked = ap (λ n. n / 2 ^ (8 * (offset % 8)) % 256) (g.same offset looked)

  pub text_same : (n at : ℕ) → ((k : ℕ) → k < n → Looked a (at + k)) → text_at b at n ≡ text_at a at n
  unfolding text_at
  text_same zero at looked = refl
  text_same (suc n) at looked =
      ap₂ (λ c t. cond (nat_eq c 0) [] (c ∷ t)) (same_byte at (subst (Looked a) (add-zero at) (looked 0 (omega arith))))
      (text_same n (at + 1) (λ k below. subst (Looked a) (moved at k) (looked (suc k) (omega arith))))
    where
      moved : (at k : ℕ) → at + suc k ≡ (at + 1) + k
      moved at k = omega arith

  zero_same : (n at : ℕ) → ((k : ℕ) → k < n → Looked a (at + k)) → has_zero b at n ≡ has_zero a at n
  unfolding has_zero
  zero_same n at looked = some_alike n (λ k. nat_eq (byte_at a (at + k)) 0) (λ k. nat_eq (byte_at b (at + k)) 0) (λ k below. ap (λ c. nat_eq c 0) (same_byte (at + k) (looked k below)))

  -- the header and the contents

  pub head32 : (offset : ℕ) → offset < header_size → (offset < 8) ⊎ (24 ≤ offset) → number32 b offset ≡ number32 a offset
  head32 offset below outside = same32 offset (looked_header a offset h below outside)

  pub version_same : version_in b ≡ version_in a
  version_same = head32 4 (omega arith) (inl (omega arith))

  pub contents_same : contents_in b ≡ contents_in a
  contents_same = head32 24 (omega arith) (inr (omega arith))

  type_same : (i : ℕ) → i < contents_in a → type_in b i ≡ type_in a i
  type_same i below = same32 (entry_at i) (subst (Looked a) (add-zero (entry_at i)) (looked_contents a i 0 h below (omega arith)))

  pub count_same : (i : ℕ) → i < contents_in a → count_in b i ≡ count_in a i
  count_same i below = same32 (count_offset_in i) (subst (Looked a) (moved i) (looked_contents a i 4 h below (omega arith)))
    where
      moved : (i : ℕ) → entry_at i + 4 ≡ count_offset_in i
      moved i = omega arith

  pub offset_same : (i : ℕ) → i < contents_in a → offset_in b i ≡ offset_in a i
  offset_same i below = g.same (offset_field_in i) (subst (Looked a) (moved i) (looked_contents a i 8 h below (omega arith)))
    where
      moved : (i : ℕ) → entry_at i + 8 ≡ offset_field_in i
      moved i = omega arith

  end_same : (i : ℕ) → i < contents_in a → end_in b i ≡ end_in a i
  unfolding end_in
  end_same i below = rw (version_same, offset_same i below, type_same i below, count_same i below) refl

  find_same : (type n : ℕ) → n ≤ contents_in a → find_section b type n ≡ find_section a type n
  unfolding find_section section_with
  find_same type zero below = refl
  find_same type (suc n) below =
      pick_same type (type_in b n) (type_in a n) (offset_in b n) (offset_in a n) (count_in b n) (count_in a n) (find_section b type n) (find_section a type n)
      (type_same n (omega arith)) (offset_same n (omega arith)) (count_same n (omega arith)) (find_same type n (omega arith))

  pub section_same : (type : ℕ) → section_of b type ≡ section_of a type
  unfolding section_of
  section_same type = ap (find_section b type) contents_same ∙ find_same type (contents_in a) (omega arith)

  apart_same : (j i : ℕ) → j < contents_in a → i < contents_in a → are_apart b j i ≡ are_apart a j i
  unfolding are_apart
  apart_same j i x y = rw (type_same j x, type_same i y, count_same j x, count_same i y, end_same j x, end_same i y, offset_same j x, offset_same i y) refl

  first_same : (i : ℕ) → i < contents_in a → is_first_of_type b i ≡ is_first_of_type a i
  unfolding is_first_of_type
  first_same i below = all_alike i (λ j. are_apart a j i) (λ j. are_apart b j i) (λ j less. apart_same j i (omega arith) below)

  pub section_still : (i : ℕ) → i < contents_in a → has_good_section a i ≡ true → has_good_section b i ≡ true
  unfolding has_good_section section_lies
  section_still i below good =
      all_four _ _ _ _
      (fits_still (entry_end i) (length a) (length b) g.longer (both_left _ _ (both_left _ _ (both_left _ _ good))))
      (rw (type_same i below) (both_right _ _ (both_left _ _ (both_left _ _ good))))
      (rw (count_same i below, contents_same, offset_same i below, end_same i below) (lies_still (count_in a i) (contents_in a) (offset_in a i) (end_in a i) (length a) (length b) g.longer (both_right _ _ (both_left _ _ good))))
      (first_same i below ∙ both_right _ _ good)

  -- references

  pub help_same : (field : ℕ) → Looked a field → help_leads b field ≡ help_leads a field
  unfolding help_leads
  help_same field looked = rw (g.same field looked, section_same 5) refl

  -- names

  at_first : (offset : ℕ) → Looked a (offset + 0) → Looked a offset
  at_first offset looked = subst (Looked a) (add-zero offset) looked

  -- a name field of the image, that leads to its name
  pub Named : ℕ → Type 0
  Named field = (name_leads a field ≡ true) × ((k : ℕ) → k < name_width (version_in a) → Looked a (field + k))

  looked_field : (field : ℕ) → Named field → Looked a field
  unfolding Named
  looked_field field named =
      let some : 8 ≤ name_width (version_in a) = width_least (version_in a) in at_first field (named.1 0 (omega arith))

  start_same : (field : ℕ) → Named field → name_start b field ≡ name_start a field
  unfolding name_start
  start_same field named = rw (version_same, g.same field (looked_field field named)) refl

  -- where a name stands is looked at
  name_looked : (field : ℕ) → Named field → (k : ℕ) → k < name_room (version_in a) → Looked a (name_start a field + k)
  unfolding Named name_start name_room name_width
  name_looked field named k small =
      ⊎_elim (λ (inside : has_inline_names (version_in a) ≡ true). rw inside (named.1 k (rw inside (rw inside at small))))
      (λ (outside : has_inline_names (version_in a) ≡ false).
      let (j, below, stands) = outline_leads a field named.0 outside in
      rw outside (subst (λ p. Looked a (p + k)) (sym stands) (looked_string a j k h below (rw outside at small))))
      (either (has_inline_names (version_in a)))

  pub name_same : (field : ℕ) → Named field → name_text b field ≡ name_text a field
  unfolding name_text
  name_same field named = rw (version_same, start_same field named) (text_same (name_room (version_in a)) (name_start a field) (name_looked field named))

  same_name_same : (x y : ℕ) → Named x → Named y → same_name b x y ≡ same_name a x y
  unfolding same_name
  same_name_same x y named others = ap₂ bytes_eq (name_same x named) (name_same y others)

  leads_same : (field : ℕ) → Named field → name_leads b field ≡ name_leads a field
  unfolding name_leads
  leads_same field named = rw (version_same, g.same field (looked_field field named), section_same 5) refl

  ends_same : (field : ℕ) → Named field → name_ends b field ≡ name_ends a field
  unfolding name_ends
  ends_same field named = rw (version_same, start_same field named) (zero_same (name_room (version_in a)) (name_start a field) (name_looked field named))

  passed_same : (field : ℕ) → Named field → is_passed_over b field ≡ is_passed_over a field
  unfolding is_passed_over
  passed_same field named = rw (version_same, leads_same field named, ends_same field named) refl

  has_text_same : (field : ℕ) → Named field → has_text b field ≡ has_text a field
  unfolding has_text
  has_text_same field named =
      rw (passed_same field named, ends_same field named, start_same field named, same_byte (name_start a field) (first_byte field named)) refl
    where
      first_byte : (field : ℕ) → Named field → Looked a (name_start a field)
      first_byte field named = let some : 1 ≤ name_room (version_in a) = room_least (version_in a) in at_first (name_start a field) (name_looked field named 0 (omega arith))

  has_name_same : (field : ℕ) → Named field → has_name b field ≡ has_name a field
  unfolding has_name
  has_name_same field named = rw (passed_same field named, ends_same field named, name_same field named) refl

  -- domains

  pub indom_offset : (i : ℕ) → indom_at b i ≡ indom_at a i
  indom_offset i = ap (λ s. s.offset + indom_size * i) (section_same 1)

  indom_serial : (i : ℕ) → i < indom_count a → number32 b (indom_at b i) ≡ number32 a (indom_at a i)
  indom_serial i below = ap (number32 b) (indom_offset i) ∙ same32 (indom_at a i) (at_first (indom_at a i) (looked_indom a i 0 h below (omega arith)))

  serial_same : (serial i : ℕ) → i < indom_count a → has_serial b serial i ≡ has_serial a serial i
  unfolding has_serial
  serial_same serial i below = ap (λ n. nat_eq n serial) (indom_serial i below)

  new_indom_same : (i : ℕ) → i < indom_count a → is_new_indom b i ≡ is_new_indom a i
  unfolding is_new_indom
  new_indom_same i below =
      all_alike i (λ j. not (has_serial a (number32 a (indom_at a i)) j)) (λ j. not (has_serial b (number32 b (indom_at b i)) j))
      (λ j less. ap (λ n. not (has_serial b n j)) (indom_serial i below) ∙ ap not (serial_same (number32 a (indom_at a i)) j (omega arith)))

  pub looked_run : (offset o : ℕ) → LeadsTo (instance_count a) (instance_at a) offset → o < instance_size (version_in a) → Looked a (offset + o)
  looked_run offset o (k, below, stands) small = subst (λ p. Looked a (p + o)) (sym stands) (looked_instance a k o h below small)

  member_same : (domain instance : ℕ) → Looked a instance → is_instance_of b domain instance ≡ is_instance_of a domain instance
  unfolding is_instance_of
  member_same domain instance looked = rw (section_same 2, version_same, g.same instance looked) refl

  pub run_at_same : (i k : ℕ) → i < indom_count a → run_at b (indom_at a i) k ≡ run_at a (indom_at a i) k
  run_at_same i k below =
      ap₂ (λ n v. n + instance_size v * k) (g.same (first_offset_in_indom (indom_at a i)) (looked_indom a i (first_offset_in_indom 0) h below (omega arith))) version_same

  run_same : (i : ℕ) → i < indom_count a → has_good_run b (indom_at a i) ≡ has_good_run a (indom_at a i)
  unfolding has_good_run
  run_same i below =
      all_same (count_in_indom a (indom_at a i)) (count_in_indom b (indom_at a i)) (λ k. is_instance_of a (indom_at a i) (run_at a (indom_at a i) k))
      (λ k. is_instance_of b (indom_at a i) (run_at b (indom_at a i) k))
      (same32 (count_offset_in_indom (indom_at a i)) (looked_indom a i (count_offset_in_indom 0) h below (omega arith)))
      (λ k within. ap (is_instance_of b (indom_at a i)) (run_at_same i k below)
      ∙ member_same (indom_at a i) (run_at a (indom_at a i) k) (at_first (run_at a (indom_at a i) k) (looked_run (run_at a (indom_at a i) k) 0 (run_leads a i k h below within) (omega arith))))

  pub indom_same : (i : ℕ) → i < indom_count a → is_good_indom b i ≡ is_good_indom a i
  unfolding is_good_indom
  indom_same i below =
      rw (
        indom_serial i below,
        new_indom_same i below,
        indom_offset i,
        help_same (short_offset_in_indom (indom_at a i)) (looked_indom a i (short_offset_in_indom 0) h below (omega arith)),
        help_same (long_offset_in_indom (indom_at a i)) (looked_indom a i (long_offset_in_indom 0) h below (omega arith)),
        run_same i below,
      ) refl

  -- instances

  pub instance_offset : (i : ℕ) → instance_at b i ≡ instance_at a i
  instance_offset i = ap₂ (λ s v. s.offset + instance_size v * i) (section_same 2) version_same

  good_lies : (i : ℕ) → is_good_instance a i ≡ true → lies_in_run a (instance_at a i) ≡ true
  unfolding is_good_instance
  good_lies i good = both_right _ _ (both_left _ _ (both_left _ _ good))

  -- an instance leads to a domain
  pub domain_leads : (i : ℕ) → i < instance_count a → LeadsTo (indom_count a) (indom_at a) (domain_in_instance a (instance_at a i))
  unfolding lies_in_run
  domain_leads i below = leads_there (section_of a 1).offset (section_of a 1).count indom_size (domain_in_instance a (instance_at a i)) (both_left _ _ (good_lies i (good_instance a i h below)))

  pub looked_domain : (offset o : ℕ) → LeadsTo (indom_count a) (indom_at a) offset → o < indom_size → Looked a (offset + o)
  looked_domain offset o (k, below, stands) small = subst (λ p. Looked a (p + o)) (sym stands) (looked_indom a k o h below small)

  domain_same : (i : ℕ) → i < instance_count a → domain_in_instance b (instance_at a i) ≡ domain_in_instance a (instance_at a i)
  domain_same i below = g.same (instance_at a i) (at_first (instance_at a i) (looked_instance a i 0 h below (omega arith)))

  lies_same : (i : ℕ) → i < instance_count a → lies_in_run b (instance_at a i) ≡ lies_in_run a (instance_at a i)
  unfolding lies_in_run
  lies_same i below =
      rw (
        domain_same i below,
        section_same 1,
        version_same,
        g.same (first_offset_in_indom (domain_in_instance a (instance_at a i))) (looked_domain (domain_in_instance a (instance_at a i)) (first_offset_in_indom 0) (domain_leads i below) (omega arith)),
        same32 (count_offset_in_indom (domain_in_instance a (instance_at a i))) (looked_domain (domain_in_instance a (instance_at a i)) (count_offset_in_indom 0) (domain_leads i below) (omega arith)),
      ) refl

  pub named_instance : (offset : ℕ) → LeadsTo (instance_count a) (instance_at a) offset → Named (name_offset_in_instance offset)
  unfolding Named
  named_instance offset (i, below, stands) =
      subst (λ p. Named (name_offset_in_instance p)) (sym stands)
      (instance_named a i h below, λ k small. subst (Looked a) (moved (instance_at a i) k) (looked_instance a i (name_offset_in_instance 0 + k) h below (omega arith)))
    where
      moved : (p k : ℕ) → p + (name_offset_in_instance 0 + k) ≡ name_offset_in_instance p + k
      moved p k = omega arith

  same_instance_same : (j i : ℕ) → j < instance_count a → i < instance_count a → is_same_instance b (instance_at a j) (instance_at a i) ≡ is_same_instance a (instance_at a j) (instance_at a i)
  unfolding is_same_instance
  same_instance_same j i x y =
      rw (
        domain_same j x,
        domain_same i y,
        same32 (number_offset_in_instance (instance_at a j)) (looked_instance a j (number_offset_in_instance 0) h x (omega arith)),
        same32 (number_offset_in_instance (instance_at a i)) (looked_instance a i (number_offset_in_instance 0) h y (omega arith)),
        same_name_same (name_offset_in_instance (instance_at a j)) (name_offset_in_instance (instance_at a i)) (named_instance (instance_at a j) (j, x, refl)) (named_instance (instance_at a i) (i, y, refl)),
      ) refl

  new_instance_same : (i : ℕ) → i < instance_count a → is_new_instance b i ≡ is_new_instance a i
  unfolding is_new_instance
  new_instance_same i below =
      all_alike i (λ j. not (is_same_instance a (instance_at a j) (instance_at a i))) (λ j. not (is_same_instance b (instance_at b j) (instance_at b i)))
      (λ j less. ap₂ (λ p q. not (is_same_instance b p q)) (instance_offset j) (instance_offset i) ∙ ap not (same_instance_same j i (omega arith) below))

  pub instance_same : (i : ℕ) → i < instance_count a → is_good_instance b i ≡ is_good_instance a i
  unfolding is_good_instance
  instance_same i below =
      rw (
        new_instance_same i below,
        instance_offset i,
        has_text_same (name_offset_in_instance (instance_at a i)) (named_instance (instance_at a i) (i, below, refl)),
        leads_same (name_offset_in_instance (instance_at a i)) (named_instance (instance_at a i) (i, below, refl)),
        lies_same i below,
        same32 (number_offset_in_instance (instance_at a i)) (looked_instance a i (number_offset_in_instance 0) h below (omega arith)),
      ) refl

  -- metrics

  -- an offset in a metric
  pub looked_field_of : (i at : ℕ) → i < metric_count a → metric_at a i ≤ at → at < metric_at a i + metric_size (version_in a) → Looked a at
  looked_field_of i at below behind within =
      subst (Looked a) (moved (metric_at a i) behind) (looked_metric a i (at - metric_at a i) h below (omega arith))
    where
      moved : (p : ℕ) → p ≤ at → p + (at - p) ≡ at
      moved p c = omega arith

  pub metric_offset : (i : ℕ) → metric_at b i ≡ metric_at a i
  metric_offset i = ap₂ (λ s v. s.offset + metric_size v * i) (section_same 3) version_same

  indom_serial_same : (serial : ℕ) → is_indom_serial b serial ≡ is_indom_serial a serial
  unfolding is_indom_serial
  indom_serial_same serial =
      some_same (indom_count a) (indom_count b) (has_serial a serial) (has_serial b serial) (ap (λ s. s.count) (section_same 1)) (λ k below. serial_same serial k below)

  serial_leads_same : (serial : ℕ) → serial_leads b serial ≡ serial_leads a serial
  unfolding serial_leads
  serial_leads_same serial = ap (λ t. is_no_domain serial || t) (indom_serial_same serial)

  fields_same : (i : ℕ) → i < metric_count a → has_good_fields b (metric_at a i) ≡ has_good_fields a (metric_at a i)
  unfolding has_good_fields
  fields_same i below =
      rw (
        version_same,
        same32 (type_offset_in_metric a (metric_at a i)) (looked_field_of i (type_offset_in_metric a (metric_at a i)) below (omega arith) (omega arith)),
        same32 (semantics_offset_in_metric a (metric_at a i)) (looked_field_of i (semantics_offset_in_metric a (metric_at a i)) below (omega arith) (omega arith)),
        same32 (serial_offset_in_metric a (metric_at a i)) (looked_field_of i (serial_offset_in_metric a (metric_at a i)) below (omega arith) (omega arith)),
        serial_leads_same (serial_in_metric a (metric_at a i)),
        help_same (short_offset_in_metric a (metric_at a i)) (looked_field_of i (short_offset_in_metric a (metric_at a i)) below (omega arith) (omega arith)),
        help_same (long_offset_in_metric a (metric_at a i)) (looked_field_of i (long_offset_in_metric a (metric_at a i)) below (omega arith) (omega arith)),
        same32 (item_offset_in_metric a (metric_at a i)) (looked_field_of i (item_offset_in_metric a (metric_at a i)) below (omega arith) (omega arith)),
      ) refl

  pub named_metric : (i : ℕ) → i < metric_count a → Named (metric_at a i)
  unfolding Named
  named_metric i below = (metric_named a i h below, λ k small. looked_metric a i k h below (omega arith))

  same_metric_same : (j i : ℕ) → j < metric_count a → i < metric_count a → is_same_metric b (metric_at a j) (metric_at a i) ≡ is_same_metric a (metric_at a j) (metric_at a i)
  unfolding is_same_metric
  same_metric_same j i x y =
      rw (
        version_same,
        same32 (item_offset_in_metric a (metric_at a j)) (looked_field_of j (item_offset_in_metric a (metric_at a j)) x (omega arith) (omega arith)),
        same32 (item_offset_in_metric a (metric_at a i)) (looked_field_of i (item_offset_in_metric a (metric_at a i)) y (omega arith) (omega arith)),
        same_name_same (metric_at a j) (metric_at a i) (named_metric j x) (named_metric i y),
      ) refl

  new_metric_same : (i : ℕ) → i < metric_count a → is_new_metric b i ≡ is_new_metric a i
  unfolding is_new_metric
  new_metric_same i below =
      all_alike i (λ j. not (is_same_metric a (metric_at a j) (metric_at a i))) (λ j. not (is_same_metric b (metric_at b j) (metric_at b i)))
      (λ j less. ap₂ (λ p q. not (is_same_metric b p q)) (metric_offset j) (metric_offset i) ∙ ap not (same_metric_same j i (omega arith) below))

  pub metric_same : (i : ℕ) → i < metric_count a → is_good_metric b i ≡ is_good_metric a i
  unfolding is_good_metric
  metric_same i below =
      rw (
        new_metric_same i below,
        metric_offset i,
        has_name_same (metric_at a i) (named_metric i below),
        leads_same (metric_at a i) (named_metric i below),
        fields_same i below,
      ) refl

  -- values

  pub value_offset : (i : ℕ) → value_at b i ≡ value_at a i
  value_offset i = ap (λ s. s.offset + value_size * i) (section_same 4)

  pub metric_of_same : (i : ℕ) → i < value_count a → metric_of b (value_at a i) ≡ metric_of a (value_at a i)
  unfolding metric_of
  metric_of_same i below = g.same (metric_offset_in_value (value_at a i)) (looked_value a i (metric_offset_in_value 0) h below (omega arith) (omega arith))

  -- a field of the value's metric
  of_same : (i : ℕ) (field : ℕ → ℕ) → i < value_count a → ((m : ℕ) → (m ≤ field m) × (field m < m + metric_size (version_in a)))
      → number32 b (field (metric_of b (value_at a i))) ≡ number32 a (field (metric_of a (value_at a i)))
  of_same i field below inside =
      let (k, within, stands) = value_metric a i (good_value a i h below) in
      ap (λ m. number32 b (field m)) (metric_of_same i below)
      ∙ same32 (field (metric_of a (value_at a i))) (subst (λ m. Looked a (field m)) (sym stands) (looked_field_of k (field (metric_at a k)) within (inside (metric_at a k)).0 (inside (metric_at a k)).1))

  pub item_of_same : (i : ℕ) → i < value_count a → item_of b (value_at a i) ≡ item_of a (value_at a i)
  item_of_same i below = rw version_same (of_same i (item_offset_in_metric a) below (λ m. (omega arith, omega arith)))

  pub type_of_same : (i : ℕ) → i < value_count a → type_of b (value_at a i) ≡ type_of a (value_at a i)
  type_of_same i below = rw version_same (of_same i (type_offset_in_metric a) below (λ m. (omega arith, omega arith)))

  pub serial_of_same : (i : ℕ) → i < value_count a → domain_of b (value_at a i) ≡ domain_of a (value_at a i)
  serial_of_same i below = rw version_same (of_same i (serial_offset_in_metric a) below (λ m. (omega arith, omega arith)))

  pub field_same : (i : ℕ) → i < value_count a → instance_in_value b (value_at a i) ≡ instance_in_value a (value_at a i)
  field_same i below = g.same (instance_offset_in_value (value_at a i)) (looked_value a i (instance_offset_in_value 0) h below (omega arith) (omega arith))

  leads_good : (i : ℕ) → is_good_value a i ≡ true → instance_leads a (value_at a i) ≡ true
  unfolding is_good_value
  leads_good i good = both_right _ _ (both_left _ _ (both_left _ _ good))

  taken : (t x y : Bool) → cond t x y ≡ true → t ≡ false → y ≡ true
  taken true x y p e = cc
  taken false x y p e = p

  -- the instance of a value whose metric has a domain
  pub instance_there : (i : ℕ) → i < value_count a → is_no_domain (domain_of a (value_at a i)) ≡ false → LeadsTo (instance_count a) (instance_at a) (instance_in_value a (value_at a i))
  unfolding instance_leads
  instance_there i below some =
      leads_there (section_of a 2).offset (section_of a 2).count (instance_size (version_in a)) (instance_in_value a (value_at a i)) (both_left _ _ (taken _ _ _ (leads_good i (good_value a i h below)) some))

  instance_domain : (offset : ℕ) → LeadsTo (instance_count a) (instance_at a) offset → domain_in_instance b offset ≡ domain_in_instance a offset
  instance_domain offset there = g.same offset (at_first offset (looked_run offset 0 there (omega arith)))

  instance_serial : (offset : ℕ) → LeadsTo (instance_count a) (instance_at a) offset → number32 b (number64 b offset) ≡ number32 a (number64 a offset)
  instance_serial offset (k, below, stands) =
      ap (number32 b) (g.same offset (at_first offset (looked_run offset 0 (k, below, stands) (omega arith))))
      ∙ same32 (number64 a offset) (at_first (number64 a offset) (looked_domain (number64 a offset) 0 (subst (λ p. LeadsTo (indom_count a) (indom_at a) (number64 a p)) (sym stands) (domain_leads k below)) (omega arith)))

  instance_leads_same : (i : ℕ) → i < value_count a → instance_leads b (value_at a i) ≡ instance_leads a (value_at a i)
  unfolding instance_leads
  instance_leads_same i below =
      rw (serial_of_same i below, field_same i below, section_same 2, section_same 1, version_same)
      (⊎_elim
      (λ (none : is_no_domain (domain_of a (value_at a i)) ≡ true). rw none refl)
      (λ (some : is_no_domain (domain_of a (value_at a i)) ≡ false). rw (some, instance_serial (instance_in_value a (value_at a i)) (instance_there i below some), instance_domain (instance_in_value a (value_at a i)) (instance_there i below some)) refl)
      (either (is_no_domain (domain_of a (value_at a i)))))

  same_value_same : (j i : ℕ) → j < value_count a → i < value_count a → is_same_value b (value_at a j) (value_at a i) ≡ is_same_value a (value_at a j) (value_at a i)
  unfolding is_same_value
  same_value_same j i x y =
      rw (
        g.same (metric_offset_in_value (value_at a j)) (looked_value a j (metric_offset_in_value 0) h x (omega arith) (omega arith)),
        g.same (metric_offset_in_value (value_at a i)) (looked_value a i (metric_offset_in_value 0) h y (omega arith) (omega arith)),
        field_same j x,
        field_same i y,
      ) refl

  new_value_same : (i : ℕ) → i < value_count a → is_new_value b i ≡ is_new_value a i
  unfolding is_new_value
  new_value_same i below =
      all_alike i (λ j. not (is_same_value a (value_at a j) (value_at a i))) (λ j. not (is_same_value b (value_at b j) (value_at b i)))
      (λ j less. ap₂ (λ p q. not (is_same_value b p q)) (value_offset j) (value_offset i) ∙ ap not (same_value_same j i (omega arith) below))

  -- a string value leads to a string, also where it is another
  choice_still : (i : ℕ) → i < value_count a → choice_leads b (value_at a i) ≡ true
  unfolding choice_leads
  choice_still i below =
      rw (type_of_same i below, section_same 5)
      (⊎_elim
      (λ (choice : nat_eq (type_in_metric a (metric_of a (value_at a i))) 6 ≡ true).
      or_last _ _ (g.choices i below (eq_of (type_in_metric a (metric_of a (value_at a i))) 6 choice)))
      (λ (other : nat_eq (type_in_metric a (metric_of a (value_at a i))) 6 ≡ false). rw other refl)
      (either (nat_eq (type_in_metric a (metric_of a (value_at a i))) 6)))
    where
      or_last : (x y : Bool) → y ≡ true → (x || y) ≡ true
      or_last true y e = refl
      or_last false y e = e

  pub value_still : (i : ℕ) → i < value_count a → is_good_value a i ≡ true → is_good_value b i ≡ true
  unfolding is_good_value
  value_still i below good =
      all_four _ _ _ _
      (rw (value_offset i, metric_of_same i below, section_same 3, version_same) (both_left _ _ (both_left _ _ (both_left _ _ good))))
      (ap (instance_leads b) (value_offset i) ∙ instance_leads_same i below ∙ both_right _ _ (both_left _ _ (both_left _ _ good)))
      (ap (choice_leads b) (value_offset i) ∙ choice_still i below)
      (new_value_same i below ∙ both_right _ _ good)

  -- strings

  pub string_offset : (i : ℕ) → string_at b i ≡ string_at a i
  string_offset i = ap (λ s. s.offset + string_size * i) (section_same 5)

  pub string_same : (i : ℕ) → i < string_count a → is_good_string b i ≡ is_good_string a i
  unfolding is_good_string
  string_same i below = ap (λ p. has_zero b p string_size) (string_offset i) ∙ zero_same string_size (string_at a i) (λ k small. looked_string a i k h below small)
