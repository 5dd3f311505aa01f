-- What an image says is a draft.
use Rattle.std.proofs.Common.{◌≡◌, ℕ, ℤ, zero, suc, pos, negsuc, ◌+◌, ◌*◌, ◌<◌, ◌≤◌, ◌^◌, Bool, true, false, not, ◌&&◌, ◌||◌, ◌⊎◌, List, [], ◌∷◌, ◌++◌, length, slice_index, Option, Some, None, unwrap_or, nat_eq, nat_le, nat_lt, bytes_eq, cond, ap, ap₂, sym, subst, ◌∙◌, refl, arith, ⊎_elim, w32}
use Rattle.std.specs.List.{list_any, slice_get}
use Rattle.std.specs.Int.{cast_signed, cast_unsigned}
use Rattle.std.specs.Ordering.{int_eq}
use Rattle.std.proofs.lemmas.Int.{to_z-of_z, of_z-to_z}
use Rattle.std.proofs.lemmas.Bool.{eq-eqb}
use Rattle.std.proofs.lemmas.Bool.Decides.{nat_tests, Decides-int_eq}
use Rattle.pcp_base.specs.Codes.{code_of_kind, kind_of_code}
use Rattle.pcp_base.specs.Names.{spells}
use Rattle.pcp_base.specs.declared.kind.Kind.TheVariants.{I32}
use Rattle.mmv_layout.specs.declared.rows.ValueRow.{ValueRow}
use Rattle.mmv_layout.specs.declared.rows.Content.TheVariants.{Number, Choice, Raw}
use Rattle.mmv_layout.specs.Fields.{number32, number64, byte_at, text_at, has_zero}
use Rattle.mmv_layout.specs.Sizes.{has_inline_names, name_room, indom_size, instance_size, string_size}
use Rattle.mmv_layout.specs.EntryFields.{name_start, name_text, same_name, serial_in_indom, count_in_indom, first_in_indom, short_offset_in_indom, long_offset_in_indom, domain_in_instance, number_offset_in_instance, number_in_instance, name_offset_in_instance, name_in_instance, name_in_metric, item_in_metric, type_in_metric, serial_in_metric, short_offset_in_metric, long_offset_in_metric, value_in_value, extra_in_value, instance_in_value}
use Rattle.mmv_layout.specs.Contents.{version_in, section_of}
use Rattle.mmv_layout.specs.Entries.{leads_to_string, indom_count, indom_at, instance_count, instance_at, metric_count, metric_at, value_count, value_at, string_count, string_at, help_leads, name_leads, name_ends, is_passed_over, is_instance_of, has_good_run, has_serial, is_good_indom, has_text, lies_in_run, is_same_instance, is_new_instance, is_instance_number, is_good_instance, has_name, is_kind, is_no_domain, is_indom_serial, serial_leads, is_same_metric, has_good_fields, is_good_metric, metric_of, instance_leads, choice_leads, is_good_value, is_good_string}
use Rattle.mmv_layout.specs.Images.{has_good_header, is_image, IsImage}
use Rattle.mmv_layout.proofs.Below.{all_at, both_left, both_right}
use Rattle.mmv_layout.proofs.Images.{cluster_fits}
use Rattle.mmv_layout.proofs.Texts.{text_clean, text_short}
use Rattle.mmv_layout.specs.Rows.{list_below, number_of, string_text, help_of, instance_row, instances_of, indom_row, serial_of, metric_row, type_of, domain_of, instance_of, content_of, value_row, indoms_of, metrics_of, values_of, strings_of, layout_of}
use Rattle.mmv_layout.specs.Says.{LeadsTo}
use Rattle.mmv_layout.proofs.Goods.{le_of, eq_of, or_right, some_at, leads_there, header, good_indom, good_instance, good_metric, good_value, good_string}
use Rattle.mmv_layout.proofs.RowLists.{rows_length}
use Rattle.mmv_layout.proofs.Saying.{kind_there}
use Rattle.mmv_layout.proofs.SlotsOnce.{metric_new, indom_new, value_once}
use Rattle.mmv_writer.specs.Rules.{is_long, is_same_number, has_domain, is_same_value, fits_instance, fits_kind, fits_metric, fits_some_metric, has_instance}
use Rattle.mmv_writer.specs.Rules as rules
use Rattle.mmv_writer.specs.Draft.{Each, Apart, IsStored, IsString, IsHelp, IsInstance, IsDomain, HasDomain, IsMetric, IsContent, IsValue, is_same_serial, IsDraft}
use Rattle.mmv_writer.specs.Laws.{LayoutsAreDrafts}
use Rattle.mmv_writer.proofs.Rows.{get_snoc}
use Rattle.mmv_writer.proofs.Wanted.{bytes_same, Has, HasHelp, HasContent, HasTexts}
use Rattle.mmv_writer.proofs.Lengths.{instances_in_order}

-- Lists of rows

-- the row at an index is that of its number
rows_at : {X : Type 0} (n : ℕ) (row : ℕ → X) (i : ℕ) (y : X) → slice_get (list_below n row) i ≡ Some y → (i < n) × (y ≡ row i)
unfolding list_below
rows_at zero row i y h = cc
rows_at (suc n) row i y h =
    ⊎_elim
    (λ (there : slice_get (list_below n row) i ≡ Some y). let (below, is) = rows_at n row i y there in (omega arith, is))
    (λ (last : (i ≡ length (list_below n row)) × (y ≡ row n)). let here : i ≡ n = last.0 ∙ rows_length n row in (omega arith, last.1 ∙ ap row (sym here)))
    (get_snoc (list_below n row) (row n) y i h)

each_below : {X : Type 0} (P : X → Type 0) (n : ℕ) (row : ℕ → X) → ((i : ℕ) → i < n → P (row i)) → Each P (list_below n row)
each_below P n row each i y h = let (below, is) = rows_at n row i y h in subst P (sym is) (each i below)

apart_below : {X : Type 0} (same : X → X → Bool) (n : ℕ) (row : ℕ → X) → ((i j : ℕ) → j < n → i < j → same (row i) (row j) ≡ false) → Apart same (list_below n row)
apart_below same n row apart i j a b less at_i at_j =
    let (below_i, is_i) = rows_at n row i a at_i in
    let (below_j, is_j) = rows_at n row j b at_j in
    ap₂ same is_i is_j ∙ apart i j below_j less

any_append : {X : Type 0} (p : X → Bool) (xs : List X) (y : X) → list_any p (xs ++ y ∷ []) ≡ (list_any p xs || p y)
any_append p [] y = or_false (p y)
  where
    or_false : (b : Bool) → (b || false) ≡ b
    or_false true = refl
    or_false false = refl
any_append p (x ∷ xs) y = ap (λ b. p x || b) (any_append p xs y) ∙ sym (grouped (p x) (list_any p xs) (p y))
  where
    grouped : (a b c : Bool) → ((a || b) || c) ≡ (a || (b || c))
    grouped true b c = refl
    grouped false b c = refl

below_suc : (k n : ℕ) → k < suc n → (k < n) ⊎ (k ≡ n)
below_suc k n h = grind arith

-- where one row passes, some one does
any_below : {X : Type 0} (p : X → Bool) (n k : ℕ) (row : ℕ → X) → k < n → p (row k) ≡ true → list_any p (list_below n row) ≡ true
unfolding list_below
any_below p zero k row below h = absurd (omega arith)
any_below p (suc n) k row below h =
    any_append p (list_below n row) (row n)
    ∙ ⊎_elim (λ (less : k < n). ap (λ b. b || p (row n)) (any_below p n k row less h)) (λ (last : k ≡ n). or_true (list_any p (list_below n row)) (p (row n)) (ap (λ i. p (row i)) (sym last) ∙ h)) (below_suc k n below)
  where
    or_true : (a b : Bool) → b ≡ true → (a || b) ≡ true
    or_true true b h = refl
    or_true false b h = h

-- Texts

byte_small : (words : List ℕ) (at : ℕ) → byte_at words at < 256
unfolding byte_at
byte_small words at = omega arith

text_bytes : (words : List ℕ) (at n j : ℕ) → slice_index (text_at words at n) j < 256
unfolding text_at
text_bytes words at zero zero = omega arith
text_bytes words at zero (suc j) = omega arith
text_bytes words at (suc n) j = here (nat_eq (byte_at words at) 0) (text_bytes words (at + 1) n) j
  where
    none : (j : ℕ) → slice_index [] j < 256
    none zero = omega arith
    none (suc j) = omega arith

    here : (t : Bool) → ((j : ℕ) → slice_index (text_at words (at + 1) n) j < 256) → (j : ℕ) → slice_index (cond t [] (byte_at words at ∷ text_at words (at + 1) n)) j < 256
    here true rest j = none j
    here false rest zero = byte_small words at
    here false rest (suc j) = rest j

stored : (words : List ℕ) (at n : ℕ) → IsStored (text_at words at n)
stored words at n = record { nonzero = text_clean words at n; bytes = λ j. text_bytes words at n j }

-- a name field that begins with a byte has some
text_some : (words : List ℕ) (at n : ℕ) → 0 < n → nat_eq (byte_at words at) 0 ≡ false → 1 ≤ length (text_at words at n)
unfolding text_at
text_some words at zero some h = absurd (omega arith)
text_some words at (suc n) some h = subst (λ t. 1 ≤ length (cond t [] (byte_at words at ∷ text_at words (at + 1) n))) (sym h) (omega arith)

le_is : (a b : ℕ) → a ≤ b → nat_le a b ≡ true
le_is a b h = grind (arith, nat_tests)

lt_is : (a b : ℕ) → a < b → nat_lt a b ≡ true
lt_is a b h = grind (arith, nat_tests)

room_some : (version : ℕ) → 0 < name_room version
unfolding name_room
room_some version = here (has_inline_names version)
  where
    here : (inline : Bool) → 0 < cond inline 64 256
    here true = omega arith
    here false = omega arith

not_long : (n : ℕ) → n < 256 → nat_lt 255 n ≡ false
not_long n h = grind (arith, nat_tests)

not_true : (b : Bool) → not b ≡ true → b ≡ false
not_true true h = cc
not_true false h = refl

small32 : (words : List ℕ) (at : ℕ) → number32 words at < 2 ^ 32
unfolding number32
small32 words at = omega arith

module _ (words : List ℕ) (h : is_image words ≡ true) where
  string_is : (offset : ℕ) → leads_to_string words offset ≡ true → IsString (string_text words offset)
  unfolding is_good_string
  string_is offset leads =
      let (k, below, stands) = leads_there (section_of words 5).offset (section_of words 5).count string_size offset leads in
      subst (λ p. IsString (string_text words p)) (sym stands) (record {
        stored = stored words (string_at words k) string_size;
        short = not_long (length (string_text words (string_at words k))) (text_short words (string_at words k) string_size (good_string words k h below));
      })

  help_is : (field : ℕ) → help_leads words field ≡ true → IsHelp (help_of words field)
  unfolding help_leads help_of
  help_is field leads = here (nat_eq (number64 words field) 0) refl
    where
      here : (t : Bool) → nat_eq (number64 words field) 0 ≡ t → IsHelp (cond t None (Some (string_text words (number64 words field))))
      here true e = tt
      here false e = string_is (number64 words field) (or_right _ _ leads e)

  string_ends : (offset : ℕ) → leads_to_string words offset ≡ true → has_zero words offset string_size ≡ true
  unfolding is_good_string
  string_ends offset leads =
      let (k, below, stands) = leads_there (section_of words 5).offset (section_of words 5).count string_size offset leads in
      subst (λ p. has_zero words p string_size ≡ true) (sym stands) (good_string words k h below)

  -- Names

  -- the strings of an image end, and so no name that leads is passed over
  looked_at : (field : ℕ) → name_leads words field ≡ true → is_passed_over words field ≡ false
  unfolding is_passed_over name_leads name_ends name_start name_room
  looked_at field leads = here (has_inline_names (version_in words)) leads
    where
      here : (b : Bool) → (b || leads_to_string words (number64 words field)) ≡ true
          → (not b && not ((b || leads_to_string words (number64 words field)) && has_zero words (cond b field (number64 words field)) (cond b 64 256))) ≡ false
      here true l = refl
      here false l = ap₂ (λ a b. not (a && b)) l (string_ends (number64 words field) l)

  name_stored : (field : ℕ) → IsStored (name_text words field)
  unfolding name_text
  name_stored field = stored words (name_start words field) (name_room (version_in words))

  name_short : (field : ℕ) → name_ends words field ≡ true → rules.is_short_name (version_in words) (name_text words field) ≡ true
  unfolding name_ends name_text
  name_short field ends = lt_is (length (name_text words field)) (name_room (version_in words)) (text_short words (name_start words field) (name_room (version_in words)) ends)

  name_some : (field : ℕ) → nat_eq (byte_at words (name_start words field)) 0 ≡ false → nat_le 1 (length (name_text words field)) ≡ true
  unfolding name_text
  name_some field some = le_is 1 (length (name_text words field)) (text_some words (name_start words field) (name_room (version_in words)) (room_some (version_in words)) some)

  -- Instances

  named : (m : ℕ) → m < instance_count words → rules.is_instance_name (version_in words) (name_in_instance words (instance_at words m)) ≡ true
  unfolding is_good_instance has_text
  named m below =
      let name = both_left _ _ (both_left _ _ (both_left _ _ (good_instance words m h below))) in
      let text : (name_ends words (name_offset_in_instance (instance_at words m)) && not (nat_eq (byte_at words (name_start words (name_offset_in_instance (instance_at words m)))) 0)) ≡ true =
      or_right _ _ (both_left _ _ name) (looked_at (name_offset_in_instance (instance_at words m)) (both_right _ _ name)) in
      ap₂ (λ a b. a && b) (name_some (name_offset_in_instance (instance_at words m)) (not_true _ (both_right _ _ text))) (name_short (name_offset_in_instance (instance_at words m)) (both_left _ _ text))

  number_small : (m : ℕ) → m < instance_count words → number_in_instance words (instance_at words m) < 2147483648
  unfolding is_good_instance
  number_small m below = small (number_in_instance words (instance_at words m)) (both_right _ _ (good_instance words m h below))
    where
      small : (n : ℕ) → is_instance_number n ≡ true → n < 2147483648
      small n e = grind (arith, nat_tests)

  instance_is : (m : ℕ) → m < instance_count words → IsInstance (version_in words) (instance_row words (instance_at words m))
  unfolding instance_row
  instance_is m below = record {
    number = (number_in_instance words (instance_at words m), to_z-of_z w32 (pos (number_in_instance words (instance_at words m))) (record { sfits = number_small m below }), number_small m below);
    name = named m below;
    stored = name_stored (name_offset_in_instance (instance_at words m));
  }

  -- an instance of a domain's run
  member : (i k : ℕ) → i < indom_count words → k < count_in_indom words (indom_at words i) → is_instance_of words (indom_at words i) (first_in_indom words (indom_at words i) + instance_size (version_in words) * k) ≡ true
  unfolding is_good_indom has_good_run
  member i k below within =
      all_at (count_in_indom words (indom_at words i)) k (λ k. is_instance_of words (indom_at words i) (first_in_indom words (indom_at words i) + instance_size (version_in words) * k))
      (both_right _ _ (both_left _ _ (both_left _ _ (good_indom words i h below)))) within

  member_at : (i k : ℕ) → i < indom_count words → k < count_in_indom words (indom_at words i) → LeadsTo (instance_count words) (instance_at words) (first_in_indom words (indom_at words i) + instance_size (version_in words) * k)
  unfolding is_instance_of
  member_at i k below within = leads_there (section_of words 2).offset (section_of words 2).count (instance_size (version_in words)) (first_in_indom words (indom_at words i) + instance_size (version_in words) * k) (both_left _ _ (member i k below within))

  owner : (i k : ℕ) → i < indom_count words → k < count_in_indom words (indom_at words i) → domain_in_instance words (first_in_indom words (indom_at words i) + instance_size (version_in words) * k) ≡ indom_at words i
  unfolding is_instance_of
  owner i k below within = eq_of (domain_in_instance words (first_in_indom words (indom_at words i) + instance_size (version_in words) * k)) (indom_at words i) (both_right _ _ (member i k below within))

  instances_are : (i : ℕ) → i < indom_count words → Each (IsInstance (version_in words)) (instances_of words (indom_at words i))
  unfolding instances_of
  instances_are i below =
      each_below (IsInstance (version_in words)) (count_in_indom words (indom_at words i)) (λ k. instance_row words (first_in_indom words (indom_at words i) + instance_size (version_in words) * k))
      (λ k within. let (m, m_below, stands) = member_at i k below within in subst (λ p. IsInstance (version_in words) (instance_row words p)) (sym stands) (instance_is m m_below))

  number_same : (x y : ℕ) → cast_signed w32 (number32 words x) ≡ cast_signed w32 (number32 words y) → number32 words x ≡ number32 words y
  number_same x y e = sym (of_z-to_z w32 (number32 words x) (small32 words x)) ∙ ap (cast_unsigned w32) e ∙ of_z-to_z w32 (number32 words y) (small32 words y)

  instance_new : (i j : ℕ) → j < instance_count words → i < j → is_same_instance words (instance_at words i) (instance_at words j) ≡ false
  unfolding is_good_instance is_new_instance
  instance_new i j below less =
      not_true _ (all_at j i (λ i. not (is_same_instance words (instance_at words i) (instance_at words j))) (both_right _ _ (both_left _ _ (good_instance words j h below))) less)

  -- two instances of one domain
  differ : (x y : ℕ) → domain_in_instance words x ≡ domain_in_instance words y → is_same_instance words x y ≡ false → rules.is_same_instance (instance_row words x) (instance_row words y) ≡ false
  unfolding is_same_instance same_name instance_row
  differ x y one apart = here (int_eq (number_of words x) (number_of words y)) refl
    where
      rest : (d n m : Bool) → d ≡ true → (d && (n || m)) ≡ false → (n ≡ false) × (m ≡ false)
      rest false n m e f = cc
      rest true true m e f = cc
      rest true false m e f = (refl, f)

      parts : (nat_eq (number_in_instance words x) (number_in_instance words y) ≡ false) × (bytes_eq (name_in_instance words x) (name_in_instance words y) ≡ false)
      parts = rest (nat_eq (domain_in_instance words x) (domain_in_instance words y)) _ _ (eq-eqb (domain_in_instance words x) (domain_in_instance words y) one) apart

      false_true : (b : Bool) → b ≡ false → b ≡ true → ⊥
      false_true b e f = cc

      here : (t : Bool) → int_eq (number_of words x) (number_of words y) ≡ t → (t || bytes_eq (name_in_instance words x) (name_in_instance words y)) ≡ false
      here true e =
          absurd (false_true (nat_eq (number_in_instance words x) (number_in_instance words y)) parts.0
          (eq-eqb (number_in_instance words x) (number_in_instance words y) (number_same (number_offset_in_instance x) (number_offset_in_instance y) ((Decides-int_eq (number_of words x) (number_of words y)).0 e))))
      here false e = parts.1

  instances_apart : (i : ℕ) → i < indom_count words → Apart rules.is_same_instance (instances_of words (indom_at words i))
  unfolding instances_of
  instances_apart i below =
      apart_below rules.is_same_instance (count_in_indom words (indom_at words i)) (λ k. instance_row words (first_in_indom words (indom_at words i) + instance_size (version_in words) * k))
      (λ k l within less.
      let (m, m_below, m_is) = member_at i k below (omega arith) in
      let (n, n_below, n_is) = member_at i l below within in
      differ (first_in_indom words (indom_at words i) + instance_size (version_in words) * k) (first_in_indom words (indom_at words i) + instance_size (version_in words) * l) (owner i k below (omega arith) ∙ sym (owner i l below within))
      (ap₂ (is_same_instance words) m_is n_is ∙ instance_new m n n_below (instances_in_order (version_in words) (section_of words 2).offset (first_in_indom words (indom_at words i)) k l m n less m_is n_is)))

  domain_is : (i : ℕ) → i < indom_count words → IsDomain (version_in words) (indom_row words (indom_at words i))
  unfolding indom_row is_good_indom
  domain_is i below =
      let good = good_indom words i h below in record {
        serial = both_right _ _ good;
        short = help_is (short_offset_in_indom (indom_at words i)) (both_left _ _ (both_left _ _ (both_left _ _ (both_left _ _ good))));
        long = help_is (long_offset_in_indom (indom_at words i)) (both_right _ _ (both_left _ _ (both_left _ _ (both_left _ _ good))));
        instances = instances_are i below;
        apart = instances_apart i below;
      }

  serials_apart : (i j : ℕ) → j < indom_count words → i < j → is_same_serial (indom_row words (indom_at words i)) (indom_row words (indom_at words j)) ≡ false
  unfolding indom_row has_serial
  serials_apart i j below less = indom_new words h i j below less

  -- Metrics

  has_indom : (serial : ℕ) → is_indom_serial words serial ≡ true → has_domain (indoms_of words) serial ≡ true
  unfolding is_indom_serial has_serial indoms_of indom_row
  has_indom serial known =
      let (k, below, is) = some_at (indom_count words) (λ i. nat_eq (serial_in_indom words (indom_at words i)) serial) known in
      any_below (λ row. nat_eq row.serial serial) (indom_count words) k (λ i. indom_row words (indom_at words i)) below is

  domain_there : (serial : ℕ) → serial_leads words serial ≡ true → HasDomain (indoms_of words) (serial_of serial)
  unfolding serial_leads serial_of
  domain_there serial leads = here (is_no_domain serial) refl
    where
      here : (t : Bool) → is_no_domain serial ≡ t → HasDomain (indoms_of words) (cond t None (Some serial))
      here true e = tt
      here false e = has_indom serial (or_right _ _ leads e)

  metric_named : (i : ℕ) → i < metric_count words → rules.is_metric_name (version_in words) (name_in_metric words (metric_at words i)) ≡ true
  unfolding is_good_metric has_name
  metric_named i below =
      let name = both_left _ _ (both_left _ _ (good_metric words i h below)) in
      let text : (name_ends words (metric_at words i) && spells true (name_text words (metric_at words i))) ≡ true = or_right _ _ (both_left _ _ name) (looked_at (metric_at words i) (both_right _ _ name)) in
      ap₂ (λ a b. a && b) (both_right _ _ text) (name_short (metric_at words i) (both_left _ _ text))

  fields : (i : ℕ) → i < metric_count words → has_good_fields words (metric_at words i) ≡ true
  unfolding is_good_metric
  fields i below = both_right _ _ (both_left _ _ (good_metric words i h below))

  metric_is : (i : ℕ) → i < metric_count words → IsMetric (version_in words) (indoms_of words) (metric_row words (metric_at words i))
  unfolding metric_row has_good_fields
  metric_is i below =
      let good = fields i below in record {
        name = metric_named i below;
        stored = name_stored (metric_at words i);
        item = le_of (item_in_metric words (metric_at words i)) 1023 (both_right _ _ good);
        units = small32 words _;
        domain = domain_there (serial_in_metric words (metric_at words i)) (both_right _ _ (both_left _ _ (both_left _ _ (both_left _ _ good))));
        short = help_is (short_offset_in_metric words (metric_at words i)) (both_right _ _ (both_left _ _ (both_left _ _ good)));
        long = help_is (long_offset_in_metric words (metric_at words i)) (both_right _ _ (both_left _ _ good));
      }

  items_apart : (i j : ℕ) → j < metric_count words → i < j → rules.is_same_metric (metric_row words (metric_at words i)) (metric_row words (metric_at words j)) ≡ false
  unfolding metric_row is_same_metric same_name
  items_apart i j below less = metric_new words h i j below less

  -- Values

  value_metric : (i : ℕ) → i < value_count words → LeadsTo (metric_count words) (metric_at words) (metric_of words (value_at words i))
  unfolding is_good_value
  value_metric i below =
      leads_there (section_of words 3).offset (section_of words 3).count _ (metric_of words (value_at words i)) (both_left _ _ (both_left _ _ (both_left _ _ (good_value words i h below))))

  value_leads : (i : ℕ) → i < value_count words → instance_leads words (value_at words i) ≡ true
  unfolding is_good_value
  value_leads i below = both_right _ _ (both_left _ _ (both_left _ _ (good_value words i h below)))

  value_chosen : (i : ℕ) → i < value_count words → choice_leads words (value_at words i) ≡ true
  unfolding is_good_value
  value_chosen i below = both_right _ _ (both_left _ _ (good_value words i h below))

  int_self : (n : ℤ) → int_eq n n ≡ true
  int_self n = (Decides-int_eq n n).1 refl

  taken : (t x y : Bool) → cond t x y ≡ true → t ≡ false → y ≡ true
  taken true x y p e = cc
  taken false x y p e = p

  -- the instance of a value whose metric has a domain is one of that domain's
  member_of : (i : ℕ) → i < value_count words → is_no_domain (domain_of words (value_at words i)) ≡ false
      → has_instance (indoms_of words) (domain_of words (value_at words i)) (number_of words (instance_in_value words (value_at words i))) ≡ true
  unfolding instance_leads is_good_instance lies_in_run indoms_of indom_row instances_of instance_row
  member_of i below some =
      let p : ℕ = instance_in_value words (value_at words i) in
      let s : ℕ = domain_of words (value_at words i) in
      let tests = taken (is_no_domain (domain_of words (value_at words i))) _ _ (value_leads i below) some in
      let (m, m_below, p_is) = leads_there (section_of words 2).offset (section_of words 2).count (instance_size (version_in words)) p (both_left _ _ tests) in
      let (d, d_below, d_is) = leads_there (section_of words 1).offset (section_of words 1).count indom_size (domain_in_instance words p) (both_left _ _ (both_right _ _ tests)) in
      let serial : serial_in_indom words (domain_in_instance words p) ≡ s = eq_of (serial_in_indom words (domain_in_instance words p)) s (both_right _ _ (both_right _ _ tests)) in
      let lies = both_right _ _ (both_right _ _ (both_left _ _ (both_left _ _ (good_instance words m h m_below)))) in
      let (k, within, stands) =
      leads_there (first_in_indom words (domain_in_instance words (instance_at words m))) (count_in_indom words (domain_in_instance words (instance_at words m))) (instance_size (version_in words)) (instance_at words m) lies in
      let one : domain_in_instance words (instance_at words m) ≡ indom_at words d = ap (domain_in_instance words) (sym p_is) ∙ d_is in
      let there : first_in_indom words (indom_at words d) + instance_size (version_in words) * k ≡ p = sym (subst (λ q. instance_at words m ≡ first_in_indom words q + instance_size (version_in words) * k) one stands) ∙ sym p_is in
      any_below (λ row. nat_eq row.serial s && list_any (λ other. int_eq other.0 (number_of words p)) row.instances) (indom_count words) d (λ i. indom_row words (indom_at words i)) d_below
      (ap₂ (λ a b. a && b) (eq-eqb (serial_in_indom words (indom_at words d)) s (ap (serial_in_indom words) (sym d_is) ∙ serial))
      (any_below (λ other. int_eq other.0 (number_of words p)) (count_in_indom words (indom_at words d)) k (λ k. instance_row words (first_in_indom words (indom_at words d) + instance_size (version_in words) * k))
      (subst (λ q. k < count_in_indom words q) one within) (ap (λ q. int_eq (number_of words q) (number_of words p)) there ∙ int_self (number_of words p))))

  instance_fits : (i : ℕ) → i < value_count words → fits_instance (indoms_of words) (serial_of (domain_of words (value_at words i))) (instance_of words (value_at words i)) ≡ true
  unfolding serial_of instance_of
  instance_fits i below = here (is_no_domain (domain_of words (value_at words i))) refl
    where
      here : (t : Bool) → is_no_domain (domain_of words (value_at words i)) ≡ t
          → fits_instance (indoms_of words) (cond t None (Some (domain_of words (value_at words i)))) (cond t None (Some (number_of words (instance_in_value words (value_at words i))))) ≡ true
      here true e = refl
      here false e = member_of i below e

  kind_known : (i : ℕ) → i < value_count words → is_kind (type_of words (value_at words i)) ≡ true
  unfolding has_good_fields
  kind_known i below =
      let (k, k_below, stands) = value_metric i below in
      subst (λ q. is_kind (type_in_metric words q) ≡ true) (sym stands) (both_left _ _ (both_left _ _ (both_left _ _ (both_left _ _ (both_left _ _ (fields k k_below))))))

  kind_fits : (i : ℕ) → i < value_count words → fits_kind (unwrap_or (kind_of_code (type_of words (value_at words i))) I32) (content_of words (value_at words i)) ≡ true
  unfolding content_of
  kind_fits i below = here (nat_le (type_of words (value_at words i)) 3) refl (nat_eq (type_of words (value_at words i)) 6) refl
    where
      code : code_of_kind (unwrap_or (kind_of_code (type_of words (value_at words i))) I32) ≡ type_of words (value_at words i)
      code = kind_there (type_of words (value_at words i)) (kind_known i below)

      here : (a : Bool) → nat_le (type_of words (value_at words i)) 3 ≡ a → (b : Bool) → nat_eq (type_of words (value_at words i)) 6 ≡ b
          → fits_kind (unwrap_or (kind_of_code (type_of words (value_at words i))) I32) (cond a (Number (value_in_value words (value_at words i))) (cond b (Choice (string_text words (extra_in_value words (value_at words i)))) (Raw (value_in_value words (value_at words i)) (extra_in_value words (value_at words i))))) ≡ true
      here true e b f = ap (λ n. nat_le n 3) code ∙ e
      here false e true f = ap (λ n. nat_eq n 6) code ∙ f
      here false e false f = ap (λ n. not (nat_le n 3 || nat_eq n 6)) code ∙ ap₂ (λ a b. not (a || b)) e f

  content_is : (i : ℕ) → i < value_count words → IsContent (content_of words (value_at words i))
  unfolding content_of choice_leads
  content_is i below = here (nat_le (type_of words (value_at words i)) 3) (nat_eq (type_of words (value_at words i)) 6) refl
    where
      or_of : (a b : Bool) → a ≡ true → (not a || b) ≡ true → b ≡ true
      or_of true b e f = f
      or_of false b e f = cc

      here : (a b : Bool) → nat_eq (type_of words (value_at words i)) 6 ≡ b
          → IsContent (cond a (Number (value_in_value words (value_at words i))) (cond b (Choice (string_text words (extra_in_value words (value_at words i)))) (Raw (value_in_value words (value_at words i)) (extra_in_value words (value_at words i)))))
      here true b f = tt
      here false true f = string_is (extra_in_value words (value_at words i)) (or_of _ _ f (value_chosen i below))
      here false false f = tt

  value_is : (i : ℕ) → i < value_count words → IsValue (indoms_of words) (metrics_of words) (value_row words (value_at words i))
  unfolding metrics_of metric_row value_row
  value_is i below =
      let (k, k_below, stands) = value_metric i below in
      let row : ValueRow = value_row words (value_at words i) in record {
        metric = any_below (λ metric. fits_metric (indoms_of words) row metric) (metric_count words) k (λ i. metric_row words (metric_at words i)) k_below
            (subst (λ q. fits_metric (indoms_of words) row (metric_row words q) ≡ true) stands
            (ap₂ (λ a b. a && b) (eq-eqb (item_in_metric words (metric_of words (value_at words i))) (item_in_metric words (metric_of words (value_at words i))) refl)
            (ap₂ (λ a b. a && b) (instance_fits i below) (kind_fits i below))));
        content = content_is i below;
      }

  same_unwrapped : (a b : Option ℤ) → is_same_number a b ≡ true → unwrap_or a (negsuc 0) ≡ unwrap_or b (negsuc 0)
  same_unwrapped None None e = refl
  same_unwrapped None (Some b) e = cc
  same_unwrapped (Some a) None e = cc
  same_unwrapped (Some a) (Some b) e = (Decides-int_eq a b).0 e

  places_apart : (i j : ℕ) → j < value_count words → i < j → is_same_value (value_row words (value_at words i)) (value_row words (value_at words j)) ≡ false
  unfolding value_row
  places_apart i j below less =
      here (is_same_value (value_row words (value_at words i)) (value_row words (value_at words j))) refl
    where
      apart : i ≡ j → ⊥
      apart e = absurd (omega arith)

      here : (t : Bool) → is_same_value (value_row words (value_at words i)) (value_row words (value_at words j)) ≡ t → t ≡ false
      here true e =
          absurd (apart (value_once words h i j (omega arith) below
          (eq_of (value_row words (value_at words i)).item (value_row words (value_at words j)).item (both_left _ _ e))
          (same_unwrapped (value_row words (value_at words i)).instance (value_row words (value_at words j)).instance (both_right _ _ e))))
      here false e = refl

  string_at_is : (k : ℕ) → k < string_count words → IsString (string_text words (string_at words k))
  unfolding is_good_string
  string_at_is k below = record {
    stored = stored words (string_at words k) string_size;
    short = not_long (length (string_text words (string_at words k))) (text_short words (string_at words k) string_size (good_string words k h below));
  }

  -- What references lead to is among the strings

  string_among : (offset : ℕ) → leads_to_string words offset ≡ true → Has (strings_of words) (string_text words offset)
  unfolding strings_of
  string_among offset leads =
      let (k, below, stands) = leads_there (section_of words 5).offset (section_of words 5).count string_size offset leads in
      any_below (λ other. bytes_eq other (string_text words offset)) (string_count words) k (λ i. string_text words (string_at words i)) below
      (ap (λ p. bytes_eq (string_text words p) (string_text words offset)) (sym stands) ∙ bytes_same (string_text words offset))

  help_among : (field : ℕ) → help_leads words field ≡ true → HasHelp (strings_of words) (help_of words field)
  unfolding help_leads help_of
  help_among field leads = here (nat_eq (number64 words field) 0) refl
    where
      here : (t : Bool) → nat_eq (number64 words field) 0 ≡ t → HasHelp (strings_of words) (cond t None (Some (string_text words (number64 words field))))
      here true e = tt
      here false e = string_among (number64 words field) (or_right _ _ leads e)

  domain_among : (i : ℕ) → i < indom_count words → HasHelp (strings_of words) (indom_row words (indom_at words i)).short × HasHelp (strings_of words) (indom_row words (indom_at words i)).long
  unfolding indom_row is_good_indom
  domain_among i below =
      let good = good_indom words i h below in (
        help_among (short_offset_in_indom (indom_at words i)) (both_left _ _ (both_left _ _ (both_left _ _ (both_left _ _ good)))),
        help_among (long_offset_in_indom (indom_at words i)) (both_right _ _ (both_left _ _ (both_left _ _ (both_left _ _ good)))),
      )

  metric_among : (i : ℕ) → i < metric_count words → HasHelp (strings_of words) (metric_row words (metric_at words i)).short × HasHelp (strings_of words) (metric_row words (metric_at words i)).long
  unfolding metric_row has_good_fields
  metric_among i below =
      let good = fields i below in (
        help_among (short_offset_in_metric words (metric_at words i)) (both_right _ _ (both_left _ _ (both_left _ _ good))),
        help_among (long_offset_in_metric words (metric_at words i)) (both_right _ _ (both_left _ _ good)),
      )

  content_among : (i : ℕ) → i < value_count words → HasContent (strings_of words) (content_of words (value_at words i))
  unfolding content_of choice_leads
  content_among i below = here (nat_le (type_of words (value_at words i)) 3) (nat_eq (type_of words (value_at words i)) 6) refl
    where
      or_of : (a b : Bool) → a ≡ true → (not a || b) ≡ true → b ≡ true
      or_of true b e f = f
      or_of false b e f = cc

      here : (a b : Bool) → nat_eq (type_of words (value_at words i)) 6 ≡ b
          → HasContent (strings_of words) (cond a (Number (value_in_value words (value_at words i))) (cond b (Choice (string_text words (extra_in_value words (value_at words i)))) (Raw (value_in_value words (value_at words i)) (extra_in_value words (value_at words i)))))
      here true b f = tt
      here false true f = string_among (extra_in_value words (value_at words i)) (or_of _ _ f (value_chosen i below))
      here false false f = tt

  texts_are_among : HasTexts (layout_of words)
  unfolding layout_of indoms_of metrics_of values_of value_row
  texts_are_among = record {
    domains = each_below (λ row. HasHelp (strings_of words) row.short × HasHelp (strings_of words) row.long) (indom_count words) (λ i. indom_row words (indom_at words i)) domain_among;
    metrics = each_below (λ row. HasHelp (strings_of words) row.short × HasHelp (strings_of words) row.long) (metric_count words) (λ i. metric_row words (metric_at words i)) metric_among;
    values = each_below (λ row. HasContent (strings_of words) row.content) (value_count words) (λ i. value_row words (value_at words i)) content_among;
  }

  -- The whole

  draft_is : IsDraft (layout_of words)
  unfolding layout_of indoms_of metrics_of values_of strings_of has_good_header
  draft_is = record {
    version = both_right _ _ (both_left _ _ (both_left _ _ (header words h)));
    flags = small32 words _;
    process = small32 words _;
    cluster = cluster_fits words h;
    domains = each_below (IsDomain (version_in words)) (indom_count words) (λ i. indom_row words (indom_at words i)) domain_is;
    serials = apart_below is_same_serial (indom_count words) (λ i. indom_row words (indom_at words i)) serials_apart;
    metrics = each_below (IsMetric (version_in words) (indoms_of words)) (metric_count words) (λ i. metric_row words (metric_at words i)) metric_is;
    items = apart_below rules.is_same_metric (metric_count words) (λ i. metric_row words (metric_at words i)) items_apart;
    values = each_below (IsValue (indoms_of words) (metrics_of words)) (value_count words) (λ i. value_row words (value_at words i)) value_is;
    places = apart_below is_same_value (value_count words) (λ i. value_row words (value_at words i)) places_apart;
    strings = each_below IsString (string_count words) (λ i. string_text words (string_at words i)) string_at_is;
  }

pub layouts_are_drafts : LayoutsAreDrafts
layouts_are_drafts words h = draft_is words h

pub layouts_have_texts : (words : List ℕ) → IsImage words → HasTexts (layout_of words)
layouts_have_texts words h = texts_are_among words h
