-- Words that agree with an image wherever its tests look are an image, of the same form.
use Rattle.std.proofs.Common.{cond, ◌≡◌, ℕ, zero, suc, ℤ, ◌+◌, ◌*◌, ◌%◌, ◌<◌, ◌≤◌, Bool, true, false, not, ◌&&◌, ◌||◌, inl, inr, List, length, Option, Some, ap, ap₂, sym, subst, ◌∙◌, refl, arith, add-zero, nat_eq, nat_le, nat_lt, w32, ⊎_elim}
use Rattle.std.specs.Int.{cast_signed}
use Rattle.std.specs.List.{filter_map}
use Rattle.std.proofs.lemmas.Bool.Decides.{nat_tests}
use Rattle.std.proofs.lemmas.Bool.{eq-eqb}
use Rattle.mmv_layout.specs.Below.{all_below}
use Rattle.mmv_layout.specs.Fields.{number64}
use Rattle.mmv_layout.specs.Sizes.{is_version, value_size, string_size}
use Rattle.mmv_layout.specs.EntryFields.{units_offset_in_metric, count_offset_in_indom, count_in_indom, short_offset_in_indom, long_offset_in_indom, number_offset_in_instance, name_offset_in_instance, item_offset_in_metric, type_offset_in_metric, semantics_offset_in_metric, serial_offset_in_metric, short_offset_in_metric, long_offset_in_metric, extra_in_value, instance_in_value}
use Rattle.mmv_layout.specs.Contents.{bytes_in, is_short, contents_in, has_good_section, is_aligned, sections_are_good, sections_are_aligned, section_of, cluster_offset}
use Rattle.mmv_layout.specs.Entries.{leads_to_string, indom_count, indom_at, instance_count, instance_at, metric_count, metric_at, value_count, value_at, string_count, string_at, run_at, help_leads, is_good_indom, is_good_instance, is_no_domain, has_good_fields, is_good_metric, is_good_value, is_good_string, indoms_are_good, instances_are_good, metrics_are_good, values_are_good, strings_are_good}
use Rattle.mmv_layout.specs.Images.{has_good_header, is_image}
use Rattle.mmv_layout.proofs.Below.{all_at, both_left, both_right}
use Rattle.mmv_layout.proofs.Images.{short_words}
use Rattle.mmv_layout.specs.declared.rows.IndomRow.{IndomRow}
use Rattle.mmv_layout.specs.declared.rows.MetricRow.{MetricRow}
use Rattle.mmv_layout.specs.declared.rows.Slot.{Slot}
use Rattle.mmv_layout.specs.declared.rows.Content.TheVariants.{Number, Choice, Raw}
use Rattle.mmv_layout.specs.Rows.{list_below, string_text, help_of, instance_row, instances_of, indom_row, metric_row, item_of, type_of, domain_of, instance_of, content_of, value_row, indoms_of, metrics_of, values_of, strings_of, layout_of}
use Rattle.mmv_layout.specs.Form.{slot_at, slots_of, offsets_of, subjects_of, Form, form_of}
use Rattle.mmv_layout.specs.Says.{LeadsTo}
use Rattle.mmv_layout.proofs.Goods.{eq_of, either, or_right, leads_there, header, sections, aligned, good_indom, good_instance, good_metric, good_value, good_string}
use Rattle.mmv_layout.proofs.Looked.{Looked, five_words, looked_indom, looked_string}
use Rattle.mmv_layout.proofs.Runs.{run_leads}
use Rattle.mmv_layout.proofs.RowLists.{rows_same}
use Rattle.mmv_layout.proofs.SlotLists.{gives_same}
use Rattle.mmv_layout.proofs.Saying.{indom_rows_same, metric_rows_same, value_rows_same, layouts_same, metric_fields}
use Rattle.mmv_layout.proofs.Alike.{Agrees, head32, version_same, contents_same, count_same, offset_same, section_same, section_still, same32, text_same, indom_offset, looked_run, named_instance, named_metric, looked_field_of, run_at_same, name_same, indom_same, instance_same, metric_offset, metric_same, type_of_same, item_of_same, serial_of_same, field_same, instance_there, value_still, string_offset, string_same}

all_hold : (n m : ℕ) (test : ℕ → Bool) → m ≡ n → ((k : ℕ) → k < n → test k ≡ true) → all_below m test ≡ true
unfolding all_below
all_hold n m test e holds = ap (λ c. all_below c test) e ∙ go n test holds
  where
    go : (n : ℕ) (test : ℕ → Bool) → ((k : ℕ) → k < n → test k ≡ true) → all_below n test ≡ true
    go zero test holds = refl
    go (suc n) test holds = rw (go n test (λ k below. holds k (omega arith)), holds n (omega arith)) refl

long_words : (short : Bool) (n : ℕ) → short ≡ nat_lt n 5 → 5 ≤ n → not short ≡ true
long_words short n e h = grind (arith, nat_tests)

few_enough : (n : ℕ) → n ≤ 65536 → not (not (nat_le n 65536)) ≡ true
few_enough n h = grind (arith, nat_tests)

header_of : (p q r s t u : Bool) → p ≡ true → q ≡ true → r ≡ true → s ≡ true → t ≡ true → u ≡ true → (p && q && r && s && t && u) ≡ true
header_of p q r s t u a b c d e f = rw (a, b, c, d, e, f) refl

image_of : (p q r s t u v w : Bool) → p ≡ true → q ≡ true → r ≡ true → s ≡ true → t ≡ true → u ≡ true → v ≡ true → w ≡ true → (p && q && r && s && t && u && v && w) ≡ true
image_of p q r s t u v w a b c d e f g h = rw (a, b, c, d, e, f, g, h) refl

form_with : ℕ → ℕ → ℕ → ℕ → List IndomRow → List MetricRow → List (ℕ × Option ℤ) → List (List ℕ) → List Slot → List ℕ → Form
form_with a b c d e f g h i j = record { version = a; flags = b; pid = c; cluster = d; indoms = e; metrics = f; subjects = g; strings = h; slots = i; offsets = j }

forms_same : (x y : Form) → x.version ≡ y.version → x.flags ≡ y.flags → x.pid ≡ y.pid → x.cluster ≡ y.cluster → x.indoms ≡ y.indoms → x.metrics ≡ y.metrics
    → x.subjects ≡ y.subjects → x.strings ≡ y.strings → x.slots ≡ y.slots → x.offsets ≡ y.offsets → x ≡ y
unfolding form_with
forms_same x y a b c d e f g h i j =
    let same : form_with x.version x.flags x.pid x.cluster x.indoms x.metrics x.subjects x.strings x.slots x.offsets
    ≡ form_with y.version y.flags y.pid y.cluster y.indoms y.metrics y.subjects y.strings y.slots y.offsets = cc in same

module _ (a b : List ℕ) (h : is_image a ≡ true) (g : Agrees a b) where
  header_still : has_good_header b ≡ true
  unfolding has_good_header
  header_still =
      let good : has_good_header a ≡ true = header a h in
      let five : 5 ≤ length a = five_words a h in
      let longer : length a ≤ length b = g.longer in
      header_of _ _ _ _ _ _
      (long_words (is_short (bytes_in b)) (length b) (short_words b) (omega arith))
      (few_enough (length b) g.few)
      (ap (λ n. nat_eq n 5655885) (head32 a b h g 0 (omega arith) (inl (omega arith))) ∙ both_right _ _ (both_left _ _ (both_left _ _ (both_left _ _ good))))
      (ap is_version (version_same a b h g) ∙ both_right _ _ (both_left _ _ (both_left _ _ good)))
      (eq-eqb (number64 b 8) (number64 b 16) g.again)
      (ap (λ n. nat_le n 4095) (head32 a b h g cluster_offset (omega arith) (inr (omega arith))) ∙ both_right _ _ good)

  sections_still : sections_are_good b ≡ true
  unfolding sections_are_good
  sections_still =
      all_hold (contents_in a) (contents_in b) (has_good_section b) (contents_same a b h g)
      (λ i below. section_still a b h g i below (all_at (contents_in a) i (has_good_section a) (sections a h) below))

  aligned_same : (i : ℕ) → i < contents_in a → is_aligned b i ≡ is_aligned a i
  unfolding is_aligned
  aligned_same i below = ap₂ (λ c p. nat_eq c 0 || nat_eq (p % 8) 0) (count_same a b h g i below) (offset_same a b h g i below)

  aligned_still : sections_are_aligned b ≡ true
  unfolding sections_are_aligned
  aligned_still =
      all_hold (contents_in a) (contents_in b) (is_aligned b) (contents_same a b h g)
      (λ i below. aligned_same i below ∙ all_at (contents_in a) i (is_aligned a) (aligned a h) below)

  count_of : (type : ℕ) → (section_of b type).count ≡ (section_of a type).count
  count_of type = ap (λ s. s.count) (section_same a b h g type)

  pub image_still : is_image b ≡ true
  unfolding is_image indoms_are_good instances_are_good metrics_are_good values_are_good strings_are_good
  image_still =
      image_of _ _ _ _ _ _ _ _ header_still sections_still aligned_still
      (all_hold (indom_count a) (indom_count b) (is_good_indom b) (count_of 1) (λ i below. indom_same a b h g i below ∙ good_indom a i h below))
      (all_hold (instance_count a) (instance_count b) (is_good_instance b) (count_of 2) (λ i below. instance_same a b h g i below ∙ good_instance a i h below))
      (all_hold (metric_count a) (metric_count b) (is_good_metric b) (count_of 3) (λ i below. metric_same a b h g i below ∙ good_metric a i h below))
      (all_hold (value_count a) (value_count b) (is_good_value b) (count_of 4) (λ i below. value_still a b h g i below (good_value a i h below)))
      (all_hold (string_count a) (string_count b) (is_good_string b) (count_of 5) (λ i below. string_same a b h g i below ∙ good_string a i h below))

  -- the rows

  string_text_same : (offset : ℕ) → LeadsTo (string_count a) (string_at a) offset → string_text b offset ≡ string_text a offset
  string_text_same offset (k, below, stands) =
      text_same a b h g string_size offset (λ o small. subst (λ p. Looked a (p + o)) (sym stands) (looked_string a k o h below small))

  help_of_same : (field : ℕ) → Looked a field → help_leads a field ≡ true → help_of b field ≡ help_of a field
  unfolding help_of help_leads
  help_of_same field looked leads =
      rw (g.same field looked)
      (⊎_elim
      (λ (null : nat_eq (number64 a field) 0 ≡ true). rw null refl)
      (λ (some : nat_eq (number64 a field) 0 ≡ false).
      rw some (ap Some (string_text_same (number64 a field) (leads_there (section_of a 5).offset (section_of a 5).count string_size (number64 a field) (or_right _ _ leads some)))))
      (either (nat_eq (number64 a field) 0)))

  instance_row_same : (offset : ℕ) → LeadsTo (instance_count a) (instance_at a) offset → instance_row b offset ≡ instance_row a offset
  unfolding instance_row
  instance_row_same offset leads =
      ap₂ (λ n t. (cast_signed w32 n, t)) (same32 a b h g (number_offset_in_instance offset) (looked_run a b h g offset (number_offset_in_instance 0) leads (omega arith)))
      (name_same a b h g (name_offset_in_instance offset) (named_instance a b h g offset leads))

  instances_of_same : (i : ℕ) → i < indom_count a → instances_of b (indom_at a i) ≡ instances_of a (indom_at a i)
  unfolding instances_of
  instances_of_same i below =
      ap (λ n. list_below n (λ k. instance_row b (run_at b (indom_at a i) k))) (same32 a b h g (count_offset_in_indom (indom_at a i)) (looked_indom a i (count_offset_in_indom 0) h below (omega arith)))
      ∙ rows_same (count_in_indom a (indom_at a i)) (λ k. instance_row b (run_at b (indom_at a i) k)) (λ k. instance_row a (run_at a (indom_at a i) k))
      (λ k within. ap (instance_row b) (run_at_same a b h g i k below)
      ∙ instance_row_same (run_at a (indom_at a i) k) (run_leads a i k h below within))

  short_leads : (i : ℕ) → is_good_indom a i ≡ true → help_leads a (short_offset_in_indom (indom_at a i)) ≡ true
  unfolding is_good_indom
  short_leads i good = both_left _ _ (both_left _ _ (both_left _ _ (both_left _ _ good)))

  long_leads : (i : ℕ) → is_good_indom a i ≡ true → help_leads a (long_offset_in_indom (indom_at a i)) ≡ true
  unfolding is_good_indom
  long_leads i good = both_right _ _ (both_left _ _ (both_left _ _ (both_left _ _ good)))

  indom_row_same : (i : ℕ) → i < indom_count a → indom_row b (indom_at a i) ≡ indom_row a (indom_at a i)
  unfolding indom_row
  indom_row_same i below =
      indom_rows_same (indom_row b (indom_at a i)) (indom_row a (indom_at a i))
      (same32 a b h g (indom_at a i) (subst (Looked a) (add-zero (indom_at a i)) (looked_indom a i 0 h below (omega arith))))
      (instances_of_same i below)
      (help_of_same (short_offset_in_indom (indom_at a i)) (looked_indom a i (short_offset_in_indom 0) h below (omega arith)) (short_leads i (good_indom a i h below)))
      (help_of_same (long_offset_in_indom (indom_at a i)) (looked_indom a i (long_offset_in_indom 0) h below (omega arith)) (long_leads i (good_indom a i h below)))

  indoms_same : indoms_of b ≡ indoms_of a
  unfolding indoms_of
  indoms_same =
      ap (λ n. list_below n (λ i. indom_row b (indom_at b i))) (count_of 1)
      ∙ rows_same (indom_count a) (λ i. indom_row b (indom_at b i)) (λ i. indom_row a (indom_at a i)) (λ i below. ap (indom_row b) (indom_offset a b h g i) ∙ indom_row_same i below)

  metric_short : (metric : ℕ) → has_good_fields a metric ≡ true → help_leads a (short_offset_in_metric a metric) ≡ true
  unfolding has_good_fields
  metric_short metric good = both_right _ _ (both_left _ _ (both_left _ _ good))

  metric_long : (metric : ℕ) → has_good_fields a metric ≡ true → help_leads a (long_offset_in_metric a metric) ≡ true
  unfolding has_good_fields
  metric_long metric good = both_right _ _ (both_left _ _ good)

  metric_row_same : (i : ℕ) → i < metric_count a → metric_row b (metric_at a i) ≡ metric_row a (metric_at a i)
  unfolding metric_row
  metric_row_same i below =
      let good : has_good_fields a (metric_at a i) ≡ true = metric_fields a i (good_metric a i h below) in
      metric_rows_same (metric_row b (metric_at a i)) (metric_row a (metric_at a i))
      (name_same a b h g (metric_at a i) (named_metric a b h g i below))
      (rw (version_same a b h g) (same32 a b h g (item_offset_in_metric a (metric_at a i)) (looked_field_of a b h g i (item_offset_in_metric a (metric_at a i)) below (omega arith) (omega arith))))
      (rw (version_same a b h g, same32 a b h g (type_offset_in_metric a (metric_at a i)) (looked_field_of a b h g i (type_offset_in_metric a (metric_at a i)) below (omega arith) (omega arith))) refl)
      (rw (version_same a b h g, same32 a b h g (semantics_offset_in_metric a (metric_at a i)) (looked_field_of a b h g i (semantics_offset_in_metric a (metric_at a i)) below (omega arith) (omega arith))) refl)
      (rw (version_same a b h g) (same32 a b h g (units_offset_in_metric a (metric_at a i)) (looked_field_of a b h g i (units_offset_in_metric a (metric_at a i)) below (omega arith) (omega arith))))
      (rw (version_same a b h g, same32 a b h g (serial_offset_in_metric a (metric_at a i)) (looked_field_of a b h g i (serial_offset_in_metric a (metric_at a i)) below (omega arith) (omega arith))) refl)
      (rw (version_same a b h g) (help_of_same (short_offset_in_metric a (metric_at a i)) (looked_field_of a b h g i (short_offset_in_metric a (metric_at a i)) below (omega arith) (omega arith)) (metric_short (metric_at a i) good)))
      (rw (version_same a b h g) (help_of_same (long_offset_in_metric a (metric_at a i)) (looked_field_of a b h g i (long_offset_in_metric a (metric_at a i)) below (omega arith) (omega arith)) (metric_long (metric_at a i) good)))

  metrics_same : metrics_of b ≡ metrics_of a
  unfolding metrics_of
  metrics_same =
      ap (λ n. list_below n (λ i. metric_row b (metric_at b i))) (count_of 3)
      ∙ rows_same (metric_count a) (λ i. metric_row b (metric_at b i)) (λ i. metric_row a (metric_at a i)) (λ i below. ap (metric_row b) (metric_offset a b h g i) ∙ metric_row_same i below)

  strings_same : strings_of b ≡ strings_of a
  unfolding strings_of
  strings_same =
      ap (λ n. list_below n (λ i. string_text b (string_at b i))) (count_of 5)
      ∙ rows_same (string_count a) (λ i. string_text b (string_at b i)) (λ i. string_text a (string_at a i))
      (λ i below. ap (string_text b) (string_offset a b h g i) ∙ string_text_same (string_at a i) (i, below, refl))

  offsets_same : offsets_of b ≡ offsets_of a
  unfolding offsets_of
  offsets_same = ap (λ s. list_below s.count (λ i. s.offset + string_size * i)) (section_same a b h g 5)

  -- the values

  instance_of_same : (i : ℕ) → i < value_count a → instance_of b (value_at a i) ≡ instance_of a (value_at a i)
  unfolding instance_of
  instance_of_same i below =
      rw (serial_of_same a b h g i below, field_same a b h g i below)
      (⊎_elim
      (λ (none : is_no_domain (domain_of a (value_at a i)) ≡ true). rw none refl)
      (λ (some : is_no_domain (domain_of a (value_at a i)) ≡ false).
      rw some (ap (λ n. Some (cast_signed w32 n)) (same32 a b h g (number_offset_in_instance (instance_in_value a (value_at a i)))
      (looked_run a b h g (instance_in_value a (value_at a i)) (number_offset_in_instance 0) (instance_there a b h g i below some) (omega arith)))))
      (either (is_no_domain (domain_of a (value_at a i)))))

  slot_at_same : (i : ℕ) → i < value_count a → slot_at b (value_at a i) ≡ slot_at a (value_at a i)
  unfolding slot_at
  slot_at_same i below =
      rw (type_of_same a b h g i below, item_of_same a b h g i below, instance_of_same i below) refl

  slots_same : slots_of b ≡ slots_of a
  unfolding slots_of
  slots_same =
      ap (λ s. filter_map (slot_at b) (list_below s.count (λ i. s.offset + value_size * i))) (section_same a b h g 4)
      ∙ gives_same (slot_at b) (slot_at a) (value_count a) (value_at a) slot_at_same

  subjects_same : subjects_of b ≡ subjects_of a
  unfolding subjects_of
  subjects_same =
      ap (λ s. list_below s.count (λ i. (item_of b (s.offset + value_size * i), instance_of b (s.offset + value_size * i)))) (section_same a b h g 4)
      ∙ rows_same (value_count a) (λ i. (item_of b (value_at a i), instance_of b (value_at a i))) (λ i. (item_of a (value_at a i), instance_of a (value_at a i)))
      (λ i below. ap₂ (λ n o. (n, o)) (item_of_same a b h g i below) (instance_of_same i below))

  pub form_same : form_of b ≡ form_of a
  unfolding form_of
  form_same =
      forms_same (form_of b) (form_of a)
      (head32 a b h g 4 (omega arith) (inl (omega arith))) (head32 a b h g 28 (omega arith) (inr (omega arith)))
      (head32 a b h g 32 (omega arith) (inr (omega arith))) (head32 a b h g cluster_offset (omega arith) (inr (omega arith)))
      indoms_same metrics_same subjects_same strings_same slots_same offsets_same

  -- what they say, where they agree in the contents and the generation too

  module _ (numbers : (i : ℕ) → i < value_count a → number64 b (value_at a i) ≡ number64 a (value_at a i))
      (extras : (i : ℕ) → i < value_count a → extra_in_value b (value_at a i) ≡ extra_in_value a (value_at a i))
      (generation : number64 b 8 ≡ number64 a 8) where
    content_same : (i : ℕ) → i < value_count a → content_of b (value_at a i) ≡ content_of a (value_at a i)
    unfolding content_of
    content_same i below =
        rw (type_of_same a b h g i below, numbers i below, extras i below)
        (⊎_elim
        (λ (choice : nat_eq (type_of a (value_at a i)) 6 ≡ true).
        ap (λ t. cond (nat_le (type_of a (value_at a i)) 3) (Number (number64 a (value_at a i))) (cond (nat_eq (type_of a (value_at a i)) 6) (Choice t) (Raw (number64 a (value_at a i)) (extra_in_value a (value_at a i)))))
        (string_text_same (extra_in_value a (value_at a i)) (leads_there (section_of a 5).offset (section_of a 5).count string_size (extra_in_value a (value_at a i))
        (ap (leads_to_string a) (sym (extras i below)) ∙ g.choices i below (eq_of (type_of a (value_at a i)) 6 choice)))))
        (λ (other : nat_eq (type_of a (value_at a i)) 6 ≡ false). rw other refl)
        (either (nat_eq (type_of a (value_at a i)) 6)))

    value_row_same : (i : ℕ) → i < value_count a → value_row b (value_at a i) ≡ value_row a (value_at a i)
    unfolding value_row
    value_row_same i below =
        value_rows_same (value_row b (value_at a i)) (value_row a (value_at a i)) (item_of_same a b h g i below) (instance_of_same i below) (content_same i below)

    values_same : values_of b ≡ values_of a
    unfolding values_of
    values_same =
        ap (λ s. list_below s.count (λ i. value_row b (s.offset + value_size * i))) (section_same a b h g 4)
        ∙ rows_same (value_count a) (λ i. value_row b (value_at a i)) (λ i. value_row a (value_at a i)) value_row_same

    pub layout_same : layout_of b ≡ layout_of a
    unfolding layout_of
    layout_same =
        layouts_same (layout_of b) (layout_of a)
        (head32 a b h g 4 (omega arith) (inl (omega arith))) generation (head32 a b h g 28 (omega arith) (inr (omega arith)))
        (head32 a b h g 32 (omega arith) (inr (omega arith))) (head32 a b h g cluster_offset (omega arith) (inr (omega arith)))
        indoms_same metrics_same values_same strings_same
