-- An image says the layout that stands at its offsets, and no other.
use Rattle.std.proofs.Common.{◌≡◌, ◌≢◌, ℕ, ℤ, ◌+◌, ◌*◌, ◌<◌, ◌≤◌, Bool, true, false, ◌||◌, ◌⊎◌, List, length, ap, ap₂, sym, subst, ◌∙◌, refl, arith, nat_eq, nat_le, cond, not, Option, None, Some, unwrap_or, ⊎_elim}
use Rattle.std.proofs.lemmas.Bool.Decides.{nat_tests}
use Rattle.std.proofs.lemmas.Bool.{eq-eqb}
use Rattle.pcp_base.specs.Codes.{kind_of_code, code_of_kind, semantics_of_code, code_of_semantics}
use Rattle.pcp_base.specs.declared.kind.Kind.{Kind}
use Rattle.pcp_base.specs.declared.kind.Kind.TheVariants as kinds
use Rattle.pcp_base.specs.declared.kind.Semantics.{Semantics}
use Rattle.pcp_base.specs.declared.kind.Semantics.TheVariants as meanings
use Rattle.mmv_layout.specs.Fields.{number64}
use Rattle.mmv_layout.specs.Sizes.{indom_size, instance_size, metric_size, value_size, string_size}
use Rattle.mmv_layout.specs.EntryFields.{name_offset_in_instance, count_in_indom, first_in_indom, short_offset_in_indom, long_offset_in_indom, type_in_metric, semantics_in_metric, serial_in_metric, short_offset_in_metric, long_offset_in_metric, extra_in_value, instance_in_value}
use Rattle.mmv_layout.specs.Contents.{version_in, section_of, first_generation, second_generation}
use Rattle.mmv_layout.specs.Entries.{name_leads, indom_count, indom_at, metric_count, metric_at, value_count, value_at, run_at, help_leads, is_good_indom, is_good_metric, has_good_fields, is_good_value, metric_of, instance_leads, choice_leads, is_no_domain, is_kind, is_semantics}
use Rattle.mmv_layout.specs.Images.{has_good_header, is_image}
use Rattle.mmv_layout.proofs.Below.{both_left, both_right}
use Rattle.mmv_layout.specs.declared.rows.IndomRow.{IndomRow}
use Rattle.mmv_layout.specs.declared.rows.MetricRow.{MetricRow}
use Rattle.mmv_layout.specs.declared.rows.ValueRow.{ValueRow}
use Rattle.mmv_layout.specs.declared.rows.Content.{Content}
use Rattle.mmv_layout.specs.declared.rows.Content.TheVariants.{Number, Choice, Raw}
use Rattle.mmv_layout.specs.declared.rows.Layout.{Layout}
use Rattle.mmv_layout.specs.Rows.{list_below, number_of, string_text, help_of, instance_row, instances_of, indom_row, serial_of, metric_row, type_of, domain_of, instance_of, content_of, value_row, indoms_of, metrics_of, values_of, strings_of, layout_of}
use Rattle.mmv_layout.specs.Says.{EachAt, InSection, LeadsTo, HelpAt, InstanceAt, IndomAt, IsNull, IsNamed, SerialIs, MetricAt, InstanceOf, ContentAt, ValueAt, TextAt, Says, SaysOneLayout}
use Rattle.mmv_layout.proofs.Named.{name_there, name_only, metric_named}
use Rattle.mmv_layout.proofs.Runs.{run_named}
use Rattle.mmv_layout.proofs.RowLists.{rows_length, each_only, each_there}
use Rattle.mmv_layout.proofs.Goods.{le_of, eq_of, ne_of, either, or_right, leads_there, header, good_indom, good_metric, good_value}

-- Helps

help_there : (words : List ℕ) (field : ℕ) → help_leads words field ≡ true → HelpAt words field (help_of words field)
unfolding help_leads help_of
help_there words field h =
    let offset : ℕ = number64 words field in
    ⊎_elim
    (λ (null : nat_eq offset 0 ≡ true). subst (λ b. HelpAt words field (cond b None (Some (string_text words offset)))) (sym null) (eq_of offset 0 null))
    (λ (some : nat_eq offset 0 ≡ false).
    subst (λ b. HelpAt words field (cond b None (Some (string_text words offset)))) (sym some)
    (ne_of offset 0 some, (leads_there (section_of words 5).offset (section_of words 5).count string_size offset (or_right _ _ h some), refl)))
    (either (nat_eq offset 0))

isnt : (a b : ℕ) → a ≢ b → nat_eq a b ≡ false
isnt a b h = grind (arith, nat_tests)

help_only : (words : List ℕ) (field : ℕ) (help : Option (List ℕ)) → HelpAt words field help → help ≡ help_of words field
unfolding help_of
help_only words field None h = sym (ap (λ b. cond b None (Some (string_text words (number64 words field)))) (eq-eqb (number64 words field) 0 h))
help_only words field (Some text) h =
    ap Some h.1.1 ∙ sym (ap (λ b. cond b None (Some (string_text words (number64 words field)))) (isnt (number64 words field) 0 h.0))

-- Domains

instance_row_there : (words : List ℕ) (instance : ℕ) → name_leads words (name_offset_in_instance instance) ≡ true → InstanceAt words instance (instance_row words instance)
unfolding instance_row
instance_row_there words instance leads = (refl, name_there words (name_offset_in_instance instance) leads)

instances_there : (words : List ℕ) (i : ℕ) → is_image words ≡ true → i < indom_count words
    → EachAt (InstanceAt words) (first_in_indom words (indom_at words i)) (instance_size (version_in words)) (instances_of words (indom_at words i))
unfolding instances_of
instances_there words i h below =
    each_there (InstanceAt words) (instance_row words) (instance_size (version_in words)) (count_in_indom words (indom_at words i)) (first_in_indom words (indom_at words i))
    (λ k within. instance_row_there words (run_at words (indom_at words i) k) (run_named words i k h below within))

instances_count : (words : List ℕ) (domain : ℕ) → length (instances_of words domain) ≡ count_in_indom words domain
unfolding instances_of
instances_count words domain = rows_length (count_in_indom words domain) (λ k. instance_row words (run_at words domain k))

instance_only : (words : List ℕ) (instance : ℕ) (row : ℤ × List ℕ) → InstanceAt words instance row → row ≡ instance_row words instance
unfolding instance_row
instance_only words instance row h = ap₂ (λ a b. (a, b)) h.0 (name_only words (name_offset_in_instance instance) row.1 h.1)

indom_there : (words : List ℕ) (i : ℕ) → is_image words ≡ true → i < indom_count words → is_good_indom words i ≡ true → IndomAt words (indom_at words i) (indom_row words (indom_at words i))
unfolding is_good_indom indom_row
indom_there words i h below good = record {
  serial = refl;
  count = instances_count words (indom_at words i);
  instances = instances_there words i h below;
  short = help_there words (short_offset_in_indom (indom_at words i)) (both_left _ _ (both_left _ _ (both_left _ _ (both_left _ _ good))));
  long = help_there words (long_offset_in_indom (indom_at words i)) (both_right _ _ (both_left _ _ (both_left _ _ (both_left _ _ good))));
}

indom_with : ℕ → List (ℤ × List ℕ) → Option (List ℕ) → Option (List ℕ) → IndomRow
indom_with a b c d = record { serial = a; instances = b; short = c; long = d }

pub indom_rows_same : (row other : IndomRow) → row.serial ≡ other.serial → row.instances ≡ other.instances → row.short ≡ other.short → row.long ≡ other.long → row ≡ other
unfolding indom_with
indom_rows_same row other a b c d =
    let same : indom_with row.serial row.instances row.short row.long ≡ indom_with other.serial other.instances other.short other.long = cc in same

indom_only : (words : List ℕ) (domain : ℕ) (row : IndomRow) → IndomAt words domain row → row ≡ indom_row words domain
unfolding indom_row instances_of
indom_only words domain row h =
    indom_rows_same row (indom_row words domain) h.serial
    (each_only (InstanceAt words) (instance_row words) (instance_size (version_in words)) (instance_only words) (first_in_indom words domain) row.instances h.instances
    ∙ ap (λ n. list_below n (λ k. instance_row words (run_at words domain k))) h.count)
    (help_only words (short_offset_in_indom domain) row.short h.short) (help_only words (long_offset_in_indom domain) row.long h.long)

-- Metrics

pub kind_there : (code : ℕ) → is_kind code ≡ true → code_of_kind (unwrap_or (kind_of_code code) kinds.I32) ≡ code
kind_there code h = grind (arith, nat_tests)

kind_only : (kind : Kind) (code : ℕ) → code_of_kind kind ≡ code → kind ≡ unwrap_or (kind_of_code code) kinds.I32
kind_only kinds.I32 code h = ap (λ n. unwrap_or (kind_of_code n) kinds.I32) h
kind_only kinds.U32 code h = ap (λ n. unwrap_or (kind_of_code n) kinds.I32) h
kind_only kinds.I64 code h = ap (λ n. unwrap_or (kind_of_code n) kinds.I32) h
kind_only kinds.U64 code h = ap (λ n. unwrap_or (kind_of_code n) kinds.I32) h
kind_only kinds.Float code h = ap (λ n. unwrap_or (kind_of_code n) kinds.I32) h
kind_only kinds.Double code h = ap (λ n. unwrap_or (kind_of_code n) kinds.I32) h
kind_only kinds.Text code h = ap (λ n. unwrap_or (kind_of_code n) kinds.I32) h
kind_only kinds.Elapsed code h = ap (λ n. unwrap_or (kind_of_code n) kinds.I32) h

semantics_there : (code : ℕ) → is_semantics code ≡ true → code_of_semantics (unwrap_or (semantics_of_code code) meanings.Counter) ≡ code
semantics_there code h = grind (arith, nat_tests)

semantics_only : (semantics : Semantics) (code : ℕ) → code_of_semantics semantics ≡ code → semantics ≡ unwrap_or (semantics_of_code code) meanings.Counter
semantics_only meanings.Counter code h = ap (λ n. unwrap_or (semantics_of_code n) meanings.Counter) h
semantics_only meanings.Instant code h = ap (λ n. unwrap_or (semantics_of_code n) meanings.Counter) h
semantics_only meanings.Discrete code h = ap (λ n. unwrap_or (semantics_of_code n) meanings.Counter) h

null_of : (serial : ℕ) → is_no_domain serial ≡ true → IsNull serial
null_of serial h = grind (arith, nat_tests)

named_of : (serial : ℕ) → is_no_domain serial ≡ false → IsNamed serial
named_of serial h = (λ e. grind (arith, nat_tests), λ e. grind (arith, nat_tests))

of_null : (serial : ℕ) → IsNull serial → is_no_domain serial ≡ true
of_null serial h = grind (arith, nat_tests)

of_named : (serial : ℕ) → IsNamed serial → is_no_domain serial ≡ false
of_named serial h = let a : serial ≢ 0 = h.0 in let b : serial ≢ 4294967295 = h.1 in grind (arith, nat_tests)

serial_there : (serial : ℕ) → SerialIs serial (serial_of serial)
unfolding serial_of
serial_there serial =
    ⊎_elim
    (λ (none : is_no_domain serial ≡ true). subst (λ b. SerialIs serial (cond b None (Some serial))) (sym none) (null_of serial none))
    (λ (some : is_no_domain serial ≡ false). subst (λ b. SerialIs serial (cond b None (Some serial))) (sym some) (named_of serial some, refl))
    (either (is_no_domain serial))

serial_only : (found : ℕ) (serial : Option ℕ) → SerialIs found serial → serial ≡ serial_of found
unfolding serial_of
serial_only found None h = sym (ap (λ b. cond b None (Some found)) (of_null found h))
serial_only found (Some serial) h = ap Some h.1 ∙ sym (ap (λ b. cond b None (Some found)) (of_named found h.0))

metric_with : List ℕ → ℕ → Kind → Semantics → ℕ → Option ℕ → Option (List ℕ) → Option (List ℕ) → MetricRow
metric_with a b c d e f g h = record { name = a; item = b; kind = c; semantics = d; units = e; serial = f; short = g; long = h }

pub metric_rows_same : (row other : MetricRow) → row.name ≡ other.name → row.item ≡ other.item → row.kind ≡ other.kind → row.semantics ≡ other.semantics
    → row.units ≡ other.units → row.serial ≡ other.serial → row.short ≡ other.short → row.long ≡ other.long → row ≡ other
unfolding metric_with
metric_rows_same row other a b c d e f g h =
    let same : metric_with row.name row.item row.kind row.semantics row.units row.serial row.short row.long
    ≡ metric_with other.name other.item other.kind other.semantics other.units other.serial other.short other.long = cc in same

pub metric_fields : (words : List ℕ) (i : ℕ) → is_good_metric words i ≡ true → has_good_fields words (metric_at words i) ≡ true
unfolding is_good_metric
metric_fields words i good = both_right _ _ (both_left _ _ good)

metric_there : (words : List ℕ) (metric : ℕ) → name_leads words metric ≡ true → has_good_fields words metric ≡ true → MetricAt words metric (metric_row words metric)
unfolding has_good_fields metric_row
metric_there words metric leads good = record {
  name = name_there words metric leads;
  item = refl;
  kind = kind_there (type_in_metric words metric) (both_left _ _ (both_left _ _ (both_left _ _ (both_left _ _ (both_left _ _ good)))));
  semantics = semantics_there (semantics_in_metric words metric) (both_right _ _ (both_left _ _ (both_left _ _ (both_left _ _ (both_left _ _ good)))));
  units = refl;
  serial = serial_there (serial_in_metric words metric);
  short = help_there words (short_offset_in_metric words metric) (both_right _ _ (both_left _ _ (both_left _ _ good)));
  long = help_there words (long_offset_in_metric words metric) (both_right _ _ (both_left _ _ good));
}

metric_only : (words : List ℕ) (metric : ℕ) (row : MetricRow) → MetricAt words metric row → row ≡ metric_row words metric
unfolding metric_row
metric_only words metric row h =
    metric_rows_same row (metric_row words metric) (name_only words metric row.name h.name) h.item (kind_only row.kind (type_in_metric words metric) h.kind)
    (semantics_only row.semantics (semantics_in_metric words metric) h.semantics) h.units (serial_only (serial_in_metric words metric) row.serial h.serial)
    (help_only words (short_offset_in_metric words metric) row.short h.short) (help_only words (long_offset_in_metric words metric) row.long h.long)

-- Values

instance_there : (words : List ℕ) (value : ℕ) → instance_leads words value ≡ true → InstanceOf words value (instance_of words value)
unfolding instance_leads instance_of
instance_there words value h =
    let offset : ℕ = instance_in_value words value in
    ⊎_elim
    (λ (none : is_no_domain (domain_of words value) ≡ true).
    subst (λ b. InstanceOf words value (cond b None (Some (number_of words (instance_in_value words value))))) (sym none) (null_of (domain_of words value) none))
    (λ (some : is_no_domain (domain_of words value) ≡ false).
    subst (λ b. InstanceOf words value (cond b None (Some (number_of words (instance_in_value words value))))) (sym some) (
      named_of (domain_of words value) some,
      leads_there (section_of words 2).offset (section_of words 2).count (instance_size (version_in words)) offset (both_left _ _ (taken _ _ _ h some)),
      refl,
    ))
    (either (is_no_domain (domain_of words value)))
  where
    taken : (b x y : Bool) → cond b x y ≡ true → b ≡ false → y ≡ true
    taken true x y h e = cc
    taken false x y h e = h

instance_of_only : (words : List ℕ) (value : ℕ) (instance : Option ℤ) → InstanceOf words value instance → instance ≡ instance_of words value
unfolding instance_of
instance_of_only words value None h = sym (ap (λ b. cond b None (Some (number_of words (instance_in_value words value)))) (of_null (domain_of words value) h))
instance_of_only words value (Some number) h = ap Some h.2 ∙ sym (ap (λ b. cond b None (Some (number_of words (instance_in_value words value)))) (of_named (domain_of words value) h.0))

-- a type that is neither 0 to 3 nor 6 is 4, 5 or 9
raw_types : (code : ℕ) → is_kind code ≡ true → nat_le code 3 ≡ false → nat_eq code 6 ≡ false → (code ≡ 4) ⊎ (code ≡ 5) ⊎ (code ≡ 9)
raw_types code h a b = grind (arith, nat_tests)

choice_taken : (six leads : Bool) → (not six || leads) ≡ true → six ≡ true → leads ≡ true
choice_taken true leads h e = h
choice_taken false leads h e = cc

content_in : List ℕ → ℕ → Bool → Bool → Content
content_in words value number choice = cond number (Number (number64 words value))
    (cond choice (Choice (string_text words (extra_in_value words value))) (Raw (number64 words value) (extra_in_value words value)))

content_there : (words : List ℕ) (value : ℕ) → is_kind (type_of words value) ≡ true → choice_leads words value ≡ true → ContentAt words value (content_of words value)
unfolding choice_leads content_of content_in
content_there words value known h =
    let extra : ℕ = extra_in_value words value in
    let code : ℕ = type_of words value in
    ⊎_elim
    (λ (number : nat_le code 3 ≡ true). subst (λ b. ContentAt words value (content_in words value b (nat_eq code 6))) (sym number) (le_of code 3 number, refl))
    (λ (other : nat_le code 3 ≡ false).
    subst (λ b. ContentAt words value (content_in words value b (nat_eq code 6))) (sym other)
    (⊎_elim
    (λ (choice : nat_eq code 6 ≡ true).
    subst (λ b. ContentAt words value (content_in words value false b)) (sym choice)
    (eq_of code 6 choice, (leads_there (section_of words 5).offset (section_of words 5).count string_size extra (choice_taken (nat_eq code 6) _ h choice), refl)))
    (λ (raw : nat_eq code 6 ≡ false). subst (λ b. ContentAt words value (content_in words value false b)) (sym raw) (raw_types code known other raw, refl, refl))
    (either (nat_eq code 6))))
    (either (nat_le code 3))

is_number : (code : ℕ) → code ≤ 3 → nat_le code 3 ≡ true
is_number code h = grind (arith, nat_tests)

is_choice : (code : ℕ) → code ≡ 6 → (nat_le code 3 ≡ false) × (nat_eq code 6 ≡ true)
is_choice code h = (grind (arith, nat_tests), grind (arith, nat_tests))

is_raw : (code : ℕ) → (code ≡ 4) ⊎ (code ≡ 5) ⊎ (code ≡ 9) → (nat_le code 3 ≡ false) × (nat_eq code 6 ≡ false)
is_raw code h = (grind (arith, nat_tests), grind (arith, nat_tests))

content_only : (words : List ℕ) (value : ℕ) (content : Content) → ContentAt words value content → content ≡ content_of words value
unfolding content_of content_in
content_only words value (Number number) h =
    ap Number h.1 ∙ sym (ap (λ b. content_in words value b (nat_eq (type_of words value) 6)) (is_number (type_of words value) h.0))
content_only words value (Choice text) h =
    ap Choice h.1.1 ∙ sym (ap₂ (content_in words value) (is_choice (type_of words value) h.0).0 (is_choice (type_of words value) h.0).1)
content_only words value (Raw number extra) h =
    ap₂ Raw h.1 h.2 ∙ sym (ap₂ (content_in words value) (is_raw (type_of words value) h.0).0 (is_raw (type_of words value) h.0).1)

value_with : ℕ → Option ℤ → Content → ValueRow
value_with a b c = record { item = a; instance = b; content = c }

pub value_rows_same : (row other : ValueRow) → row.item ≡ other.item → row.instance ≡ other.instance → row.content ≡ other.content → row ≡ other
unfolding value_with
value_rows_same row other a b c =
    let same : value_with row.item row.instance row.content ≡ value_with other.item other.instance other.content = cc in same

-- a value's metric is one of the image's, and its type has a meaning
pub value_metric : (words : List ℕ) (i : ℕ) → is_good_value words i ≡ true → LeadsTo (metric_count words) (metric_at words) (metric_of words (value_at words i))
unfolding is_good_value
value_metric words i good =
    leads_there (section_of words 3).offset (section_of words 3).count (metric_size (version_in words)) (metric_of words (value_at words i)) (both_left _ _ (both_left _ _ (both_left _ _ good)))

metric_kind : (words : List ℕ) (metric : ℕ) → has_good_fields words metric ≡ true → is_kind (type_in_metric words metric) ≡ true
unfolding has_good_fields
metric_kind words metric good = both_left _ _ (both_left _ _ (both_left _ _ (both_left _ _ (both_left _ _ good))))

pub value_kind : (words : List ℕ) (i : ℕ) → is_image words ≡ true → i < value_count words → is_kind (type_of words (value_at words i)) ≡ true
value_kind words i h below =
    let (k, within, stands) = value_metric words i (good_value words i h below) in
    subst (λ metric. is_kind (type_in_metric words metric) ≡ true) (sym stands)
    (metric_kind words (metric_at words k) (metric_fields words k (good_metric words k h within)))

value_there : (words : List ℕ) (i : ℕ) → is_image words ≡ true → i < value_count words → ValueAt words (value_at words i) (value_row words (value_at words i))
unfolding is_good_value value_row
value_there words i h below =
    let good : is_good_value words i ≡ true = good_value words i h below in record {
      metric = value_metric words i good;
      item = refl;
      instance = instance_there words (value_at words i) (both_right _ _ (both_left _ _ (both_left _ _ good)));
      content = content_there words (value_at words i) (value_kind words i h below) (both_right _ _ (both_left _ _ good));
    }

value_only : (words : List ℕ) (value : ℕ) (row : ValueRow) → ValueAt words value row → row ≡ value_row words value
unfolding value_row
value_only words value row h =
    value_rows_same row (value_row words value) h.item (instance_of_only words value row.instance h.instance) (content_only words value row.content h.content)

-- Layouts

layout_with : ℕ → ℕ → ℕ → ℕ → ℕ → List IndomRow → List MetricRow → List ValueRow → List (List ℕ) → Layout
layout_with a b c d e f g h i = record { version = a; generation = b; flags = c; pid = d; cluster = e; indoms = f; metrics = g; values = h; strings = i }

pub layouts_same : (a b : Layout) → a.version ≡ b.version → a.generation ≡ b.generation → a.flags ≡ b.flags → a.pid ≡ b.pid → a.cluster ≡ b.cluster
    → a.indoms ≡ b.indoms → a.metrics ≡ b.metrics → a.values ≡ b.values → a.strings ≡ b.strings → a ≡ b
unfolding layout_with
layouts_same a b p q r s t u v w x =
    let same : layout_with a.version a.generation a.flags a.pid a.cluster a.indoms a.metrics a.values a.strings
    ≡ layout_with b.version b.generation b.flags b.pid b.cluster b.indoms b.metrics b.values b.strings = cc in same

generation_twice : (words : List ℕ) → is_image words ≡ true → first_generation words ≡ second_generation words
unfolding has_good_header
generation_twice words h = eq_of (first_generation words) (second_generation words) (both_right _ _ (both_left _ _ (header words h)))

-- the rows of a section that each stand at its entry, by the row that an offset decides
in_section : {X : Type 0} (R : ℕ → X → Type 0) (row : ℕ → X) (size offset count : ℕ) → ((k : ℕ) → k < count → R (offset + size * k) (row (offset + size * k)))
    → InSection R (record { offset = offset; count = count }) size (list_below count (λ k. row (offset + size * k)))
in_section R row size offset count each = (rows_length count (λ k. row (offset + size * k)), each_there R row size count offset each)

only_section : {X : Type 0} (R : ℕ → X → Type 0) (row : ℕ → X) (size offset count : ℕ) (rows : List X) → ((p : ℕ) (x : X) → R p x → x ≡ row p)
    → InSection R (record { offset = offset; count = count }) size rows → rows ≡ list_below count (λ k. row (offset + size * k))
only_section R row size offset count rows only h =
    each_only R row size only offset rows h.1 ∙ ap (λ n. list_below n (λ k. row (offset + size * k))) h.0

pub layout_says : (words : List ℕ) → is_image words ≡ true → Says words (layout_of words)
unfolding layout_of indoms_of metrics_of values_of strings_of
layout_says words h = record {
  version = refl;
  generation = refl;
  again = generation_twice words h;
  flags = refl;
  pid = refl;
  cluster = refl;
  indoms = in_section (IndomAt words) (indom_row words) indom_size (section_of words 1).offset (section_of words 1).count (λ i below. indom_there words i h below (good_indom words i h below));
  metrics = in_section (MetricAt words) (metric_row words) (metric_size (version_in words)) (section_of words 3).offset (section_of words 3).count
      (λ i below. metric_there words (metric_at words i) (metric_named words i h below) (metric_fields words i (good_metric words i h below)));
  values = in_section (ValueAt words) (value_row words) value_size (section_of words 4).offset (section_of words 4).count (λ i below. value_there words i h below);
  strings = in_section (TextAt words) (string_text words) string_size (section_of words 5).offset (section_of words 5).count (λ i below. refl);
}

pub says_layout : (words : List ℕ) (other : Layout) → Says words other → other ≡ layout_of words
unfolding layout_of indoms_of metrics_of values_of strings_of
says_layout words other h =
    layouts_same other (layout_of words) h.version h.generation h.flags h.pid h.cluster
    (only_section (IndomAt words) (indom_row words) indom_size (section_of words 1).offset (section_of words 1).count other.indoms (indom_only words) h.indoms)
    (only_section (MetricAt words) (metric_row words) (metric_size (version_in words)) (section_of words 3).offset (section_of words 3).count other.metrics (metric_only words) h.metrics)
    (only_section (ValueAt words) (value_row words) value_size (section_of words 4).offset (section_of words 4).count other.values (value_only words) h.values)
    (only_section (TextAt words) (string_text words) string_size (section_of words 5).offset (section_of words 5).count other.strings (λ p text stands. stands) h.strings)

pub says_one : SaysOneLayout
says_one words h = (layout_of words, layout_says words h, says_layout words)
