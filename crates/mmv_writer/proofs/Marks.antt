-- What a reader of a spelled image reads of each entry, and that its references lead where they are to.
use Rattle.std.proofs.Common.{◌≡◌, ℕ, ◌+◌, ◌*◌, ◌<◌, ◌≤◌, ℤ, Bool, true, false, ◌||◌, List, length, take, ap, sym, ◌∙◌, refl, arith, add-zero, cond, nat_eq, nat_le, Option, Some, None, bytes_eq}
use Rattle.std.specs.List.{slice_get, flat_map, position_or_len}
use Rattle.std.proofs.lemmas.Bool.{eq-eqb}
use Rattle.std.proofs.lemmas.Bool.Decides.{nat_tests}
use Rattle.mmv_layout.specs.Fields.{number32, number64, first_words}
use Rattle.mmv_layout.specs.Contents.{version_in, section_of}
use Rattle.mmv_layout.specs.Entries.{leads, indom_at, instance_at, metric_at, value_at, string_at, leads_to_indom, leads_to_instance, leads_to_metric, leads_to_string, help_leads}
use Rattle.mmv_layout.proofs.Below.{some_holds, both_right}
use Rattle.mmv_layout.specs.declared.contents.Section.{Section}
use Rattle.mmv_layout.specs.declared.rows.IndomRow.{IndomRow}
use Rattle.mmv_layout.specs.declared.rows.MetricRow.{MetricRow}
use Rattle.mmv_layout.specs.declared.rows.ValueRow.{ValueRow}
use Rattle.mmv_layout.specs.declared.rows.Layout.{Layout}
use Rattle.mmv_writer.specs.Draft.{IsDraft}
use Rattle.mmv_writer.specs.Offsets.{instances_in, counts_of, words_in}
use Rattle.mmv_writer.specs.Spelling.{string_offset, help_offset, domain_of, domain_offset, instance_offset, domain_words, instance_words, metric_words, value_words, domain_section, instance_section, metric_section, value_section, string_section, image_with_strings, first_instance}
use Rattle.mmv_writer.proofs.Lengths.{name_wide, instance_wide, metric_wide, instances_fit, length_domain, length_instance, length_metric, length_value, length_even}
use Rattle.mmv_writer.proofs.Standing.{Stands, stands_entry, stands_group, word_read, low_read, high_read, length_text}
use Rattle.mmv_writer.proofs.Wanted.{Has, HasHelp}
use Rattle.mmv_writer.proofs.Positions.{Passes, first_passes, position_is, get_below, before_this}
use Rattle.mmv_writer.proofs.Spelt.{Fits, version_read, metrics_whole, values_whole, strings_whole, domains_from, instances_from, metrics_from, values_from, strings_from, offsets, stand_domains, stand_instances, stand_metrics, stand_values, stand_strings, Finds, find_indoms, find_instances, find_metrics, find_values, find_strings}
use Rattle.mmv_layout.specs.Sizes.{name_width, indom_size, instance_size, metric_size, value_size, string_size}
use Rattle.mmv_writer.specs.Offsets.{name_length, indom_length, instance_length, metric_length, value_length, string_length}

-- Offsets of entries

pub indom_is : (draft : Layout) (s : List (List ℕ)) → Fits draft s → (k : ℕ) → k < length draft.indoms → indom_at (image_with_strings draft s) k ≡ 8 * (domains_from draft s + indom_length * k)
indom_is draft s fit k h = let p : (section_of (image_with_strings draft s) 1).offset ≡ (offsets draft s).indoms = (find_indoms draft s fit).offset (omega arith) in omega arith

pub instance_is : (draft : Layout) (s : List (List ℕ)) → Fits draft s → (k : ℕ) → k < instances_in draft.indoms → instance_at (image_with_strings draft s) k ≡ 8 * (instances_from draft s + instance_length draft.version * k)
instance_is draft s fit k h =
    let p : (section_of (image_with_strings draft s) 2).offset ≡ (offsets draft s).instances = (find_instances draft s fit).offset (omega arith) in
    let w : instance_size draft.version * k ≡ 8 * (instance_length draft.version * k) = instance_wide draft.version k in
    ap (λ v. (section_of (image_with_strings draft s) 2).offset + instance_size v * k) (version_read draft s fit) ∙ omega arith

pub metric_is : (draft : Layout) (s : List (List ℕ)) → Fits draft s → (k : ℕ) → k < length draft.metrics → metric_at (image_with_strings draft s) k ≡ 8 * (metrics_from draft s + metric_length draft.version * k)
metric_is draft s fit k h =
    let p : (section_of (image_with_strings draft s) 3).offset ≡ (offsets draft s).metrics = (find_metrics draft s fit).offset (omega arith) in
    let from : (offsets draft s).metrics ≡ 8 * metrics_from draft s = metrics_whole draft s in
    let w : metric_size draft.version * k ≡ 8 * (metric_length draft.version * k) = metric_wide draft.version k in
    ap (λ v. (section_of (image_with_strings draft s) 3).offset + metric_size v * k) (version_read draft s fit) ∙ omega arith

pub value_is : (draft : Layout) (s : List (List ℕ)) → Fits draft s → (k : ℕ) → k < length draft.values → value_at (image_with_strings draft s) k ≡ 8 * (values_from draft s + value_length * k)
value_is draft s fit k h =
    let p : (section_of (image_with_strings draft s) 4).offset ≡ (offsets draft s).values = (find_values draft s fit).offset (omega arith) in
    let from : (offsets draft s).values ≡ 8 * values_from draft s = values_whole draft s in
    omega arith

pub string_is : (draft : Layout) (s : List (List ℕ)) → Fits draft s → (k : ℕ) → k < length s → string_at (image_with_strings draft s) k ≡ 8 * (strings_from draft s + string_length * k)
string_is draft s fit k h =
    let p : (section_of (image_with_strings draft s) 5).offset ≡ (offsets draft s).strings = (find_strings draft s fit).offset (omega arith) in
    let from : (offsets draft s).strings ≡ 8 * strings_from draft s = strings_whole draft s in
    omega arith

-- offsets of entries and the words at which they stand

pub name_field : (draft : Layout) (s : List (List ℕ)) → Fits draft s → name_width (version_in (image_with_strings draft s)) ≡ 8 * name_length draft.version
name_field draft s fit = ap name_width (version_read draft s fit) ∙ name_wide draft.version

pub size_spread : (p size a k : ℕ) → p + size * a + size * k ≡ p + size * (a + k)
size_spread p size a k = grind arith

pub instance_stands : (draft : Layout) (s : List (List ℕ)) (q at : ℕ) → at ≡ (offsets draft s).instances + instance_size draft.version * q → at ≡ 8 * (instances_from draft s + instance_length draft.version * q)
instance_stands draft s q at e = let w : instance_size draft.version * q ≡ 8 * (instance_length draft.version * q) = instance_wide draft.version q in omega arith

pub instance_offset_is : (draft : Layout) (s : List (List ℕ)) (q at : ℕ) → at ≡ 8 * (instances_from draft s + instance_length draft.version * q) → at ≡ (offsets draft s).instances + instance_size draft.version * q
instance_offset_is draft s q at e = let w : instance_size draft.version * q ≡ 8 * (instance_length draft.version * q) = instance_wide draft.version q in omega arith

pub metric_stands : (draft : Layout) (s : List (List ℕ)) (q at : ℕ) → at ≡ (offsets draft s).metrics + metric_size draft.version * q → at ≡ 8 * (metrics_from draft s + metric_length draft.version * q)
metric_stands draft s q at e =
    let from : (offsets draft s).metrics ≡ 8 * metrics_from draft s = metrics_whole draft s in
    let w : metric_size draft.version * q ≡ 8 * (metric_length draft.version * q) = metric_wide draft.version q in
    omega arith

pub value_stands : (draft : Layout) (s : List (List ℕ)) (q at : ℕ) → at ≡ (offsets draft s).values + value_size * q → at ≡ 8 * (values_from draft s + value_length * q)
value_stands draft s q at e = let from : (offsets draft s).values ≡ 8 * values_from draft s = values_whole draft s in omega arith

pub string_stands : (draft : Layout) (s : List (List ℕ)) (q at : ℕ) → at ≡ (offsets draft s).strings + string_size * q → at ≡ 8 * (strings_from draft s + string_length * q)
string_stands draft s q at e = let from : (offsets draft s).strings ≡ 8 * strings_from draft s = strings_whole draft s in omega arith

-- What leads

pub leads_there : (first count size offset k : ℕ) → k < count → offset ≡ first + size * k → leads first count size offset ≡ true
unfolding leads
leads_there first count size offset k h e = some_holds count k (λ j. nat_eq (first + size * j) offset) h (eq-eqb (first + size * k) offset (sym e))

led : (section : Section) (n p size offset k : ℕ) → Finds section n p → k < n → offset ≡ p + size * k → leads section.offset section.count size offset ≡ true
led section n p size offset k f h e =
    let count : section.count ≡ n = f.count in
    let at : section.offset ≡ p = f.offset (omega arith) in
    leads_there section.offset section.count size offset k (omega arith) (e ∙ ap (λ q. q + size * k) (sym at))

pub indom_leads : (draft : Layout) (s : List (List ℕ)) → Fits draft s → (k offset : ℕ) → k < length draft.indoms → offset ≡ (offsets draft s).indoms + indom_size * k → leads_to_indom (image_with_strings draft s) offset ≡ true
indom_leads draft s fit k offset h e = led (section_of (image_with_strings draft s) 1) (length draft.indoms) (offsets draft s).indoms indom_size offset k (find_indoms draft s fit) h e

pub instance_leads_to : (draft : Layout) (s : List (List ℕ)) → Fits draft s → (k offset : ℕ) → k < instances_in draft.indoms → offset ≡ (offsets draft s).instances + instance_size draft.version * k → leads_to_instance (image_with_strings draft s) offset ≡ true
instance_leads_to draft s fit k offset h e =
    ap (λ v. leads (section_of (image_with_strings draft s) 2).offset (section_of (image_with_strings draft s) 2).count (instance_size v) offset) (version_read draft s fit)
    ∙ led (section_of (image_with_strings draft s) 2) (instances_in draft.indoms) (offsets draft s).instances (instance_size draft.version) offset k (find_instances draft s fit) h e

pub metric_leads : (draft : Layout) (s : List (List ℕ)) → Fits draft s → (k offset : ℕ) → k < length draft.metrics → offset ≡ (offsets draft s).metrics + metric_size draft.version * k → leads_to_metric (image_with_strings draft s) offset ≡ true
metric_leads draft s fit k offset h e =
    ap (λ v. leads (section_of (image_with_strings draft s) 3).offset (section_of (image_with_strings draft s) 3).count (metric_size v) offset) (version_read draft s fit)
    ∙ led (section_of (image_with_strings draft s) 3) (length draft.metrics) (offsets draft s).metrics (metric_size draft.version) offset k (find_metrics draft s fit) h e

pub string_leads : (draft : Layout) (s : List (List ℕ)) → Fits draft s → (text : List ℕ) → Has s text → leads_to_string (image_with_strings draft s) (string_offset (offsets draft s) s text) ≡ true
string_leads draft s fit text h =
    let p : Passes s (position_or_len (λ other. bytes_eq other text) s) (λ other. bytes_eq other text) = first_passes (λ other. bytes_eq other text) s h in
    led (section_of (image_with_strings draft s) 5) (length s) (offsets draft s).strings string_size (string_offset (offsets draft s) s text) (position_or_len (λ other. bytes_eq other text) s) (find_strings draft s fit) (get_below s (position_or_len (λ other. bytes_eq other text) s) p.row p.at) refl

pub help_good : (draft : Layout) (s : List (List ℕ)) → Fits draft s → (help : Option (List ℕ)) (field : ℕ) → HasHelp s help → number64 (image_with_strings draft s) field ≡ help_offset (offsets draft s) s help → help_leads (image_with_strings draft s) field ≡ true
unfolding help_leads
help_good draft s fit None field h e = ap (λ b. b || leads_to_string (image_with_strings draft s) (number64 (image_with_strings draft s) field)) (eq-eqb (number64 (image_with_strings draft s) field) 0 e)
help_good draft s fit (Some text) field h e =
    ap (λ b. nat_eq (number64 (image_with_strings draft s) field) 0 || b) (ap (leads_to_string (image_with_strings draft s)) e ∙ string_leads draft s fit text h) ∙ or_true (nat_eq (number64 (image_with_strings draft s) field) 0)
  where
    or_true : (b : Bool) → (b || true) ≡ true
    or_true true = refl
    or_true false = refl

-- Entries as they stand

pub stand_domain : (draft : Layout) (s : List (List ℕ)) (i : ℕ) (row : IndomRow) → slice_get draft.indoms i ≡ Some row → Stands (image_with_strings draft s) (domains_from draft s + indom_length * i) (domain_words (offsets draft s) s draft.indoms row)
unfolding domain_section
stand_domain draft s i row at =
    stands_entry (image_with_strings draft s) (domain_words (offsets draft s) s draft.indoms) indom_length (length_domain (offsets draft s) s draft.indoms) draft.indoms (domains_from draft s) (domains_from draft s + indom_length * i) i row (stand_domains draft s) at refl

pub stand_instance : (draft : Layout) (s : List (List ℕ)) (i k : ℕ) (row : IndomRow) (instance : ℤ × List ℕ) → slice_get draft.indoms i ≡ Some row → slice_get row.instances k ≡ Some instance → Stands (image_with_strings draft s) (instances_from draft s + instance_length draft.version * (instances_in (take i draft.indoms) + k)) (instance_words (offsets draft s) s (domain_offset (offsets draft s) draft.indoms row.serial) instance)
unfolding instance_section
stand_instance draft s i k row instance at within =
    stands_entry (image_with_strings draft s) (instance_words (offsets draft s) s (domain_offset (offsets draft s) draft.indoms row.serial)) (instance_length draft.version) (length_instance (offsets draft s) s (domain_offset (offsets draft s) draft.indoms row.serial)) row.instances
    (instances_from draft s + instance_length draft.version * instances_in (take i draft.indoms)) (instances_from draft s + instance_length draft.version * (instances_in (take i draft.indoms) + k)) k instance
    (stands_group (image_with_strings draft s) (λ r. flat_map (λ x. instance_words (offsets draft s) s (domain_offset (offsets draft s) draft.indoms r.serial) x) r.instances) (λ r. length r.instances) (instance_length draft.version)
    (λ r. length_even (instance_words (offsets draft s) s (domain_offset (offsets draft s) draft.indoms r.serial)) (instance_length draft.version) (length_instance (offsets draft s) s (domain_offset (offsets draft s) draft.indoms r.serial)) r.instances)
    draft.indoms (instances_from draft s) (instances_from draft s + instance_length draft.version * instances_in (take i draft.indoms)) i row (stand_instances draft s) at refl)
    within (spread (instances_from draft s) (instance_length draft.version) (instances_in (take i draft.indoms)) k)
  where
    spread : (n size a k : ℕ) → n + size * (a + k) ≡ n + size * a + size * k
    spread n size a k = grind arith

pub stand_metric : (draft : Layout) (s : List (List ℕ)) (i : ℕ) (row : MetricRow) → slice_get draft.metrics i ≡ Some row → Stands (image_with_strings draft s) (metrics_from draft s + metric_length draft.version * i) (metric_words (offsets draft s) s row)
unfolding metric_section
stand_metric draft s i row at =
    stands_entry (image_with_strings draft s) (metric_words (offsets draft s) s) (metric_length draft.version) (length_metric (offsets draft s) s) draft.metrics (metrics_from draft s) (metrics_from draft s + metric_length draft.version * i) i row (stand_metrics draft s) at refl

pub stand_value : (draft : Layout) (s : List (List ℕ)) (i : ℕ) (row : ValueRow) → slice_get draft.values i ≡ Some row → Stands (image_with_strings draft s) (values_from draft s + value_length * i) (value_words (offsets draft s) s draft.indoms draft.metrics row)
unfolding value_section
stand_value draft s i row at =
    stands_entry (image_with_strings draft s) (value_words (offsets draft s) s draft.indoms draft.metrics) value_length (length_value (offsets draft s) s draft.indoms draft.metrics) draft.values (values_from draft s) (values_from draft s + value_length * i) i row (stand_values draft s) at refl

pub stand_string : (draft : Layout) (s : List (List ℕ)) (i : ℕ) (text : List ℕ) → slice_get s i ≡ Some text → Stands (image_with_strings draft s) (strings_from draft s + string_length * i) (first_words string_length text)
unfolding string_section
stand_string draft s i text at =
    stands_entry (image_with_strings draft s) (first_words string_length) string_length (length_text string_length) s (strings_from draft s) (strings_from draft s + string_length * i) i text (stand_strings draft s) at refl

-- Domains

pub domain_first : (draft : Layout) → IsDraft draft → (i : ℕ) (row : IndomRow) → slice_get draft.indoms i ≡ Some row → domain_of draft.indoms row.serial ≡ i
domain_first draft d i row at =
    position_is (λ r. nat_eq r.serial row.serial) draft.indoms i row at (eq-eqb row.serial row.serial refl) (λ j y less h. d.serials j i y row less h at)

pub serial_fits : (draft : Layout) → IsDraft draft → (i : ℕ) (row : IndomRow) → slice_get draft.indoms i ≡ Some row → row.serial ≤ 1023
serial_fits draft d i row at = le_of row.serial 1023 (both_right (nat_le 1 row.serial) (nat_le row.serial 1023) (d.domains i row at).serial)
  where
    le_of : (a b : ℕ) → nat_le a b ≡ true → a ≤ b
    le_of a b h = grind (arith, nat_tests)

pub serial_read : (draft : Layout) (s : List (List ℕ)) → Fits draft s → IsDraft draft → (i at : ℕ) (row : IndomRow) → slice_get draft.indoms i ≡ Some row → at ≡ 8 * (domains_from draft s + indom_length * i) → number32 (image_with_strings draft s) at ≡ row.serial
unfolding domain_words
serial_read draft s fit d i at row here e =
    let fits : row.serial ≤ 1023 = serial_fits draft d i row here in
    low_read (image_with_strings draft s) (domains_from draft s + indom_length * i) 0 at (domain_words (offsets draft s) s draft.indoms row) row.serial (length row.instances) (stand_domain draft s i row here) (omega arith) (omega arith) refl (omega arith)

pub run_read : (draft : Layout) (s : List (List ℕ)) → Fits draft s → IsDraft draft → (i at : ℕ) (row : IndomRow) → slice_get draft.indoms i ≡ Some row → at ≡ 8 * (domains_from draft s + indom_length * i) + 4 → number32 (image_with_strings draft s) at ≡ length row.instances
unfolding domain_words
run_read draft s fit d i at row here e =
    let fits : row.serial ≤ 1023 = serial_fits draft d i row here in
    let all : instances_in (take i draft.indoms) + length row.instances ≤ instances_in draft.indoms = before_this draft.indoms i row here in
    let small : instances_in draft.indoms ≤ instance_length draft.version * instances_in draft.indoms = instances_fit draft.version (instances_in draft.indoms) in
    let most : words_in (counts_of draft s) ≤ 65536 = fit.few in
    high_read (image_with_strings draft s) (domains_from draft s + indom_length * i) 0 at (domain_words (offsets draft s) s draft.indoms row) row.serial (length row.instances) (stand_domain draft s i row here) (omega arith) (omega arith) refl (omega arith) (omega arith)

pub first_read : (draft : Layout) (s : List (List ℕ)) (i at : ℕ) (row : IndomRow) → slice_get draft.indoms i ≡ Some row → at ≡ 8 * (domains_from draft s + indom_length * i) + 8 → number64 (image_with_strings draft s) at ≡ first_instance (offsets draft s) draft.indoms row
unfolding domain_words
first_read draft s i at row here e = word_read (image_with_strings draft s) (domains_from draft s + indom_length * i) 1 at (domain_words (offsets draft s) s draft.indoms row) (stand_domain draft s i row here) (omega arith) (omega arith)

-- the first instance of a domain that has one
pub first_is : (draft : Layout) (s : List (List ℕ)) → IsDraft draft → (i : ℕ) (row : IndomRow) → slice_get draft.indoms i ≡ Some row → 0 < length row.instances → first_instance (offsets draft s) draft.indoms row ≡ (offsets draft s).instances + instance_size draft.version * instances_in (take i draft.indoms)
first_is draft s d i row here some =
    ap (λ b. cond b 0 (instance_offset (offsets draft s) draft.indoms row.serial 0)) (isnt (length row.instances) some)
    ∙ ap (λ n. (offsets draft s).instances + instance_size draft.version * (instances_in (take n draft.indoms) + 0)) (domain_first draft d i row here) ∙ ap (λ n. (offsets draft s).instances + instance_size draft.version * n) (add-zero (instances_in (take i draft.indoms)))
  where
    isnt : (n : ℕ) → 0 < n → nat_eq n 0 ≡ false
    isnt n h = grind (arith, nat_tests)

-- the domain field of an instance
pub owner_read : (draft : Layout) (s : List (List ℕ)) → IsDraft draft → (i k at : ℕ) (row : IndomRow) (instance : ℤ × List ℕ) → slice_get draft.indoms i ≡ Some row → slice_get row.instances k ≡ Some instance → at ≡ 8 * (instances_from draft s + instance_length draft.version * (instances_in (take i draft.indoms) + k)) → number64 (image_with_strings draft s) at ≡ (offsets draft s).indoms + indom_size * i
unfolding instance_words
owner_read draft s d i k at row instance here within e =
    word_read (image_with_strings draft s) (instances_from draft s + instance_length draft.version * (instances_in (take i draft.indoms) + k)) 0 at (instance_words (offsets draft s) s (domain_offset (offsets draft s) draft.indoms row.serial) instance) (stand_instance draft s i k row instance here within) (omega arith) (omega arith)
    ∙ ap (λ n. (offsets draft s).indoms + indom_size * n) (domain_first draft d i row here)
