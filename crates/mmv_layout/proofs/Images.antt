-- What is known of an image, and that it has no fault.
use Rattle.std.proofs.Common.{◌≡◌, ℕ, zero, suc, ◌*◌, ◌/◌, ◌<◌, ◌≤◌, Bool, true, false, not, ◌&&◌, ◌==◌, List, length, ap, sym, ◌∙◌, refl, arith, nat_le, nat_lt, if◌then◌else◌}
use Rattle.std.specs.Prelude.{Some, None, is_none, Err}
use Rattle.std.proofs.Math.Nat.{mul-mod_right}
use Rattle.std.proofs.lemmas.Bool.{and_from}
use Rattle.std.proofs.lemmas.Bool.Decides.{nat_tests}
use Rattle.mmv_layout.specs.declared.fault.ImageFault.TheVariants.{Short, TooLarge, Magic, Version, Generations, Section, Offset, Name, Kind, Reference, Duplicate, Serial}
use Rattle.mmv_layout.specs.Below.{all_below}
use Rattle.mmv_layout.specs.Fields.{words_of, first_words}
use Rattle.mmv_layout.specs.Sizes.{is_version}
use Rattle.mmv_layout.specs.EntryFields.{serial_in_indom, short_offset_in_indom, long_offset_in_indom, number_offset_in_instance, number_in_instance, name_offset_in_instance, item_offset_in_metric, item_in_metric, type_in_metric, semantics_in_metric, serial_in_metric, short_offset_in_metric, long_offset_in_metric, extra_offset_in_value, metric_offset_in_value, instance_offset_in_value}
use Rattle.mmv_layout.specs.Contents.{bytes_in, is_short, has_magic, version_in, first_generation, second_generation, cluster_in, contents_in, has_good_section, is_aligned, sections_are_good, sections_are_aligned, offset_field_in}
use Rattle.mmv_layout.specs.Entries.{indom_count, indom_at, instance_count, instance_at, metric_count, metric_at, value_count, value_at, string_count, string_at, has_text, has_name, is_good_string, is_kind, is_semantics, has_good_run, help_leads, name_leads, lies_in_run, serial_leads, leads_to_metric, metric_of, choice_leads, instance_leads, is_new_indom, is_new_instance, is_new_metric, is_new_value, is_serial, is_instance_number, is_item, is_good_indom, is_good_instance, is_good_metric, has_good_fields, is_good_value, indoms_are_good, instances_are_good, metrics_are_good, values_are_good, strings_are_good}
use Rattle.mmv_layout.specs.Images.{has_good_header, is_image, is_cluster, is_too_large}
use Rattle.mmv_layout.specs.Faults.{has_sections, or_else, unless, bad_type, section_fault, offset_fault, instance_name_fault, metric_name_fault, string_fault, name_fault, code_fault, kind_fault, help_fault, indom_reference_fault, name_reference_fault, instance_reference_fault, metric_reference_fault, value_reference_fault, indoms_reference_fault, instances_reference_fault, metrics_reference_fault, values_reference_fault, reference_fault, indoms_duplicate_fault, instances_duplicate_fault, metrics_duplicate_fault, values_duplicate_fault, duplicate_fault, indoms_serial_fault, instances_serial_fault, metrics_serial_fault, cluster_fault, serial_fault, entries_fault, header_fault, image_fault, unless_fault, image_in, image_of}
use Rattle.mmv_layout.proofs.Below.{both_left, both_right}
use Rattle.mmv_layout.proofs.Nones.{none_or_else, none_lower, none_unless, none_refused, none_first, none_tests, tests_pass, all_same, all_both}
use Rattle.mmv_layout.proofs.Lies.{le_of, not_above}

short_by : (n : ℕ) (a b : Bool) → nat_le 40 (8 * n) ≡ a → b ≡ true → not (a && b) ≡ nat_lt n 5
short_by n a b e f = grind (arith, nat_tests)

-- whole words are short where there are fewer than five
pub short_words : (words : List ℕ) → is_short (bytes_in words) ≡ nat_lt (length words) 5
short_words words = short_by (length words) _ _ refl (grind (arith, nat_tests, mul-mod_right 8 (length words)))

header : (words : List ℕ) → is_image words ≡ true → has_good_header words ≡ true
unfolding is_image
header words h = both_left _ _ (both_left _ _ (both_left _ _ (both_left _ _ (both_left _ _ (both_left _ _ (both_left _ _ h))))))

not_true : (b : Bool) → not b ≡ true → b ≡ false
not_true true h = cc
not_true false h = refl

some_words : (n : ℕ) → nat_lt n 5 ≡ false → 5 ≤ n
some_words n h = grind (arith, nat_tests)

pub at_least_five : (words : List ℕ) → is_image words ≡ true → 5 ≤ length words
unfolding has_good_header
at_least_five words h =
    some_words (length words) (sym (short_words words) ∙ not_true _ (both_left _ _ (both_left _ _ (both_left _ _ (both_left _ _ (both_left _ _ (header words h)))))))

pub at_most : (words : List ℕ) → is_image words ≡ true → length words ≤ 65536
unfolding has_good_header
at_most words h = not_above (length words) (both_right _ _ (both_left _ _ (both_left _ _ (both_left _ _ (both_left _ _ (header words h))))))

pub cluster_fits : (words : List ℕ) → is_image words ≡ true → cluster_in words ≤ 4095
unfolding has_good_header
cluster_fits words h = le_of _ _ (both_right _ _ (header words h))

-- where no section is faulty, and there aren't too many words, the sections lie in them
pub sections_stand : (words : List ℕ) → section_fault words ≡ None → length words ≤ 65536 → has_sections words ≡ true
unfolding section_fault has_sections sections_are_good
sections_stand words none few = and_from _ _ (not_too_large (length words) few) (tests_pass (contents_in words) (has_good_section words) (bad_type words) none)
  where
    not_too_large : (n : ℕ) → n ≤ 65536 → not (not (nat_le n 65536)) ≡ true
    not_too_large n h = grind (arith, nat_tests)

both : (a b c d : Bool) → a ≡ b → c ≡ d → (a && c) ≡ (b && d)
both a b c d e f = cc

-- Domains: what is looked at kind by kind is what is looked at entry by entry

indom_references : (words : List ℕ) (domain : ℕ) → is_none (indom_reference_fault words domain) ≡ (has_good_run words domain && (help_leads words (short_offset_in_indom domain) && help_leads words (long_offset_in_indom domain)))
unfolding indom_reference_fault help_fault
indom_references words domain = none_or_else _ _ ∙ both _ _ _ _ (none_unless _ _) (none_or_else _ _ ∙ both _ _ _ _ (none_unless _ _) (none_unless _ _))

indom_parts : (a b c d e : Bool) → (a && b && c && d && e) ≡ ((c && (a && b)) && (d && e))
indom_parts a b c d e = grind (arith, nat_tests)

indoms_same : (words : List ℕ) → indoms_are_good words ≡ (is_none (indoms_reference_fault words) && (is_none (indoms_duplicate_fault words) && is_none (indoms_serial_fault words)))
unfolding indoms_are_good is_good_indom indoms_reference_fault indoms_duplicate_fault indoms_serial_fault
indoms_same words =
    let n : ℕ = indom_count words in
    let offset : (ℕ → ℕ) = λ i. indom_at words i in
    let refs : (ℕ → Bool) = λ i. has_good_run words (offset i) && (help_leads words (short_offset_in_indom (offset i)) && help_leads words (long_offset_in_indom (offset i))) in
    let serial : (ℕ → Bool) = λ i. is_serial (serial_in_indom words (offset i)) in
    all_same n (is_good_indom words) (λ i. refs i && (is_new_indom words i && serial i)) (λ i. indom_parts (help_leads words (short_offset_in_indom (offset i))) (help_leads words (long_offset_in_indom (offset i))) (has_good_run words (offset i)) (is_new_indom words i) (serial i))
    ∙ sym (all_both n refs (λ i. is_new_indom words i && serial i)) ∙ ap (λ b. all_below n refs && b) (sym (all_both n (is_new_indom words) serial))
    ∙ sym (both _ _ _ _ (none_first n (λ i. indom_reference_fault words (offset i)) ∙ all_same n _ refs (λ i. indom_references words (offset i)))
    (both _ _ _ _ (none_tests n (is_new_indom words) offset) (none_tests n serial offset)))

-- Instances

instance_references : (words : List ℕ) (instance : ℕ) → is_none (instance_reference_fault words instance) ≡ (lies_in_run words instance && name_leads words (name_offset_in_instance instance))
unfolding instance_reference_fault name_reference_fault
instance_references words instance = none_or_else _ _ ∙ both _ _ _ _ (none_unless _ _) (none_unless _ _)

instances_same : (words : List ℕ) → instances_are_good words ≡ ((is_none (instance_name_fault words) && is_none (instances_reference_fault words)) && (is_none (instances_duplicate_fault words) && is_none (instances_serial_fault words)))
unfolding instances_are_good is_good_instance instance_name_fault instances_reference_fault instances_duplicate_fault instances_serial_fault
instances_same words =
    let n : ℕ = instance_count words in
    let offset : (ℕ → ℕ) = λ i. instance_at words i in
    let text : (ℕ → Bool) = λ i. has_text words (name_offset_in_instance (offset i)) in
    let refs : (ℕ → Bool) = λ i. lies_in_run words (offset i) && name_leads words (name_offset_in_instance (offset i)) in
    let number : (ℕ → Bool) = λ i. is_instance_number (number_in_instance words (offset i)) in
    all_same n (is_good_instance words) (λ i. (text i && refs i) && (is_new_instance words i && number i)) (λ i. grouped (text i) (name_leads words (name_offset_in_instance (offset i))) (lies_in_run words (offset i)) (is_new_instance words i) (number i))
    ∙ sym (all_both n (λ i. text i && refs i) (λ i. is_new_instance words i && number i))
    ∙ both _ _ _ _ (sym (all_both n text refs)) (sym (all_both n (is_new_instance words) number))
    ∙ sym (both _ _ _ _ (both _ _ _ _ (none_tests n text (λ i. name_offset_in_instance (offset i))) (none_first n (λ i. instance_reference_fault words (offset i)) ∙ all_same n _ refs (λ i. instance_references words (offset i))))
    (both _ _ _ _ (none_tests n (is_new_instance words) offset) (none_tests n number (λ i. number_offset_in_instance (offset i)))))
  where
    grouped : (text name lies new number : Bool) → (text && name && lies && new && number) ≡ ((text && (lies && name)) && (new && number))
    grouped text name lies new number = grind (arith, nat_tests)

-- Metrics

metric_codes : (words : List ℕ) (metric : ℕ) → is_none (code_fault words metric) ≡ (is_kind (type_in_metric words metric) && is_semantics (semantics_in_metric words metric))
unfolding code_fault
metric_codes words metric = none_or_else _ _ ∙ both _ _ _ _ (none_unless _ _) (none_unless _ _)

metric_references : (words : List ℕ) (metric : ℕ) → is_none (metric_reference_fault words metric)
    ≡ (name_leads words metric && (serial_leads words (serial_in_metric words metric) && (help_leads words (short_offset_in_metric words metric) && help_leads words (long_offset_in_metric words metric))))
unfolding metric_reference_fault name_reference_fault help_fault
metric_references words metric =
    none_or_else _ _ ∙ both _ _ _ _ (none_unless _ _) (none_or_else _ _ ∙ both _ _ _ _ (none_unless _ _) (none_or_else _ _ ∙ both _ _ _ _ (none_unless _ _) (none_unless _ _)))

metric_parts : (name leads kind semantics serial short long item new : Bool) → (name && leads && (kind && semantics && serial && short && long && item) && new)
    ≡ ((name && (kind && semantics)) && ((leads && (serial && (short && long))) && (new && item)))
metric_parts name leads kind semantics serial short long item new = grind (arith, nat_tests)

metrics_same : (words : List ℕ) → metrics_are_good words ≡ ((is_none (metric_name_fault words) && is_none (kind_fault words)) && (is_none (metrics_reference_fault words) && (is_none (metrics_duplicate_fault words) && is_none (metrics_serial_fault words))))
unfolding metrics_are_good is_good_metric has_good_fields metric_name_fault kind_fault metrics_reference_fault metrics_duplicate_fault metrics_serial_fault
metrics_same words =
    let n : ℕ = metric_count words in
    let offset : (ℕ → ℕ) = λ i. metric_at words i in
    let name : (ℕ → Bool) = λ i. has_name words (offset i) in
    let codes : (ℕ → Bool) = λ i. is_kind (type_in_metric words (offset i)) && is_semantics (semantics_in_metric words (offset i)) in
    let refs : (ℕ → Bool) = λ i. name_leads words (offset i) && (serial_leads words (serial_in_metric words (offset i)) && (help_leads words (short_offset_in_metric words (offset i)) && help_leads words (long_offset_in_metric words (offset i)))) in
    let item : (ℕ → Bool) = λ i. is_item (item_in_metric words (offset i)) in
    all_same n (is_good_metric words) (λ i. (name i && codes i) && (refs i && (is_new_metric words i && item i))) (λ i.
    metric_parts (name i) (name_leads words (offset i)) (is_kind (type_in_metric words (offset i))) (is_semantics (semantics_in_metric words (offset i))) (serial_leads words (serial_in_metric words (offset i)))
    (help_leads words (short_offset_in_metric words (offset i))) (help_leads words (long_offset_in_metric words (offset i))) (item i) (is_new_metric words i))
    ∙ sym (all_both n (λ i. name i && codes i) (λ i. refs i && (is_new_metric words i && item i)))
    ∙ both _ _ _ _ (sym (all_both n name codes)) (sym (all_both n refs (λ i. is_new_metric words i && item i)) ∙ ap (λ b. all_below n refs && b) (sym (all_both n (is_new_metric words) item)))
    ∙ sym (both _ _ _ _ (both _ _ _ _ (none_tests n name offset) (none_first n (λ i. code_fault words (offset i)) ∙ all_same n _ codes (λ i. metric_codes words (offset i))))
    (both _ _ _ _ (none_first n (λ i. metric_reference_fault words (offset i)) ∙ all_same n _ refs (λ i. metric_references words (offset i)))
    (both _ _ _ _ (none_tests n (is_new_metric words) offset) (none_tests n item (λ i. item_offset_in_metric words (offset i))))))

-- Values

value_references : (words : List ℕ) (value : ℕ) → is_none (value_reference_fault words value) ≡ (leads_to_metric words (metric_of words value) && (choice_leads words value && instance_leads words value))
unfolding value_reference_fault
value_references words value = here (leads_to_metric words (metric_of words value))
  where
    here : (t : Bool) → is_none (if t then or_else (unless (choice_leads words value) (extra_offset_in_value value)) (unless (instance_leads words value) (instance_offset_in_value value)) else Some (metric_offset_in_value value)) ≡ (t && (choice_leads words value && instance_leads words value))
    here true = none_or_else _ _ ∙ both _ _ _ _ (none_unless _ _) (none_unless _ _)
    here false = refl

value_parts : (a b c d : Bool) → (a && b && c && d) ≡ ((a && (c && b)) && d)
value_parts a b c d = grind (arith, nat_tests)

values_same : (words : List ℕ) → values_are_good words ≡ (is_none (values_reference_fault words) && is_none (values_duplicate_fault words))
unfolding values_are_good is_good_value values_reference_fault values_duplicate_fault
values_same words =
    let n : ℕ = value_count words in
    let offset : (ℕ → ℕ) = λ i. value_at words i in
    let refs : (ℕ → Bool) = λ i. leads_to_metric words (metric_of words (offset i)) && (choice_leads words (offset i) && instance_leads words (offset i)) in
    all_same n (is_good_value words) (λ i. refs i && is_new_value words i) (λ i. value_parts (leads_to_metric words (metric_of words (offset i))) (instance_leads words (offset i)) (choice_leads words (offset i)) (is_new_value words i))
    ∙ sym (all_both n refs (is_new_value words))
    ∙ sym (both _ _ _ _ (none_first n (λ i. value_reference_fault words (offset i)) ∙ all_same n _ refs (λ i. value_references words (offset i))) (none_tests n (is_new_value words) offset))

-- Strings, and the contents

strings_same : (words : List ℕ) → strings_are_good words ≡ is_none (string_fault words)
unfolding strings_are_good string_fault
strings_same words = sym (none_tests (string_count words) (is_good_string words) (λ i. string_at words i))

sections_same : (words : List ℕ) → sections_are_good words ≡ is_none (section_fault words)
unfolding sections_are_good section_fault
sections_same words = sym (none_tests (contents_in words) (has_good_section words) (bad_type words))

aligned_same : (words : List ℕ) → sections_are_aligned words ≡ is_none (offset_fault words)
unfolding sections_are_aligned offset_fault
aligned_same words = sym (none_tests (contents_in words) (is_aligned words) (λ i. offset_field_in i))

-- The kinds

names_same : (words : List ℕ) → is_none (name_fault words) ≡ (is_none (instance_name_fault words) && (is_none (metric_name_fault words) && is_none (string_fault words)))
unfolding name_fault
names_same words = none_lower _ _ ∙ ap (λ b. is_none (instance_name_fault words) && b) (none_lower _ _)

references_same : (words : List ℕ) → is_none (reference_fault words) ≡ ((is_none (indoms_reference_fault words) && is_none (instances_reference_fault words)) && (is_none (metrics_reference_fault words) && is_none (values_reference_fault words)))
unfolding reference_fault
references_same words = none_lower _ _ ∙ both _ _ _ _ (none_lower _ _) (none_lower _ _)

duplicates_same : (words : List ℕ) → is_none (duplicate_fault words) ≡ ((is_none (indoms_duplicate_fault words) && is_none (instances_duplicate_fault words)) && (is_none (metrics_duplicate_fault words) && is_none (values_duplicate_fault words)))
unfolding duplicate_fault
duplicates_same words = none_lower _ _ ∙ both _ _ _ _ (none_lower _ _) (none_lower _ _)

serials_same : (words : List ℕ) → is_none (serial_fault words) ≡ (is_cluster (cluster_in words) && (is_none (indoms_serial_fault words) && (is_none (instances_serial_fault words) && is_none (metrics_serial_fault words))))
unfolding serial_fault cluster_fault
serials_same words = none_lower _ _ ∙ both _ _ _ _ (none_unless _ _) (none_lower _ _ ∙ ap (λ b. is_none (indoms_serial_fault words) && b) (none_lower _ _))

entries_same : (words : List ℕ) → is_none (entries_fault words) ≡ (is_none (section_fault words) && (is_none (offset_fault words) && (is_none (name_fault words) && (is_none (kind_fault words) && (is_none (reference_fault words) && (is_none (duplicate_fault words) && is_none (serial_fault words)))))))
unfolding entries_fault
entries_same words =
    none_or_else _ _ ∙ both _ _ _ _ (none_refused Section _) (none_or_else _ _ ∙ both _ _ _ _ (none_refused Offset _) (none_or_else _ _ ∙ both _ _ _ _ (none_refused Name _)
    (none_or_else _ _ ∙ both _ _ _ _ (none_refused Kind _) (none_or_else _ _ ∙ both _ _ _ _ (none_refused Reference _) (none_or_else _ _ ∙ both _ _ _ _ (none_refused Duplicate _) (none_refused Serial _))))))

header_parts : (words : List ℕ) (magic version generations : Bool) → is_none (if not magic then Some Magic else if not version then Some (Version (version_in words)) else if not generations then Some (Generations (first_generation words) (second_generation words)) else None) ≡ (magic && (version && generations))
header_parts words false version generations = refl
header_parts words true false generations = refl
header_parts words true true false = refl
header_parts words true true true = refl

header_same : (words : List ℕ) → is_none (header_fault words) ≡ (has_magic words && (is_version (version_in words) && (first_generation words == second_generation words)))
unfolding header_fault
header_same words = header_parts words _ _ _

whole_parts : (words : List ℕ) (short large : Bool) → is_none (if short then Some (Short (bytes_in words)) else if large then Some (TooLarge (length words)) else or_else (header_fault words) (entries_fault words)) ≡ (not short && (not large && (is_none (header_fault words) && is_none (entries_fault words))))
whole_parts words true large = refl
whole_parts words false true = refl
whole_parts words false false = none_or_else _ _

whole_same : (words : List ℕ) → is_none (image_fault words) ≡ (not (is_short (bytes_in words)) && (not (is_too_large words) && (is_none (header_fault words) && is_none (entries_fault words))))
unfolding image_fault
whole_same words = whole_parts words _ _

-- What is looked at entry by entry, taken kind by kind

head_first : (cluster section offset domains instances metrics values strings : Bool) →
    (cluster && section && offset && domains && instances && metrics && values && strings) ≡ (section && (offset && (cluster && (domains && (instances && (metrics && (values && strings)))))))
head_first cluster section offset domains instances metrics values strings = grind (arith, nat_tests)

head_parts : (short large magic version generations cluster section offset domains instances metrics values strings : Bool) →
    ((short && large && magic && version && generations && cluster) && section && offset && domains && instances && metrics && values && strings)
    ≡ (short && (large && ((magic && (version && generations)) && (section && (offset && (cluster && (domains && (instances && (metrics && (values && strings))))))))))
head_parts false large magic version generations cluster section offset domains instances metrics values strings = refl
head_parts true false magic version generations cluster section offset domains instances metrics values strings = refl
head_parts true true false version generations cluster section offset domains instances metrics values strings = refl
head_parts true true true false generations cluster section offset domains instances metrics values strings = refl
head_parts true true true true false cluster section offset domains instances metrics values strings = refl
head_parts true true true true true cluster section offset domains instances metrics values strings = head_first cluster section offset domains instances metrics values strings

names_first : (c domains ni rn instances nm km metrics values strings : Bool) →
    (c && (domains && (((ni && rn) && instances) && (((nm && km) && metrics) && (values && strings))))) ≡ ((ni && (nm && strings)) && (km && (c && (domains && ((rn && instances) && (metrics && values))))))
names_first c domains ni rn instances nm km metrics values strings = grind (arith, nat_tests)

references_first : (c ri domains rn instances rm metrics rv values : Bool) →
    (c && ((ri && domains) && ((rn && instances) && ((rm && metrics) && (rv && values))))) ≡ (((ri && rn) && (rm && rv)) && (c && (domains && (instances && (metrics && values)))))
references_first c ri domains rn instances rm metrics rv values = grind (arith, nat_tests)

duplicates_first : (c di si dn sn dm sm values : Bool) →
    (c && ((di && si) && ((dn && sn) && ((dm && sm) && values)))) ≡ (((di && dn) && (dm && values)) && (c && (si && (sn && sm))))
duplicates_first c di si dn sn dm sm values = grind (arith, nat_tests)

kinds_first : (c ri di si ni rn dn sn nm km rm dm sm rv dv strings : Bool) →
    (c && ((ri && (di && si)) && (((ni && rn) && (dn && sn)) && (((nm && km) && (rm && (dm && sm))) && ((rv && dv) && strings)))))
    ≡ ((ni && (nm && strings)) && (km && (((ri && rn) && (rm && rv)) && (((di && dn) && (dm && dv)) && (c && (si && (sn && sm)))))))
kinds_first c ri di si ni rn dn sn nm km rm dm sm rv dv strings =
    names_first c (ri && (di && si)) ni rn (dn && sn) nm km (rm && (dm && sm)) (rv && dv) strings
    ∙ ap (λ b. (ni && (nm && strings)) && (km && b)) (references_first c ri (di && si) rn (dn && sn) rm (dm && sm) rv dv
    ∙ ap (λ b. ((ri && rn) && (rm && rv)) && b) (duplicates_first c di si dn sn dm sm dv))

entries_parts : (words : List ℕ) →
    (is_cluster (cluster_in words) && (indoms_are_good words && (instances_are_good words && (metrics_are_good words && (values_are_good words && strings_are_good words)))))
    ≡ (is_none (name_fault words) && (is_none (kind_fault words) && (is_none (reference_fault words) && (is_none (duplicate_fault words) && is_none (serial_fault words)))))
entries_parts words =
    ap (λ b. is_cluster (cluster_in words) && b) (both _ _ _ _ (indoms_same words) (both _ _ _ _ (instances_same words) (both _ _ _ _ (metrics_same words) (both _ _ _ _ (values_same words) (strings_same words)))))
    ∙ kinds_first (is_cluster (cluster_in words)) (is_none (indoms_reference_fault words)) (is_none (indoms_duplicate_fault words)) (is_none (indoms_serial_fault words))
    (is_none (instance_name_fault words)) (is_none (instances_reference_fault words)) (is_none (instances_duplicate_fault words)) (is_none (instances_serial_fault words))
    (is_none (metric_name_fault words)) (is_none (kind_fault words)) (is_none (metrics_reference_fault words)) (is_none (metrics_duplicate_fault words)) (is_none (metrics_serial_fault words))
    (is_none (values_reference_fault words)) (is_none (values_duplicate_fault words)) (is_none (string_fault words))
    ∙ sym (both _ _ _ _ (names_same words) (both _ _ _ _ refl (both _ _ _ _ (references_same words) (both _ _ _ _ (duplicates_same words) (serials_same words)))))

-- words are an image exactly where they have no fault
pub images_same : (words : List ℕ) → is_image words ≡ is_none (image_fault words)
unfolding is_image has_good_header
images_same words =
    head_parts (not (is_short (bytes_in words))) (not (is_too_large words)) (has_magic words) (is_version (version_in words)) (first_generation words == second_generation words) (is_cluster (cluster_in words))
    (sections_are_good words) (sections_are_aligned words) (indoms_are_good words) (instances_are_good words) (metrics_are_good words) (values_are_good words) (strings_are_good words)
    ∙ ap (λ b. not (is_short (bytes_in words)) && (not (is_too_large words) && b)) (both _ _ _ _ (sym (header_same words)) (both _ _ _ _ (sections_same words) (both _ _ _ _ (aligned_same words) (entries_parts words)) ∙ sym (entries_same words)))
    ∙ sym (whole_same words)

pub is_image_where : (words : List ℕ) → image_fault words ≡ None → is_image words ≡ true
is_image_where words none = images_same words ∙ ap (λ o. is_none o) none

-- bytes of too many words

first_length : (n : ℕ) (bytes : List ℕ) → length (first_words n bytes) ≡ n
unfolding first_words
first_length zero bytes = refl
first_length (suc n) bytes = ap suc (first_length n _)

whole_words : (bytes : ℕ) → is_short bytes ≡ false → is_short (8 * (bytes / 8)) ≡ false
whole_words bytes h = grind (arith, nat_tests)

not_few : (n : ℕ) → 65536 < n → not (nat_le n 65536) ≡ true
not_few n h = grind (arith, nat_tests)

large_fault : (words : List ℕ) → is_short (bytes_in words) ≡ false → is_too_large words ≡ true → image_fault words ≡ Some (TooLarge (length words))
unfolding image_fault
large_fault words whole large = rw (whole, large) refl

pub large_bytes : (bytes : List ℕ) → is_short (length bytes) ≡ false → 65536 < length bytes / 8 → image_of bytes ≡ Err (TooLarge (length bytes / 8))
unfolding image_of image_in words_of
large_bytes bytes whole large =
    let n : length (words_of bytes) ≡ length bytes / 8 = first_length (length bytes / 8) bytes in
    let fault : image_fault (words_of bytes) ≡ Some (TooLarge (length (words_of bytes))) =
    large_fault (words_of bytes) (ap (λ m. is_short (8 * m)) n ∙ whole_words (length bytes) whole) (ap (λ m. not (nat_le m 65536)) n ∙ not_few _ large) in
    ap (λ t. if t then Err (Short (length bytes)) else image_in (words_of bytes)) whole ∙ ap (λ f. unless_fault (words_of bytes) f) fault ∙ ap (λ m. Err (TooLarge m)) n
