-- What holds of the four images of a script that a number makes, by computing.
use Rattle.std.proofs.Common.{◌≡◌, ℕ, zero, suc, ◌+◌, ◌<◌, ◌≤◌, Bool, true, false, ◌&&◌, List, [], ◌∷◌, length, slice_index, Option, Some, None, All, refl, sym, ap, ◌∙◌, arith, ◌⊎◌, ⊎_elim}
use Rattle.std.proofs.lemmas.Bool.{eqb-true, leb-true, ltb-true}
use Rattle.std.proofs.lemmas.List.Elements.{All-nil, All-cons}
use Rattle.mmv_layout.proofs.Below.{both_left, both_right}
use Rattle.std.specs.Prelude.{◌==◌, nat_le, nat_lt}
use Rattle.std.specs.List.{AllByRecursion as Each, list_all}
use Rattle.mmv_layout.specs.declared.rows.MetricRow.{MetricRow}
use Rattle.mmv_layout.specs.declared.rows.Slot.{Slot}
use Rattle.mmv_layout.specs.Entries.{leads, help_leads, name_leads, name_ends, is_passed_over, is_instance_of, has_good_run, has_serial, is_new_indom, is_good_indom, has_text, lies_in_run, is_same_instance, is_new_instance, is_good_instance, has_name, is_indom_serial, serial_leads, is_same_metric, is_new_metric, has_good_fields, is_good_metric, metric_of, instance_leads, choice_leads, is_same_value, is_new_value, is_good_value, is_good_string, indoms_are_good, instances_are_good, metrics_are_good, values_are_good, strings_are_good}
use Rattle.mmv_layout.specs.Sizes.{name_width, name_room}
use Rattle.mmv_layout.specs.EntryFields.{name_start, name_text, same_name}
use Rattle.mmv_layout.specs.Below.{all_below, some_below}
use Rattle.mmv_layout.specs.Contents.{section_bytes, end_in, section_lies, are_apart, is_first_of_type, has_good_section, is_aligned, sections_are_good, sections_are_aligned, find_section, section_of, cluster_in}
use Rattle.mmv_layout.specs.Fields.{number64, number32, byte_at, text_at, has_zero, first_words}
use Rattle.mmv_layout.specs.Images.{has_good_header, is_image}
use Rattle.mmv_layout.specs.Form.{slot_at, slots_of}
use Rattle.mmv_layout.specs.Rows.{list_below, help_of, serial_of, metric_row, instance_of, metrics_of}
use Rattle.mmv_writer.specs.Offsets.{sections_in}
use Rattle.mmv_writer.specs.Spelling.{with_missing, all_strings, header_words, contents_words, domain_words, name_words, instance_words, metric_words, value_words, domain_section, instance_section, metric_section, value_section, string_section, sections_words, image_with_strings, image_words}
use Rattle.run_script.specs.Generated.{numbers, layout}
use Rattle.std.specs.Fmt.{digits}
use Rattle.region_core.specs.Shape.{IsWord}
use Rattle.fetch_answers.specs.Names.{served_word}
use Rattle.script_runs.specs.Slots.{holds_number, slot_with}
use Rattle.made_runs.proofs.Asked.{IsKnown, is_among, known}

-- the image of a cluster, with the metric `late` or without
abbrev pub image_of : ℕ → Bool → List ℕ
image_of cluster late = image_words (layout cluster late)

-- the slot is there, and holds numbers
abbrev pub has_number : Option Slot → Bool
has_number None = false
has_number (Some slot) = holds_number slot.kind

-- a metric's number is one of the few
abbrev pub is_known_in : ℕ → MetricRow → Bool
is_known_in cluster metric = is_among known (served_word cluster metric.item)

-- a word has 64 bits
abbrev pub is_word : ℕ → Bool
is_word w = nat_lt w 18446744073709551616

-- the counter of an item is there
abbrev pub has_item : List ℕ → ℕ → Bool
has_item words item = has_number (slot_with words item None)

-- all that a run needs of an image
abbrev pub is_made : ℕ → List ℕ → Bool
is_made cluster words =
    is_image words && (nat_le (length words) 2048 && (list_all is_word words && (list_all (has_item words) (numbers 1 12)
    && (list_all (is_known_in cluster) (metrics_of words) && (cluster_in words == cluster && slice_index words 1 == 1)))))

-- so much is computed
made : (is_made 1 (image_of 1 false) ≡ true) × (is_made 1 (image_of 1 true) ≡ true) × (is_made 2 (image_of 2 false) ≡ true) × (is_made 3 (image_of 3 false) ≡ true)
unfolding name_width name_room name_start name_text leads help_leads name_leads name_ends is_passed_over is_instance_of has_good_run has_serial is_new_indom is_good_indom has_text lies_in_run is_same_instance is_new_instance is_good_instance has_name is_indom_serial serial_leads is_same_metric is_new_metric has_good_fields is_good_metric metric_of instance_leads choice_leads is_same_value is_new_value is_good_value is_good_string indoms_are_good instances_are_good metrics_are_good values_are_good strings_are_good same_name all_below some_below section_bytes end_in section_lies are_apart is_first_of_type has_good_section is_aligned sections_are_good sections_are_aligned find_section section_of number64 number32 byte_at text_at has_zero first_words has_good_header is_image slot_at slots_of list_below help_of serial_of metric_row instance_of metrics_of sections_in with_missing all_strings header_words contents_words domain_words name_words instance_words metric_words value_words domain_section instance_section metric_section value_section string_section sections_words image_with_strings image_words numbers layout digits
made = (refl, refl, refl, refl)

-- The same as facts

pub record IsMade (cluster : ℕ) (words : List ℕ) : Type 0 where
  pub image : is_image words ≡ true
  pub few : length words ≤ 2048
  pub fit : All IsWord words
  pub numbers : (item : ℕ) → 1 ≤ item → item ≤ 12 → has_item words item ≡ true
  pub known : Each (λ metric. IsKnown (served_word cluster metric.item)) (metrics_of words)
  pub served : cluster_in words ≡ cluster
  pub generation : slice_index words 1 ≡ 1

-- what the tests say
word_is : (w : ℕ) → is_word w ≡ true → IsWord w
word_is w h = ltb-true w 18446744073709551616 h

all_words : (words : List ℕ) → list_all is_word words ≡ true → All IsWord words
all_words [] h = All-nil IsWord
all_words (w ∷ words) h = All-cons IsWord w words (word_is w (both_left (is_word w) (list_all is_word words) h)) (all_words words (both_right (is_word w) (list_all is_word words) h))

each_number : (test : ℕ → Bool) (from count item : ℕ) → list_all test (numbers from count) ≡ true → from ≤ item → item < from + count → test item ≡ true
unfolding numbers
each_number test from zero item h low high = absurd (omega arith)
each_number test from (suc count) item h low high =
    ⊎_elim (λ (less : from + 1 ≤ item). each_number test (from + 1) count item (both_right (test from) (list_all test (numbers (from + 1) count)) h) less (omega arith))
    (λ (same : from ≡ item). ap test (sym same) ∙ both_left (test from) (list_all test (numbers (from + 1) count)) h) (first_or from item low)
  where
    first_or : (a b : ℕ) → a ≤ b → (a + 1 ≤ b) ⊎ (a ≡ b)
    first_or a b h = grind arith

each_metric : (cluster : ℕ) (metrics : List MetricRow) → list_all (is_known_in cluster) metrics ≡ true → Each (λ metric. IsKnown (served_word cluster metric.item)) metrics
each_metric cluster [] h = tt
each_metric cluster (metric ∷ metrics) h =
    (both_left (is_known_in cluster metric) (list_all (is_known_in cluster) metrics) h, each_metric cluster metrics (both_right (is_known_in cluster metric) (list_all (is_known_in cluster) metrics) h))

of_test : (cluster : ℕ) (words : List ℕ) (a b c d e f g : Bool) → is_image words ≡ a → nat_le (length words) 2048 ≡ b → list_all is_word words ≡ c → list_all (has_item words) (numbers 1 12) ≡ d
    → list_all (is_known_in cluster) (metrics_of words) ≡ e → (cluster_in words == cluster) ≡ f → (slice_index words 1 == 1) ≡ g → (a && (b && (c && (d && (e && (f && g)))))) ≡ true → IsMade cluster words
of_test cluster words true true true true true true true ha hb hc hd he hf hg all = record {
  image = ha;
  few = leb-true (length words) 2048 hb;
  fit = all_words words hc;
  numbers = λ item low high. each_number (has_item words) 1 12 item hd low (omega arith);
  known = each_metric cluster (metrics_of words) he;
  served = eqb-true (cluster_in words) cluster hf;
  generation = eqb-true (slice_index words 1) 1 hg;
}
of_test cluster words false b c d e f g ha hb hc hd he hf hg all = absurd (cc)
of_test cluster words true false c d e f g ha hb hc hd he hf hg all = absurd (cc)
of_test cluster words true true false d e f g ha hb hc hd he hf hg all = absurd (cc)
of_test cluster words true true true false e f g ha hb hc hd he hf hg all = absurd (cc)
of_test cluster words true true true true false f g ha hb hc hd he hf hg all = absurd (cc)
of_test cluster words true true true true true false g ha hb hc hd he hf hg all = absurd (cc)
of_test cluster words true true true true true true false ha hb hc hd he hf hg all = absurd (cc)

made_by : (cluster : ℕ) (words : List ℕ) → is_made cluster words ≡ true → IsMade cluster words
made_by cluster words h =
    of_test cluster words (is_image words) (nat_le (length words) 2048) (list_all is_word words) (list_all (has_item words) (numbers 1 12)) (list_all (is_known_in cluster) (metrics_of words))
    (cluster_in words == cluster) (slice_index words 1 == 1) refl refl refl refl refl refl refl h

-- the four images
pub first_is : (late : Bool) → IsMade 1 (image_of 1 late)
first_is false = made_by 1 (image_of 1 false) made.0
first_is true = made_by 1 (image_of 1 true) made.1

pub second_is : IsMade 2 (image_of 2 false)
second_is = made_by 2 (image_of 2 false) made.2

pub third_is : IsMade 3 (image_of 3 false)
third_is = made_by 3 (image_of 3 false) made.3
