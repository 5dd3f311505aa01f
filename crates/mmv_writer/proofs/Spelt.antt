-- Where the parts of a spelled image stand, and which sections a reader finds in it.
use Rattle.std.proofs.Common.{◌≡◌, ℕ, ◌+◌, ◌*◌, ◌<◌, ◌≤◌, Bool, true, false, List, [], ◌∷◌, ◌++◌, length, ap, ap₂, sym, subst, ◌∙◌, refl, arith, cond, nat_eq, Some, append-nil}
use Rattle.std.specs.List.{slice_get, flat_map}
use Rattle.std.proofs.lemmas.List.Concat.{flat_map-append}
use Rattle.std.proofs.lemmas.Bool.{eqb-true}
use Rattle.mmv_layout.specs.Contents.{version_in, section_bytes, section_of, sections_are_good, sections_are_aligned}
use Rattle.mmv_layout.specs.declared.contents.Section.{Section}
use Rattle.mmv_layout.specs.declared.rows.Layout.{Layout}
use Rattle.mmv_writer.specs.declared.offsets.Counts.{Counts}
use Rattle.mmv_writer.specs.declared.offsets.SectionOffsets.{SectionOffsets}
use Rattle.mmv_writer.specs.Offsets.{instances_in, counts_of, one_if_some, sections_in, section_offsets, words_in}
use Rattle.mmv_writer.specs.Spelling.{halves, header_words, entry_words, contents_words, domain_section, instance_section, metric_section, value_section, string_section, sections_words, image_with_strings}
use Rattle.mmv_writer.proofs.Lengths.{length_header, length_contents, length_domains, length_instances, length_metrics, length_values, length_spelled, instance_wide, metric_wide, instances_fit, metrics_fit, sections_most}
use Rattle.mmv_writer.proofs.Standing.{Stands, stands_whole, stands_left, stands_right, stands_entry, word_read, low_read, high_read}
use Rattle.mmv_writer.proofs.Sections.{Entry, kept, words_of_entry, IsEntry, Laid, laid_kept, laid_at, Reads, pick, pick_skip, pick_hit, section_is, good_sections, aligned_sections}
use Rattle.mmv_layout.specs.Sizes.{is_version, instance_size, metric_size, string_size}
use Rattle.mmv_layout.proofs.Versions.{version_fits}
use Rattle.mmv_writer.specs.Offsets.{indom_length, instance_length, metric_length, value_length}

-- a draft of a version that is written, whose image with these strings isn't too large
pub record Fits (draft : Layout) (s : List (List ℕ)) : Type 0 where
  pub version : is_version draft.version ≡ true
  pub few : words_in (counts_of draft s) ≤ 65536

-- The words at which the sections begin

abbrev pub domains_from : Layout → List (List ℕ) → ℕ
domains_from draft s = 5 + 2 * sections_in (counts_of draft s)

abbrev pub instances_from : Layout → List (List ℕ) → ℕ
instances_from draft s = domains_from draft s + indom_length * length draft.indoms

abbrev pub metrics_from : Layout → List (List ℕ) → ℕ
metrics_from draft s = instances_from draft s + instance_length draft.version * instances_in draft.indoms

abbrev pub values_from : Layout → List (List ℕ) → ℕ
values_from draft s = metrics_from draft s + metric_length draft.version * length draft.metrics

abbrev pub strings_from : Layout → List (List ℕ) → ℕ
strings_from draft s = values_from draft s + value_length * length draft.values

abbrev pub offsets : Layout → List (List ℕ) → SectionOffsets
offsets draft s = section_offsets (counts_of draft s)

-- these words are at the sections' offsets

pub metrics_whole : (draft : Layout) (s : List (List ℕ)) → (offsets draft s).metrics ≡ 8 * metrics_from draft s
metrics_whole draft s =
    let i : instance_size draft.version * instances_in draft.indoms ≡ 8 * (instance_length draft.version * instances_in draft.indoms) = instance_wide draft.version (instances_in draft.indoms) in
    omega arith

pub values_whole : (draft : Layout) (s : List (List ℕ)) → (offsets draft s).values ≡ 8 * values_from draft s
values_whole draft s =
    let i : instance_size draft.version * instances_in draft.indoms ≡ 8 * (instance_length draft.version * instances_in draft.indoms) = instance_wide draft.version (instances_in draft.indoms) in
    let m : metric_size draft.version * length draft.metrics ≡ 8 * (metric_length draft.version * length draft.metrics) = metric_wide draft.version (length draft.metrics) in
    omega arith

pub strings_whole : (draft : Layout) (s : List (List ℕ)) → (offsets draft s).strings ≡ 8 * strings_from draft s
strings_whole draft s =
    let i : instance_size draft.version * instances_in draft.indoms ≡ 8 * (instance_length draft.version * instances_in draft.indoms) = instance_wide draft.version (instances_in draft.indoms) in
    let m : metric_size draft.version * length draft.metrics ≡ 8 * (metric_length draft.version * length draft.metrics) = metric_wide draft.version (length draft.metrics) in
    omega arith

pub stand_header : (draft : Layout) (s : List (List ℕ)) → Stands (image_with_strings draft s) 0 (header_words draft (sections_in (counts_of draft s)))
unfolding image_with_strings
stand_header draft s = stands_left (image_with_strings draft s) 0 (header_words draft (sections_in (counts_of draft s))) _ (stands_whole (image_with_strings draft s))

behind_header : (draft : Layout) (s : List (List ℕ)) → Stands (image_with_strings draft s) 5 (contents_words (counts_of draft s) (offsets draft s) ++ sections_words draft s (offsets draft s))
unfolding image_with_strings
behind_header draft s =
    stands_right (image_with_strings draft s) 0 5 (header_words draft (sections_in (counts_of draft s))) (contents_words (counts_of draft s) (offsets draft s) ++ sections_words draft s (offsets draft s))
    (ap (λ n. 0 + n) (sym (length_header draft (sections_in (counts_of draft s))))) (stands_whole (image_with_strings draft s))

pub stand_contents : (draft : Layout) (s : List (List ℕ)) → Stands (image_with_strings draft s) 5 (contents_words (counts_of draft s) (offsets draft s))
stand_contents draft s = stands_left (image_with_strings draft s) 5 (contents_words (counts_of draft s) (offsets draft s)) (sections_words draft s (offsets draft s)) (behind_header draft s)

from_domains : (draft : Layout) (s : List (List ℕ)) → Stands (image_with_strings draft s) (domains_from draft s) (sections_words draft s (offsets draft s))
from_domains draft s =
    stands_right (image_with_strings draft s) 5 (domains_from draft s) (contents_words (counts_of draft s) (offsets draft s)) (sections_words draft s (offsets draft s))
    (ap (λ n. 5 + n) (sym (length_contents (counts_of draft s) (offsets draft s)))) (behind_header draft s)

pub stand_domains : (draft : Layout) (s : List (List ℕ)) → Stands (image_with_strings draft s) (domains_from draft s) (domain_section (offsets draft s) s draft.indoms)
unfolding sections_words
stand_domains draft s = stands_left (image_with_strings draft s) (domains_from draft s) (domain_section (offsets draft s) s draft.indoms) _ (from_domains draft s)

from_instances : (draft : Layout) (s : List (List ℕ)) → Stands (image_with_strings draft s) (instances_from draft s) (instance_section (offsets draft s) s draft.indoms ++ (metric_section (offsets draft s) s draft.metrics ++ (value_section (offsets draft s) s draft.indoms draft.metrics draft.values ++ string_section s)))
unfolding sections_words
from_instances draft s =
    stands_right (image_with_strings draft s) (domains_from draft s) (instances_from draft s) (domain_section (offsets draft s) s draft.indoms) _
    (ap (λ n. domains_from draft s + n) (sym (length_domains (offsets draft s) s draft.indoms))) (from_domains draft s)

pub stand_instances : (draft : Layout) (s : List (List ℕ)) → Stands (image_with_strings draft s) (instances_from draft s) (instance_section (offsets draft s) s draft.indoms)
stand_instances draft s = stands_left (image_with_strings draft s) (instances_from draft s) (instance_section (offsets draft s) s draft.indoms) _ (from_instances draft s)

from_metrics : (draft : Layout) (s : List (List ℕ)) → Stands (image_with_strings draft s) (metrics_from draft s) (metric_section (offsets draft s) s draft.metrics ++ (value_section (offsets draft s) s draft.indoms draft.metrics draft.values ++ string_section s))
from_metrics draft s =
    stands_right (image_with_strings draft s) (instances_from draft s) (metrics_from draft s) (instance_section (offsets draft s) s draft.indoms) _
    (ap (λ n. instances_from draft s + n) (sym (length_instances (offsets draft s) s draft.indoms))) (from_instances draft s)

pub stand_metrics : (draft : Layout) (s : List (List ℕ)) → Stands (image_with_strings draft s) (metrics_from draft s) (metric_section (offsets draft s) s draft.metrics)
stand_metrics draft s = stands_left (image_with_strings draft s) (metrics_from draft s) (metric_section (offsets draft s) s draft.metrics) _ (from_metrics draft s)

from_values : (draft : Layout) (s : List (List ℕ)) → Stands (image_with_strings draft s) (values_from draft s) (value_section (offsets draft s) s draft.indoms draft.metrics draft.values ++ string_section s)
from_values draft s =
    stands_right (image_with_strings draft s) (metrics_from draft s) (values_from draft s) (metric_section (offsets draft s) s draft.metrics) _
    (ap (λ n. metrics_from draft s + n) (sym (length_metrics (offsets draft s) s draft.metrics))) (from_metrics draft s)

pub stand_values : (draft : Layout) (s : List (List ℕ)) → Stands (image_with_strings draft s) (values_from draft s) (value_section (offsets draft s) s draft.indoms draft.metrics draft.values)
stand_values draft s = stands_left (image_with_strings draft s) (values_from draft s) (value_section (offsets draft s) s draft.indoms draft.metrics draft.values) (string_section s) (from_values draft s)

pub stand_strings : (draft : Layout) (s : List (List ℕ)) → Stands (image_with_strings draft s) (strings_from draft s) (string_section s)
stand_strings draft s =
    stands_right (image_with_strings draft s) (values_from draft s) (strings_from draft s) (value_section (offsets draft s) s draft.indoms draft.metrics draft.values) (string_section s)
    (ap (λ n. values_from draft s + n) (sym (length_values (offsets draft s) s draft.indoms draft.metrics draft.values))) (from_values draft s)

-- The contents

abbrev pub entry : ℕ → ℕ → ℕ → Entry
entry t n p = record { type = t; count = n; offset = p }

abbrev pub entries : Counts → SectionOffsets → List Entry
entries c p =
    kept (entry 1 c.indoms p.indoms) ++ (kept (entry 2 c.instances p.instances) ++ (kept (entry 3 c.metrics p.metrics)
    ++ (kept (entry 4 c.values p.values) ++ (kept (entry 5 c.strings p.strings) ++ []))))

kept_words : (t n p : ℕ) → entry_words t n p ≡ flat_map words_of_entry (kept (entry t n p))
kept_words t n p = here (nat_eq n 0)
  where
    here : (b : Bool) → cond b [] (halves t n ∷ p ∷ []) ≡ flat_map words_of_entry (cond b [] (entry t n p ∷ []))
    here true = refl
    here false = refl

one_more : (t n p : ℕ) (words : List ℕ) (es : List Entry) → words ≡ flat_map words_of_entry es → entry_words t n p ++ words ≡ flat_map words_of_entry (kept (entry t n p) ++ es)
one_more t n p words es h = ap₂ (λ a b. a ++ b) (kept_words t n p) h ∙ sym (flat_map-append words_of_entry (kept (entry t n p)) es)

contents_are : (c : Counts) (p : SectionOffsets) → contents_words c p ≡ flat_map words_of_entry (entries c p)
unfolding contents_words
contents_are c p =
    one_more 1 c.indoms p.indoms _ _ (one_more 2 c.instances p.instances _ _ (one_more 3 c.metrics p.metrics _ _ (one_more 4 c.values p.values _ _
    (kept_words 5 c.strings p.strings ∙ ap (flat_map words_of_entry) (sym (append-nil (kept (entry 5 c.strings p.strings))))))))

kept_count : (t n p : ℕ) (es : List Entry) → length (kept (entry t n p) ++ es) ≡ one_if_some n + length es
kept_count t n p es = here (nat_eq n 0)
  where
    here : (b : Bool) → length (cond b [] (entry t n p ∷ []) ++ es) ≡ cond b 0 1 + length es
    here true = omega arith
    here false = omega arith

pub entries_count : (c : Counts) (p : SectionOffsets) → length (entries c p) ≡ sections_in c
unfolding sections_in
entries_count c p =
    kept_count 1 c.indoms p.indoms _ ∙ ap (λ n. one_if_some c.indoms + n) (kept_count 2 c.instances p.instances _ ∙ ap (λ n. one_if_some c.instances + n) (kept_count 3 c.metrics p.metrics _
    ∙ ap (λ n. one_if_some c.metrics + n) (kept_count 4 c.values p.values _ ∙ ap (λ n. one_if_some c.values + n) (kept_count 5 c.strings p.strings []))))
    ∙ spread (one_if_some c.indoms) (one_if_some c.instances) (one_if_some c.metrics) (one_if_some c.values) (one_if_some c.strings)
  where
    spread : (a b c d e : ℕ) → a + (b + (c + (d + (e + 0)))) ≡ a + b + c + d + e
    spread a b c d e = omega arith

pub entries_laid : (c : Counts) → words_in c ≤ 65536 → Laid c.version 1 (section_offsets c).indoms (8 * words_in c) (entries c (section_offsets c))
unfolding section_bytes
entries_laid c few =
    let i : instance_size c.version * c.instances ≡ 8 * (instance_length c.version * c.instances) = instance_wide c.version c.instances in
    let m : metric_size c.version * c.metrics ≡ 8 * (metric_length c.version * c.metrics) = metric_wide c.version c.metrics in
    let some_i : c.instances ≤ instance_length c.version * c.instances = instances_fit c.version c.instances in
    let some_m : c.metrics ≤ metric_length c.version * c.metrics = metrics_fit c.version c.metrics in
    laid_kept c.version 1 (section_offsets c).indoms (section_offsets c).instances (8 * words_in c) c.indoms _ (omega arith) (omega arith) (omega arith) refl
    (laid_kept c.version 2 (section_offsets c).instances (section_offsets c).metrics (8 * words_in c) c.instances _ (omega arith) (omega arith) (omega arith) refl
    (laid_kept c.version 3 (section_offsets c).metrics (section_offsets c).values (8 * words_in c) c.metrics _ (omega arith) (omega arith) (omega arith) refl
    (laid_kept c.version 4 (section_offsets c).values (section_offsets c).strings (8 * words_in c) c.values _ (omega arith) (omega arith) (omega arith) refl
    (laid_kept c.version 5 (section_offsets c).strings ((section_offsets c).strings + string_size * c.strings) (8 * words_in c) c.strings [] (omega arith) (omega arith) (omega arith) refl (omega arith)))))

contents_stand : (draft : Layout) (s : List (List ℕ)) → Stands (image_with_strings draft s) 5 (flat_map words_of_entry (entries (counts_of draft s) (offsets draft s)))
contents_stand draft s = subst (λ part. Stands (image_with_strings draft s) 5 part) (contents_are (counts_of draft s) (offsets draft s)) (stand_contents draft s)

entry_is : (draft : Layout) (s : List (List ℕ)) → Fits draft s → (i : ℕ) (e : Entry) → slice_get (entries (counts_of draft s) (offsets draft s)) i ≡ Some e → IsEntry 1 (offsets draft s).indoms e
entry_is draft s fit i e at = (laid_at draft.version 1 (offsets draft s).indoms (8 * words_in (counts_of draft s)) (entries (counts_of draft s) (offsets draft s)) i e (entries_laid (counts_of draft s) fit.few) at).0

-- the version, which says how long entries are
pub version_read : (draft : Layout) (s : List (List ℕ)) → Fits draft s → version_in (image_with_strings draft s) ≡ draft.version
unfolding header_words
version_read draft s fit =
    high_read (image_with_strings draft s) 0 0 4 (header_words draft (sections_in (counts_of draft s))) 5655885 draft.version (stand_header draft s) (omega arith) refl refl (omega arith) (version_fits draft.version fit.version)

pub entries_read : (draft : Layout) (s : List (List ℕ)) → Fits draft s → Reads draft.version (image_with_strings draft s) (entries (counts_of draft s) (offsets draft s))
unfolding header_words
entries_read draft s fit =
    let words : List ℕ = image_with_strings draft s in
    let es : List Entry = entries (counts_of draft s) (offsets draft s) in
    let most : sections_in (counts_of draft s) ≤ 5 = sections_most (counts_of draft s) in
    let stand : (i : ℕ) (e : Entry) → slice_get es i ≡ Some e → Stands words (5 + 2 * i) (words_of_entry e) = λ i e at. stands_entry words words_of_entry 2 (λ x. refl) es 5 (5 + 2 * i) i e (contents_stand draft s) at refl in
    record {
      edition = version_read draft s fit;
      count = low_read words 0 3 24 (header_words draft (sections_in (counts_of draft s))) (sections_in (counts_of draft s)) draft.flags (stand_header draft s) (omega arith) refl refl (omega arith) ∙ sym (entries_count (counts_of draft s) (offsets draft s));
      type = λ i e at. low_read words (5 + 2 * i) 0 (40 + 16 * i) (words_of_entry e) e.type e.count (stand i e at) (omega arith) (omega arith) refl
          (let h : e.type ≤ 5 = (entry_is draft s fit i e at).last in omega arith);
      number = λ i e at. high_read words (5 + 2 * i) 0 (44 + 16 * i) (words_of_entry e) e.type e.count (stand i e at) (omega arith) (omega arith) refl
          (let h : e.type ≤ 5 = (entry_is draft s fit i e at).last in omega arith) (entry_is draft s fit i e at).few;
      offset = λ i e at. word_read words (5 + 2 * i) 1 (48 + 16 * i) (words_of_entry e) (stand i e at) (omega arith) (omega arith);
    }

pub spelt_sections : (draft : Layout) (s : List (List ℕ)) → Fits draft s → sections_are_good (image_with_strings draft s) ≡ true
spelt_sections draft s fit =
    good_sections draft.version (image_with_strings draft s) (entries (counts_of draft s) (offsets draft s)) (offsets draft s).indoms (8 * words_in (counts_of draft s)) (entries_read draft s fit) (entries_laid (counts_of draft s) fit.few)
    (let n : length (entries (counts_of draft s) (offsets draft s)) ≡ sections_in (counts_of draft s) = entries_count (counts_of draft s) (offsets draft s) in omega arith)
    (let n : length (image_with_strings draft s) ≡ words_in (counts_of draft s) = length_spelled draft s in omega arith)

pub spelt_aligned : (draft : Layout) (s : List (List ℕ)) → Fits draft s → sections_are_aligned (image_with_strings draft s) ≡ true
spelt_aligned draft s fit = aligned_sections draft.version (image_with_strings draft s) (entries (counts_of draft s) (offsets draft s)) (offsets draft s).indoms (8 * words_in (counts_of draft s)) (entries_read draft s fit) (entries_laid (counts_of draft s) fit.few)

-- a section of so many entries, at an offset if there are any
pub record Finds (section : Section) (n p : ℕ) : Type 0 where
  pub count : section.count ≡ n
  pub offset : 0 < n → section.offset ≡ p

finds : (n p : ℕ) (section : Section) → section ≡ cond (nat_eq n 0) (record { offset = 0; count = 0 }) (record { offset = p; count = n }) → Finds section n p
finds n p section h = here (nat_eq n 0) refl h
  where
    here : (b : Bool) → nat_eq n 0 ≡ b → section ≡ cond b (record { offset = 0; count = 0 }) (record { offset = p; count = n }) → Finds section n p
    here true z e = record { count = ap (λ x. x.count) e ∙ sym (eqb-true n 0 z); offset = λ some. let none : n ≡ 0 = eqb-true n 0 z in absurd (omega arith) }
    here false z e = record { count = ap (λ x. x.count) e; offset = λ some. ap (λ x. x.offset) e }

found_section : (draft : Layout) (s : List (List ℕ)) (t : ℕ) → Fits draft s → section_of (image_with_strings draft s) t ≡ pick t (entries (counts_of draft s) (offsets draft s))
found_section draft s t fit = section_is draft.version (image_with_strings draft s) (entries (counts_of draft s) (offsets draft s)) (offsets draft s).indoms (8 * words_in (counts_of draft s)) t (entries_read draft s fit) (entries_laid (counts_of draft s) fit.few)

pub find_indoms : (draft : Layout) (s : List (List ℕ)) → Fits draft s → Finds (section_of (image_with_strings draft s) 1) (counts_of draft s).indoms (offsets draft s).indoms
find_indoms draft s fit =
    let c : Counts = counts_of draft s in
    let p : SectionOffsets = offsets draft s in
    finds c.indoms p.indoms (section_of (image_with_strings draft s) 1) (found_section draft s 1 fit ∙ pick_hit 1 (entry 1 c.indoms p.indoms) _ refl ∙ ap (λ r. cond (nat_eq c.indoms 0) r (record { offset = p.indoms; count = c.indoms })) (pick_skip 1 (entry 2 c.instances p.instances) _ refl ∙ pick_skip 1 (entry 3 c.metrics p.metrics) _ refl ∙ pick_skip 1 (entry 4 c.values p.values) _ refl ∙ pick_skip 1 (entry 5 c.strings p.strings) _ refl))

pub find_instances : (draft : Layout) (s : List (List ℕ)) → Fits draft s → Finds (section_of (image_with_strings draft s) 2) (counts_of draft s).instances (offsets draft s).instances
find_instances draft s fit =
    let c : Counts = counts_of draft s in
    let p : SectionOffsets = offsets draft s in
    finds c.instances p.instances (section_of (image_with_strings draft s) 2) (found_section draft s 2 fit ∙ pick_skip 2 (entry 1 c.indoms p.indoms) _ refl ∙ pick_hit 2 (entry 2 c.instances p.instances) _ refl ∙ ap (λ r. cond (nat_eq c.instances 0) r (record { offset = p.instances; count = c.instances })) (pick_skip 2 (entry 3 c.metrics p.metrics) _ refl ∙ pick_skip 2 (entry 4 c.values p.values) _ refl ∙ pick_skip 2 (entry 5 c.strings p.strings) _ refl))

pub find_metrics : (draft : Layout) (s : List (List ℕ)) → Fits draft s → Finds (section_of (image_with_strings draft s) 3) (counts_of draft s).metrics (offsets draft s).metrics
find_metrics draft s fit =
    let c : Counts = counts_of draft s in
    let p : SectionOffsets = offsets draft s in
    finds c.metrics p.metrics (section_of (image_with_strings draft s) 3) (found_section draft s 3 fit ∙ pick_skip 3 (entry 1 c.indoms p.indoms) _ refl ∙ pick_skip 3 (entry 2 c.instances p.instances) _ refl ∙ pick_hit 3 (entry 3 c.metrics p.metrics) _ refl ∙ ap (λ r. cond (nat_eq c.metrics 0) r (record { offset = p.metrics; count = c.metrics })) (pick_skip 3 (entry 4 c.values p.values) _ refl ∙ pick_skip 3 (entry 5 c.strings p.strings) _ refl))

pub find_values : (draft : Layout) (s : List (List ℕ)) → Fits draft s → Finds (section_of (image_with_strings draft s) 4) (counts_of draft s).values (offsets draft s).values
find_values draft s fit =
    let c : Counts = counts_of draft s in
    let p : SectionOffsets = offsets draft s in
    finds c.values p.values (section_of (image_with_strings draft s) 4) (found_section draft s 4 fit ∙ pick_skip 4 (entry 1 c.indoms p.indoms) _ refl ∙ pick_skip 4 (entry 2 c.instances p.instances) _ refl ∙ pick_skip 4 (entry 3 c.metrics p.metrics) _ refl ∙ pick_hit 4 (entry 4 c.values p.values) _ refl ∙ ap (λ r. cond (nat_eq c.values 0) r (record { offset = p.values; count = c.values })) (pick_skip 4 (entry 5 c.strings p.strings) _ refl))

pub find_strings : (draft : Layout) (s : List (List ℕ)) → Fits draft s → Finds (section_of (image_with_strings draft s) 5) (counts_of draft s).strings (offsets draft s).strings
find_strings draft s fit =
    let c : Counts = counts_of draft s in
    let p : SectionOffsets = offsets draft s in
    finds c.strings p.strings (section_of (image_with_strings draft s) 5) (found_section draft s 5 fit ∙ pick_skip 5 (entry 1 c.indoms p.indoms) _ refl ∙ pick_skip 5 (entry 2 c.instances p.instances) _ refl ∙ pick_skip 5 (entry 3 c.metrics p.metrics) _ refl ∙ pick_skip 5 (entry 4 c.values p.values) _ refl ∙ pick_hit 5 (entry 5 c.strings p.strings) _ refl)
