-- The spelling of a draft is an image.
use Rattle.std.proofs.Common.{◌≡◌, ℕ, ◌*◌, ◌%◌, ◌<◌, ◌≤◌, true, false, not, ◌&&◌, List, length, ap, ap₂, sym, ◌∙◌, refl, arith, nat_eq, nat_le}
use Rattle.std.proofs.lemmas.Bool.{eq-eqb}
use Rattle.std.proofs.lemmas.Bool.Decides.{nat_tests}
use Rattle.std.proofs.Math.Nat.{mul-mod_right}
use Rattle.mmv_layout.specs.Fields.{number32, number64}
use Rattle.mmv_layout.specs.Sizes.{is_version}
use Rattle.mmv_layout.specs.Images.{is_cluster, has_good_header, is_image}
use Rattle.std.specs.Prelude.{Option, Some, None, is_none, Ok}
use Rattle.mmv_layout.specs.Faults.{image_fault, unless_fault, image_in}
use Rattle.mmv_layout.proofs.Images.{images_same}
use Rattle.mmv_layout.specs.declared.rows.Layout.{Layout}
use Rattle.mmv_writer.specs.Draft.{Each, IsString, IsDraft}
use Rattle.mmv_writer.specs.Offsets.{counts_of, sections_in, words_in}
use Rattle.mmv_writer.specs.Spelling.{header_words, image_with_strings, all_strings, image_words}
use Rattle.mmv_writer.specs.Laws.{DraftsAreImages}
use Rattle.mmv_writer.proofs.Lengths.{length_spelled}
use Rattle.mmv_writer.proofs.Standing.{low_read, high_read, word_read}
use Rattle.mmv_writer.proofs.Spelt.{Fits, version_read, stand_header, spelt_sections, spelt_aligned}
use Rattle.mmv_writer.proofs.DomainTests.{good_indoms, good_instances}
use Rattle.mmv_writer.proofs.MetricTests.{good_metrics, good_strings}
use Rattle.mmv_writer.proofs.ValueTests.{good_values}
use Rattle.mmv_writer.proofs.Wanted.{domain_helps, instance_names, metric_names, metric_helps, value_texts, strings_short}

long_enough : (n : ℕ) → 5 ≤ n → not (nat_le 40 (8 * n) && nat_eq (8 * n % 8) 0) ≡ false
long_enough n h = ap not (ap₂ (λ a b. a && b) (at_least (8 * n) (omega arith)) (eq-eqb (8 * n % 8) 0 (mul-mod_right 8 n)))
  where
    at_least : (m : ℕ) → 40 ≤ m → nat_le 40 m ≡ true
    at_least m h = grind (arith, nat_tests)

at_most : (n m : ℕ) → n ≤ m → nat_le n m ≡ true
at_most n m h = grind (arith, nat_tests)

good_header : (draft : Layout) (s : List (List ℕ)) → Fits draft s → IsDraft draft → has_good_header (image_with_strings draft s) ≡ true
unfolding has_good_header header_words
good_header draft s fit d =
    let words : List ℕ = image_with_strings draft s in
    let long : length (image_with_strings draft s) ≡ words_in (counts_of draft s) = length_spelled draft s in
    let process : draft.pid < 4294967296 = d.process in
    let cluster : draft.cluster ≤ 4095 = d.cluster in
    let magic : number32 words 0 ≡ 5655885 = low_read words 0 0 0 (header_words draft (sections_in (counts_of draft s))) 5655885 draft.version (stand_header draft s) (omega arith) refl refl (omega arith) in
    let edition : number32 words 4 ≡ draft.version = version_read draft s fit in
    let first : number64 words 8 ≡ draft.generation = word_read words 0 1 8 (header_words draft (sections_in (counts_of draft s))) (stand_header draft s) (omega arith) refl in
    let second : number64 words 16 ≡ draft.generation = word_read words 0 2 16 (header_words draft (sections_in (counts_of draft s))) (stand_header draft s) (omega arith) refl in
    let group : number32 words 36 ≡ draft.cluster = high_read words 0 4 36 (header_words draft (sections_in (counts_of draft s))) draft.pid draft.cluster (stand_header draft s) (omega arith) refl refl process (omega arith) in
    ap₂ (λ a b. a && b) (ap₂ (λ a b. a && b) (ap₂ (λ a b. a && b) (ap₂ (λ a b. a && b) (ap₂ (λ a b. a && b)
    (ap not (long_enough (length words) (omega arith)))
    (ap (λ b. not (not b)) (at_most (length words) 65536 (omega arith))))
    (eq-eqb (number32 words 0) 5655885 magic))
    (ap is_version edition ∙ d.version))
    (eq-eqb (number64 words 8) (number64 words 16) (first ∙ sym second)))
    (ap is_cluster group ∙ at_most draft.cluster 4095 cluster)

pub spelled_image : (draft : Layout) → IsDraft draft → words_in (counts_of draft (all_strings draft)) ≤ 65536 → is_image (image_with_strings draft (all_strings draft)) ≡ true
unfolding is_image
spelled_image draft d few =
    let fit : Fits draft (all_strings draft) = record { version = d.version; few = few } in
    let strings : Each IsString (all_strings draft) = strings_short draft d in
    ap₂ (λ a b. a && b) (ap₂ (λ a b. a && b) (ap₂ (λ a b. a && b) (ap₂ (λ a b. a && b) (ap₂ (λ a b. a && b) (ap₂ (λ a b. a && b) (ap₂ (λ a b. a && b)
    (good_header draft (all_strings draft) fit d) (spelt_sections draft (all_strings draft) fit)) (spelt_aligned draft (all_strings draft) fit))
    (good_indoms draft (all_strings draft) fit d (domain_helps draft))) (good_instances draft (all_strings draft) fit d strings (instance_names draft)))
    (good_metrics draft (all_strings draft) fit d strings (metric_names draft) (metric_helps draft))) (good_values draft (all_strings draft) fit d (value_texts draft)))
    (good_strings draft (all_strings draft) fit strings)

pub drafts_are_images : DraftsAreImages
unfolding image_words
drafts_are_images draft d few =
    let long : length (image_with_strings draft (all_strings draft)) ≡ words_in (counts_of draft (all_strings draft)) = length_spelled draft (all_strings draft) in
    spelled_image draft d (omega arith)

none_of : {A : Type 0} (found : Option A) → is_none found ≡ true → found ≡ None
none_of None h = refl
none_of (Some a) h = cc

-- an image is read as one
pub image_parses : (words : List ℕ) → is_image words ≡ true → image_in words ≡ Ok words
unfolding image_in
image_parses words h = ap (unless_fault words) (none_of (image_fault words) (sym (images_same words) ∙ h))

pub draft_parses : (draft : Layout) → IsDraft draft → length (image_words draft) ≤ 65536 → image_in (image_words draft) ≡ Ok (image_words draft)
draft_parses draft d few = image_parses (image_words draft) (drafts_are_images draft d few)
