-- The bytes of words make these words again.
use Rattle.std.proofs.Common.{◌≡◌, ℕ, ◌*◌, ◌/◌, ◌^◌, ◌<◌, ◌≤◌, List, [], ◌∷◌, length, ap, ap₂, sym, ◌∙◌, refl, arith, Ok, Err, true, false, Option, None, Some, if◌then◌else◌}
use Rattle.std.specs.Prelude.{is_none, nat_lt}
use Rattle.std.specs.List.{AllByRecursion}
use Rattle.std.proofs.lemmas.List.Elements.{recursion_from_All}
use Rattle.std.proofs.lemmas.Nat.{from_le_bytes-to_le_bytes_8}
use Rattle.mmv_layout.specs.declared.fault.ImageFault.{ImageFault}
use Rattle.mmv_layout.specs.declared.fault.ImageFault.TheVariants.{Short}
use Rattle.mmv_layout.specs.Fields.{first_words, words_of}
use Rattle.mmv_layout.specs.Faults.{image_of, image_in, image_fault, unless_fault}
use Rattle.mmv_layout.specs.Contents.{is_short}
use Rattle.mmv_layout.proofs.Images.{images_same, at_least_five, short_words}
use Rattle.pm_print.specs.Bytes.{bytes_of}
use Rattle.pm_print.specs.Laws.{BytesAreTheImage}

again : (words : List ℕ) → AllByRecursion (λ word. word < 2 ^ 64) words → first_words (length words) (bytes_of words) ≡ words
unfolding first_words bytes_of
again [] h = refl
again (word ∷ words) h = ap₂ (λ w ws. w ∷ ws) (from_le_bytes-to_le_bytes_8 word h.0) (again words h.1)

long : (words : List ℕ) → length (bytes_of words) ≡ 8 * length words
unfolding bytes_of
long [] = refl
long (word ∷ words) = let l : length (bytes_of words) ≡ 8 * length words = long words in omega arith

no_fault : (words : List ℕ) (found : Option ImageFault) → is_none found ≡ true → unless_fault words found ≡ Ok words
no_fault words None h = refl
no_fault words (Some fault) h = cc

not_short : (n : ℕ) → 5 ≤ n → nat_lt n 5 ≡ false
not_short n h = grind (arith, h)

pub bytes_are : BytesAreTheImage
unfolding image_of image_in words_of
bytes_are words image fits =
    let l : length (bytes_of words) ≡ 8 * length words = long words in
    let whole : is_short (length (bytes_of words)) ≡ false = ap is_short l ∙ short_words words ∙ not_short (length words) (at_least_five words image) in
    let count : length (bytes_of words) / 8 ≡ length words = omega (arith, l) in
    let same : first_words (length (bytes_of words) / 8) (bytes_of words) ≡ words =
    ap (λ n. first_words n (bytes_of words)) count ∙ again words (recursion_from_All (λ word. word < 2 ^ 64) words fits) in
    ap (λ b. if b then Err (Short (length (bytes_of words))) else image_in (first_words (length (bytes_of words) / 8) (bytes_of words))) whole
    ∙ ap image_in same ∙ no_fault words (image_fault words) (sym (images_same words) ∙ image)
