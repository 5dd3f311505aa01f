-- The version of an image, and a version's place in a header.
use Rattle.std.proofs.Common.{◌≡◌, ℕ, ◌<◌, ◌⊎◌, true, List, arith}
use Rattle.std.proofs.lemmas.Bool.Decides.{nat_tests}
use Rattle.mmv_layout.specs.Sizes.{is_version}
use Rattle.mmv_layout.specs.Contents.{version_in}
use Rattle.mmv_layout.specs.Images.{has_good_header, is_image}
use Rattle.mmv_layout.proofs.Below.{both_left, both_right}
use Rattle.mmv_layout.proofs.Goods.{header}

pub version_fits : (version : ℕ) → is_version version ≡ true → version < 4294967296
version_fits version h = grind (arith, nat_tests)

pub one_or_two : (version : ℕ) → is_version version ≡ true → (version ≡ 1) ⊎ (version ≡ 2)
one_or_two version h = grind (arith, nat_tests)

version_of_header : (words : List ℕ) → has_good_header words ≡ true → is_version (version_in words) ≡ true
unfolding has_good_header
version_of_header words good = both_right _ _ (both_left _ _ (both_left _ _ good))

-- an image's version is 1 or 2
pub image_version : (words : List ℕ) → is_image words ≡ true → is_version (version_in words) ≡ true
image_version words h = version_of_header words (header words h)
