-- Where the images of a script stand, by their names.
use Rattle.std.specs.Prelude.{◌≡◌, ℕ, ◌+◌, ◌<◌, ◌≤◌, List, [], ◌∷◌, ◌++◌, length, Option, bytes_eq}
use Rattle.std.specs.Global.{Vec}
use Rattle.std.specs.List.{position}
use Rattle.std.specs.Ordering.{nat_cmp}
use Rattle.std.specs.Cmp.Lexicographic.{slice_cmp}
use Rattle.std.specs.BTreeMap.{BTreeMap, get_by}
use Rattle.run_script.specs.declared.said.Said.{Said}

-- the first image of a name
abbrev pub image_named : List (List ℕ × List ℕ) → List ℕ → Option ℕ
image_named images name = position (λ image. bytes_eq image.0 name) images

-- what a map has for a name
abbrev pub place_in : BTreeMap (Vec ℕ) ℕ → List ℕ → Option ℕ
place_in names name = get_by (λ (key : Vec ℕ). slice_cmp nat_cmp name key.items) names

-- a map tells for each name the first image that has it
abbrev pub Tells : BTreeMap (Vec ℕ) ℕ → List (List ℕ × List ℕ) → Type 0
Tells names images = (name : List ℕ) → place_in names name ≡ image_named images name

-- a map that told so many images tells one more of this name behind them
abbrev pub TellsOneMore : BTreeMap (Vec ℕ) ℕ → BTreeMap (Vec ℕ) ℕ → List ℕ → ℕ → Type 0
TellsOneMore old new name at =
    (images : List (List ℕ × List ℕ)) (words : List ℕ) → length images ≡ at → Tells old images → Tells new (images ++ (name, words) ∷ [])

-- what holds of a map of names, and of what the lines before the one of this number say
pub record IsKept (names : BTreeMap (Vec ℕ) ℕ) (said : Said) (number : ℕ) : Type 0 where
  pub told : Tells names said.images
  pub images : length said.images < number
  pub regions : length said.regions ≤ 64

-- it holds behind a line too
abbrev pub Keeps : BTreeMap (Vec ℕ) ℕ → Said → BTreeMap (Vec ℕ) ℕ → Said → Type 0
Keeps names said later after = (number : ℕ) → IsKept names said number → IsKept later after (number + 1)

-- it holds behind a line that brings no image, with the same map
abbrev pub Stays : Said → Said → Type 0
Stays said after = (names : BTreeMap (Vec ℕ) ℕ) → Keeps names said names after
