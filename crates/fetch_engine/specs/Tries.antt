-- Tries of reading a region by what is kept of it: nothing, or the words of the image that was read last.
use Rattle.std.specs.Prelude.{◌≡◌, ◌≢◌, ◌⊎◌, ℕ, zero, suc, ◌<◌, List, [], ◌∷◌, ◌++◌, fold, map, length, slice_index, slice_set, Option, Some, None}
use Rattle.std.specs.List.{zip}
use Rattle.mmv_layout.specs.declared.rows.Layout.{Layout}
use Rattle.mmv_layout.specs.Rows.{layout_of}
use Rattle.region_core.specs.declared.act.Act.TheVariants.{Load}
use Rattle.region_core.specs.declared.act.Entry.{Entry}
use Rattle.region_rule.specs.declared.view.View.{View}
use Rattle.region_rule.specs.Steps.{Extends, entry}
use Rattle.region_rule.specs.Views.{IsFront}
use Rattle.region_rule.specs.Reads.{WholeReading, numbered_from}
use Rattle.region_words.specs.Images.{mmv}
use Rattle.fetch_answers.specs.Numbers.{value_words}

-- words into which values were written, one after another
abbrev pub with_values : List ℕ → List (ℕ × ℕ) → List ℕ
with_values words pairs = fold (λ ws x. slice_set ws x.0 x.1) words pairs

-- every word was loaded by rising index, between a load of generation 2 and one of generation 1
pub record LoadsImage (v : View) (first last : ℕ) (words : List ℕ) (w : View) : Type 0 where
  pub whole : length words ≡ length v.start
  pub loads : WholeReading mmv v first (numbered_from 0 words) last w

-- the generation of the kept words was found, and their value words alone were loaded, in the order of the values; the words
-- that follow are those that are kept, with these values
pub record LoadsValues (kept : List ℕ) (v : View) (first last : ℕ) (words : List ℕ) (w : View) : Type 0 where
  pub values : List ℕ
  pub long : length values ≡ length (value_words kept)
  pub first_is : first ≡ slice_index kept 1
  pub loads : WholeReading mmv v first (zip (value_words kept) values) last w
  pub words_are : words ≡ with_values kept (zip (value_words kept) values)

-- a load of generation 2 found another one than that of the kept words, and then every word was loaded
pub record LoadsAnew (kept : List ℕ) (v : View) (first last : ℕ) (words : List ℕ) (w : View) : Type 0 where
  pub found : ℕ
  pub other : found ≢ slice_index kept 1
  pub begun : View
  pub lone : Extends mmv v (Load 2) found begun
  pub image : LoadsImage begun first last words w

-- a try by what is kept: the numbers that it found first and last, and the words that follow from its loads
abbrev pub IsTry : Option (List ℕ) → View → ℕ → ℕ → List ℕ → View → Type 0
IsTry None v first last words w = LoadsImage v first last words w
IsTry (Some kept) v first last words w = LoadsValues kept v first last words w ⊎ LoadsAnew kept v first last words w

-- a try that was refused: the two numbers differ
pub record RefusesBy (kept : Option (List ℕ)) (v w : View) : Type 0 where
  pub first : ℕ
  pub last : ℕ
  pub words : List ℕ
  pub differ : first ≢ last
  pub tried : IsTry kept v first last words w

-- a try that found one number twice, and these words
pub record ShowsBy (kept : Option (List ℕ)) (v : View) (words : List ℕ) (w : View) : Type 0 where
  pub generation : ℕ
  pub tried : IsTry kept v generation generation words w

-- so many tries one behind another, each refused
abbrev pub AreRefusedBy : Option (List ℕ) → ℕ → View → View → Type 0
AreRefusedBy kept zero v w = w ≡ v
AreRefusedBy kept (suc tries) v w = (u : View) × RefusesBy kept v u × AreRefusedBy kept tries u w

-- A region was read by what was kept of it, in one of three tries, and the words that it showed are kept then; or it was missed
-- in all three, and what was kept is kept still
abbrev pub ReadsKeeping : Option (List ℕ) → View → Option Layout → Option (List ℕ) → View → Type 0
ReadsKeeping before v None after w = AreRefusedBy before 3 v w × (after ≡ before)
ReadsKeeping before v (Some layout) after w =
    (tries : ℕ) × (tries < 3) × (u : View) × AreRefusedBy before tries v u × (words : List ℕ) × ShowsBy before u words w × (layout ≡ layout_of words) × (after ≡ Some words)

-- loads of these words by one pass, in order
abbrev pub loads_of : ℕ → List ℕ → List Entry
loads_of k words = map (λ (word : ℕ). entry k (Load word)) words

-- nothing, or a load of generation 2 first
abbrev pub BeginsAgain : ℕ → List Entry → Type 0
BeginsAgain k [] = Unit {0}
BeginsAgain k (e ∷ es) = e ≡ entry k (Load 2)

-- Where the first load of generation 2 of a reading finds the generation that is kept, the pass's own entries up to the next
-- such load, or to the end of the reading, are that load, loads of the value words of what is kept, and a load of generation 1
abbrev pub HitsLoadValues : Type 0
HitsLoadValues =
    (kept : List ℕ) (v u w : View) (layout : Option Layout) (after : Option (List ℕ)) → ReadsKeeping (Some kept) v layout after w → Extends mmv v (Load 2) (slice_index kept 1) u → IsFront u.seen w.seen
    → (more : List Entry) × (w.own ≡ v.own ++ (entry v.number (Load 2) ∷ loads_of v.number (value_words kept) ++ entry v.number (Load 1) ∷ more)) × BeginsAgain v.number more
