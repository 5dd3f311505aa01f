-- What a kind of layout has to say of its images, and the laws that it keeps. Words are numbers from 0 to 2^64 - 1.
use Rattle.std.specs.Prelude.{◌≡◌, ℕ, ◌^◌, ◌<◌, ◌≤◌, List, ◌++◌, length, All, slice_index, slice_set}

-- the number fits a word
abbrev pub IsWord : ℕ → Type 0
IsWord n = n < 2 ^ 64

-- Which word lists are images, which form an image has, and which values a word takes under a form. A word that takes none is no value word
pub record Shaping : Type 1 where
  pub Form : Type 0
  pub IsImage : List ℕ → Type 0
  pub form : List ℕ → Form
  pub Takes : Form → ℕ → ℕ → Type 0

-- the words with both generations replaced by one number
abbrev pub with_generation : List ℕ → ℕ → List ℕ
with_generation words n = slice_set (slice_set words 1 n) 2 n

module _ (S : Shaping) where
  -- the other words are an image of the same form
  pub record IsLike (words others : List ℕ) : Type 0 where
    pub image : S.IsImage others
    pub form : S.form others ≡ S.form words

  -- The laws of a shape: words 1 and 2 of an image are there and equal, and no value words; another allowed value, further words
  -- up to 65,536 in all, and another generation leave an image of the same form
  pub record IsShape : Type 0 where
    pub generations : (words : List ℕ) → S.IsImage words → (2 < length words) × (slice_index words 1 ≡ slice_index words 2)
    pub fixed : (words : List ℕ) (v : ℕ) → S.IsImage words → (S.Takes (S.form words) 1 v → ⊥) × (S.Takes (S.form words) 2 v → ⊥)
    pub value : (words : List ℕ) (w v : ℕ) → S.IsImage words → IsWord v → S.Takes (S.form words) w v → IsLike words (slice_set words w v)
    pub longer : (words more : List ℕ) → S.IsImage words → All IsWord more → length (words ++ more) ≤ 65536 → IsLike words (words ++ more)
    pub renumbered : (words : List ℕ) (n : ℕ) → S.IsImage words → IsWord n → IsLike words (with_generation words n)
