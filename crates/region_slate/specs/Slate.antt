-- A toy layout, by which the laws of a shape are seen to be possible. Word 0 says how many counters there are, words 1 and 2 are the
-- generation, the counters follow, and behind them one text word holds the offset of one of two strings.
use Rattle.std.specs.Prelude.{◌≡◌, ℕ, ◌+◌, ◌<◌, ◌≤◌, ◌⊎◌, List, length, slice_index}
use Rattle.region_core.specs.Shape.{Shaping}

-- the offset of one of the two strings
abbrev pub IsText : ℕ → Type 0
IsText v = (v ≡ 64) ⊎ (v ≡ 128)

-- the words are a slate
pub record IsSlate (words : List ℕ) : Type 0 where
  pub room : slice_index words 0 + 4 ≤ length words
  pub same : slice_index words 1 ≡ slice_index words 2
  pub text : IsText (slice_index words (slice_index words 0 + 3))

-- a counter takes every number, and the text word the offset of a string
abbrev pub SlateTakes : ℕ → ℕ → ℕ → Type 0
SlateTakes counters w v = ((2 < w) × (w < counters + 3)) ⊎ ((w ≡ counters + 3) × IsText v)

-- the layout
abbrev pub slate : Shaping
slate = record { Form = ℕ; IsImage = IsSlate; form = λ words. slice_index words 0; Takes = SlateTakes }
