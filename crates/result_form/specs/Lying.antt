-- Where the blocks lie to which the pairs of a payload lead: whole, behind the end of the sets.
use Rattle.std.specs.Prelude.{◌≡◌, ℕ, zero, suc, ◌+◌, ◌%◌, ◌≤◌, List, length, drop, false, ◌==◌}
use Rattle.pcp_model.specs.Payload.{offset_byte}
use Rattle.result_form.specs.Shown.{word_in, is_status, set_size}

-- the block to which an offset leads
abbrev pub BlockLies : List ℕ → ℕ → ℕ → Type 0
BlockLies payload end offset =
    (end ≤ offset_byte offset) × (4 ≤ word_in payload (offset_byte offset) % 16777216)
    × (offset_byte offset + word_in payload (offset_byte offset) % 16777216 ≤ length payload)

-- those of so many pairs
unfoldable pub PairsLie : List ℕ → ℕ → ℕ → List ℕ → Type 0
PairsLie payload end zero words = Unit {0}
PairsLie payload end (suc n) words = BlockLies payload end (word_in words 4) × PairsLie payload end n (drop 8 words)

-- those of a set, where its values stand in blocks
unfoldable pub SetLies : List ℕ → ℕ → List ℕ → Type 0
SetLies payload end words = is_status (word_in words 4) ≡ false → (word_in words 8 == 0) ≡ false → PairsLie payload end (word_in words 4) (drop 12 words)

-- those of so many sets
unfoldable pub SetsLie : List ℕ → ℕ → ℕ → List ℕ → Type 0
SetsLie payload end zero words = Unit {0}
SetsLie payload end (suc n) words = SetLies payload end words × SetsLie payload end n (drop (set_size words) words)
