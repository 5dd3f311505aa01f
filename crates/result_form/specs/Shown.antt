-- What a view shows of a payload that was checked (pmFetch(3), LOGARCHIVE(5)): each number where its word stands. Nothing
-- is refused here, since a payload that was checked has all its words; a word that doesn't lie in the bytes is 0.
use Rattle.std.specs.Prelude.{ℕ, zero, suc, ℤ, ◌+◌, ◌*◌, List, [], ◌∷◌, drop, Option, Some, None, Bool, nat_le, ◌==◌, ◌||◌, if◌then◌else◌}
use Rattle.std.specs.Int.{w32, cast_signed}
use Rattle.pcp_base.specs.Fields.{be_field}
use Rattle.pcp_base.specs.Time.{Moment}
use Rattle.pcp_base.specs.Typed.{TypedBytes}
use Rattle.pcp_base.specs.declared.result.Body.{Body}
use Rattle.pcp_base.specs.declared.result.Body.TheVariants.{InPlace, Blocks, Status}
use Rattle.pcp_base.specs.declared.result.ValueSet.{ValueSet}
use Rattle.pcp_base.specs.declared.result.PmResult.{PmResult}
use Rattle.pcp_model.specs.Payload.{offset_byte}
use Rattle.result_form.specs.Decoding.{block_of_head}

abbrev pub or_zero : Option ℕ → ℕ
or_zero (Some n) = n
or_zero None = 0

-- the word at a byte
unfoldable pub word_in : List ℕ → ℕ → ℕ
word_in bytes at = or_zero (be_field w32 at bytes)

-- so many pairs of an instance and its value, each of two words
unfoldable pub shown_values : ℕ → List ℕ → List (ℤ × ℕ)
shown_values zero words = []
shown_values (suc n) words = (cast_signed w32 (word_in words 0), word_in words 4) ∷ shown_values n (drop 8 words)

-- the block to which an offset leads
unfoldable pub shown_block : List ℕ → ℕ → TypedBytes
shown_block payload offset = block_of_head payload (offset_byte offset) (word_in payload (offset_byte offset))

-- so many pairs of an instance and its block, each of two words, the second being the block's offset
unfoldable pub shown_blocks : List ℕ → ℕ → List ℕ → List (ℤ × TypedBytes)
shown_blocks payload zero words = []
shown_blocks payload (suc n) words = (cast_signed w32 (word_in words 0), shown_block payload (word_in words 4)) ∷ shown_blocks payload n (drop 8 words)

-- a number of values that is a status: 0 or below
abbrev pub is_status : ℕ → Bool
is_status n = n == 0 || nat_le 2147483648 n

-- what a set holds: behind its metric stands a status, or the number of its values, their storage mode and the pairs
unfoldable pub shown_body : List ℕ → List ℕ → Body
shown_body payload words =
    if is_status (word_in words 4) then Status (cast_signed w32 (word_in words 4)) else
    if word_in words 8 == 0 then InPlace (shown_values (word_in words 4) (drop 12 words)) else Blocks (shown_blocks payload (word_in words 4) (drop 12 words))

abbrev pub shown_set : List ℕ → List ℕ → ValueSet
shown_set payload words = record { pmid = word_in words 0; body = shown_body payload words }

-- how many bytes a set's words take
unfoldable pub set_size : List ℕ → ℕ
set_size words =
    if is_status (word_in words 4) then 8 else 12 + 8 * word_in words 4

-- so many sets, one behind another
unfoldable pub shown_sets : List ℕ → ℕ → List ℕ → List ValueSet
shown_sets payload zero words = []
shown_sets payload (suc n) words = shown_set payload words ∷ shown_sets payload n (drop (set_size words) words)

-- a result of a stamp and so many sets, the first of which begins behind three words
abbrev pub shown_result : List ℕ → Moment → ℕ → PmResult
shown_result payload stamp count = record { stamp = stamp; sets = shown_sets payload count (drop 12 payload) }
