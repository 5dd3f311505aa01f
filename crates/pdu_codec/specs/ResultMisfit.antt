-- Where bytes that are no payload of a result stop being like one, byte by byte: the first byte with which no payload goes
-- on, or their end. So a word may stop at its first byte, and what may stand there goes by what stood before: of offsets
-- that lead to blocks, and of sets that are still to come, since all blocks lie behind the last set.
use Rattle.std.specs.Prelude.{ℕ, zero, suc, ◌+◌, ◌-◌, ◌*◌, ◌/◌, ◌%◌, List, length, slice_index, min, max, true, false, Option, Some, None, Result, Ok, Err, nat_lt, nat_le, ◌==◌, ◌&&◌, ◌||◌, if◌then◌else◌}
use Rattle.std.specs.Int.{w32}
use Rattle.pcp_model.specs.Payload.{offset_byte}
use Rattle.result_form.specs.Decoding.{padded_size}
use Rattle.pcp_base.specs.Fields.{be_field}
use Rattle.pdu_codec.specs.declared.misfit.Blocks.{Blocks}
use Rattle.pdu_codec.specs.declared.misfit.Sets.{Sets}

-- a step, or the byte at which reading stops
infixl 10 ◌>>=◌
abbrev pub ◌>>=◌ : {A B : Type 0} → Result A ℕ → (A → Result B ℕ) → Result B ℕ
(Ok x) >>= f = f x
(Err at) >>= f = Err at

-- ---- words

-- a number with one byte more, where it lies between these
abbrev pub byte_between : List ℕ → ℕ → ℕ → ℕ → ℕ → Result ℕ ℕ
byte_between bytes at before least most =
    if nat_lt at (length bytes) then
    (if nat_lt (before * 256 + slice_index bytes at) least then Err at else if nat_lt most (before * 256 + slice_index bytes at) then Err at else Ok (before * 256 + slice_index bytes at))
    else Err (length bytes)

-- the word at a byte, between two numbers: it stops at the first byte with which no number between them goes on
unfoldable pub word_between : List ℕ → ℕ → ℕ → ℕ → Result ℕ ℕ
word_between bytes at least most = do
  first ← byte_between bytes at 0 (least / 16777216) (most / 16777216)
  second ← byte_between bytes (at + 1) first (least / 65536) (most / 65536)
  third ← byte_between bytes (at + 2) second (least / 256) (most / 256)
  byte_between bytes (at + 3) third least most

abbrev pub any_word : List ℕ → ℕ → Result ℕ ℕ
any_word bytes at = word_between bytes at 0 4294967295

-- ---- sets; `others` sets follow the one that is read, and each takes 8 bytes at least

-- So many values fit, so that the sets still end at or before a byte.
abbrev pub most_values : ℕ → ℕ → ℕ → ℕ
most_values at others limit = min 2147483647 ((limit - (at + 12 + 8 * others)) / 8)

-- where all sets end at the least, if this one has so many values
abbrev pub least_end : ℕ → ℕ → ℕ → ℕ
least_end at others count = at + 12 + 8 * count + 8 * others

-- the number of values, or a status
abbrev pub count_word : List ℕ → ℕ → ℕ → ℕ → Result ℕ ℕ
count_word bytes at others limit =
    if nat_lt (at + 4) (length bytes) && nat_le 128 (slice_index bytes (at + 4)) then any_word bytes (at + 4)
    else word_between bytes (at + 4) 0 (most_values at others limit)

-- No offset leads further than this byte.
abbrev pub furthest : ℕ
furthest = 17179869168

-- What an offset leads to: all sets end at or before it. Where its first word stands, a length below 4 stops at the word's
-- last byte, and any other says how far the block reaches; else the bytes end too early.
abbrev pub led_to : List ℕ → Blocks → ℕ → ℕ → Blocks
led_to bytes b begin head =
    if nat_lt (head % 16777216) 4 then record { limit = min b.limit begin; stop = min b.stop (begin + 3); reach = b.reach; is_open = b.is_open }
    else record { limit = min b.limit begin; stop = b.stop; reach = max b.reach (begin + padded_size head); is_open = b.is_open }

abbrev pub after_lead : List ℕ → Blocks → ℕ → Option ℕ → Blocks
after_lead bytes b begin None = record { limit = min b.limit begin; stop = b.stop; reach = b.reach; is_open = true }
after_lead bytes b begin (Some head) = led_to bytes b begin head

abbrev pub led_by : List ℕ → Blocks → ℕ → Blocks
led_by bytes b offset = after_lead bytes b (offset_byte offset) (be_field w32 (offset_byte offset) bytes)

-- the offset of a pair: none leads before the least end of all sets
unfoldable pub offset_at : List ℕ → ℕ → ℕ → Result ℕ ℕ
offset_at bytes end at = do
  instance ← any_word bytes at
  word_between bytes (at + 4) (3 + end / 4) 4294967295

-- so many pairs whose words are offsets
unfoldable pub offsets_from : List ℕ → ℕ → Blocks → ℕ → ℕ → Result Blocks ℕ
offsets_from bytes end b zero at = Ok b
offsets_from bytes end b (suc n) at = do
  offset ← offset_at bytes end at
  offsets_from bytes end (led_by bytes b offset) n (at + 8)

-- the pairs of a set, which begins at a byte
unfoldable pub pairs_at : List ℕ → ℕ → ℕ → Blocks → ℕ → ℕ → Result Sets ℕ
pairs_at bytes at others b count mode =
    if mode == 0 then (if nat_lt (length bytes) (at + 12 + 8 * count) then Err (length bytes) else Ok (record { at = at + 12 + 8 * count; blocks = b }))
    else (offsets_from bytes (least_end at others count) b count (at + 12) >>= λ after_lead. Ok (record { at = at + 12 + 8 * count; blocks = after_lead }))

-- by blocks only where some offset can lead behind all sets
abbrev pub most_mode : ℕ → ℕ
most_mode end = if nat_lt furthest end then 0 else 1

unfoldable pub values_at : List ℕ → ℕ → ℕ → Blocks → ℕ → Result Sets ℕ
values_at bytes at others b count =
    if count == 0 || nat_le 2147483648 count then Ok (record { at = at + 8; blocks = b })
    else (word_between bytes (at + 8) 0 (most_mode (least_end at others count)) >>= λ mode. pairs_at bytes at others b count mode)

unfoldable pub set_at : List ℕ → ℕ → Sets → Result Sets ℕ
set_at bytes others s = do
  pmid ← any_word bytes s.at
  count ← count_word bytes s.at others s.blocks.limit
  values_at bytes s.at others s.blocks count

unfoldable pub sets_at : List ℕ → ℕ → Sets → Result Sets ℕ
sets_at bytes zero s = Ok s
sets_at bytes (suc others) s = do
  next ← set_at bytes others s
  sets_at bytes others next

-- ---- the whole

-- no offset yet: no sets that begin in a PDU end so far
abbrev pub no_blocks : List ℕ → Blocks
no_blocks bytes = record { limit = 68719476736; stop = length bytes; reach = 0; is_open = false }

-- behind all sets: the first length that is too small, else the end of the sets and blocks, if all lengths stand
abbrev pub stop_behind : List ℕ → Sets → ℕ
stop_behind bytes s =
    if nat_lt s.blocks.stop (length bytes) then s.blocks.stop
    else if s.blocks.is_open then length bytes else min (length bytes) (max s.at s.blocks.reach)

unfoldable pub walk_of_sets : List ℕ → Result Sets ℕ
walk_of_sets bytes = do
  sec ← word_between bytes 0 0 2147483647
  usec ← word_between bytes 4 0 999999
  count ← word_between bytes 8 0 2147483647
  sets_at bytes count (record { at = 12; blocks = no_blocks bytes })

abbrev pub stop_of : List ℕ → Result Sets ℕ → ℕ
stop_of bytes (Ok s) = stop_behind bytes s
stop_of bytes (Err at) = at

abbrev pub result_misfit : List ℕ → ℕ
result_misfit bytes = min (stop_of bytes (walk_of_sets bytes)) (length bytes)
