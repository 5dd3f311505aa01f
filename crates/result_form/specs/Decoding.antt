-- What the payload of a result says (pmFetch(3), LOGARCHIVE(5)), read from left to right: its words, then the blocks of
-- its pairs in order, then its end. The answer is the result, or the first fault and its offset.
use Rattle.std.specs.Prelude.{◌≡◌, ◌⊎◌, ℕ, zero, suc, ℤ, ◌+◌, ◌-◌, ◌*◌, ◌/◌, ◌%◌, ◌≤◌, List, [], ◌∷◌, length, take, drop, max, Option, Some, None, Result, Ok, Err, nat_lt, nat_le, ◌==◌, ◌||◌, if◌then◌else◌}
use Rattle.std.specs.Int.{w32, cast_signed}
use Rattle.pcp_base.specs.Fields.{be_field}
use Rattle.pcp_base.specs.Time.{Moment}
use Rattle.pcp_base.specs.Typed.{TypedBytes}
use Rattle.pcp_base.specs.declared.result.Body.{Body}
use Rattle.pcp_base.specs.declared.result.Body.TheVariants as bodies
use Rattle.pcp_base.specs.declared.result.ValueSet.{ValueSet}
use Rattle.pcp_base.specs.declared.result.PmResult.{PmResult}
use Rattle.pcp_model.specs.Payload.{filling, offset_byte}
use Rattle.result_form.specs.declared.fault.FormFault.{FormFault}
use Rattle.result_form.specs.declared.fault.FormFault.TheVariants.{Short, Stamp, Count, Mode, Offset, Block, Trailing, NoMemory}
use Rattle.result_form.specs.Counts.{Run, Counted}

infixl 10 ◌>>=◌
abbrev pub ◌>>=◌ : {A B : Type 0} → Result A FormFault → (A → Result B FormFault) → Result B FormFault
(Ok x) >>= f = f x
(Err e) >>= f = Err e

-- What a function returned is what reading gives, unless memory ran out.
abbrev pub Gives : {X : Type 0} → Result X FormFault → Result X FormFault → Type 0
Gives (Ok x) read = read ≡ Ok x
Gives (Err e) read = (e ≡ NoMemory) ⊎ (read ≡ Err e)

abbrev pub or_short : ℕ → Option ℕ → Result ℕ FormFault
or_short at (Some n) = Ok n
or_short at None = Err (Short at)

-- the word of 4 bytes at a byte of the payload
abbrev pub word_at : List ℕ → ℕ → Result ℕ FormFault
word_at bytes at = or_short at (be_field w32 at bytes)

-- a word that has to be below a bound
abbrev pub word_below : List ℕ → ℕ → ℕ → FormFault → Result ℕ FormFault
word_below bytes at bound fault = do
  n ← word_at bytes at
  if nat_lt n bound then Ok n else Err fault

-- seconds below 2^31, and microseconds below a million
unfoldable pub stamp_of : List ℕ → Result Moment FormFault
stamp_of bytes = do
  sec ← word_below bytes 0 2147483648 (Stamp 0)
  usec ← word_below bytes 4 1000000 (Stamp 4)
  Ok (record { sec = sec; usec = usec })

-- the storage mode of values, 0 in place and 1 in blocks, and behind it their pairs
unfoldable pub run_at : List ℕ → ℕ → ℕ → Result Counted FormFault
run_at bytes at count = do
  mode ← word_at bytes at
  if mode == 0 then Ok (Counted.InPlace (record { from = at + 4; count = count })) else
      if mode == 1 then Ok (Counted.Blocks (record { from = at + 4; count = count })) else Err (Mode at)

-- Behind its metric a set has the number of its values; one of 0 or below is the status, and nothing follows it.
unfoldable pub counted_at : List ℕ → ℕ → Result Counted FormFault
counted_at bytes at = do
  n ← word_at bytes at
  if n == 0 || nat_le 2147483648 n then Ok (Counted.Status (cast_signed w32 n)) else run_at bytes (at + 4) n

-- the byte behind pairs of two words each, where so many lie in the payload
abbrev pub run_end : List ℕ → Run → Result ℕ FormFault
run_end bytes run =
    if nat_lt ((length bytes - run.from) / 8) run.count then Err (Short (run.from + (length bytes - run.from) / 4 * 4)) else Ok (run.from + 8 * run.count)

-- the byte behind a set's words, the number of its values standing at a byte
abbrev pub end_of : List ℕ → ℕ → Counted → Result ℕ FormFault
end_of bytes at (Counted.Status n) = Ok (at + 4)
end_of bytes at (Counted.InPlace run) = run_end bytes run
end_of bytes at (Counted.Blocks run) = run_end bytes run

-- the byte behind a set
unfoldable pub set_end : List ℕ → ℕ → Result ℕ FormFault
set_end bytes at = do
  pmid ← word_at bytes at
  body ← counted_at bytes (at + 4)
  end_of bytes (at + 4) body

-- the byte behind so many sets
unfoldable pub sets_end : List ℕ → ℕ → ℕ → Result ℕ FormFault
sets_end bytes zero at = Ok at
sets_end bytes (suc n) at = do
  next ← set_end bytes at
  sets_end bytes n next

-- an instance and its word
unfoldable pub pair_at : List ℕ → ℕ → Result (ℤ × ℕ) FormFault
pair_at bytes at = do
  instance ← word_at bytes at
  value ← word_at bytes (at + 4)
  Ok (cast_signed w32 instance, value)

-- so many pairs whose words are the values
unfoldable pub values_from : List ℕ → ℕ → ℕ → Result (List (ℤ × ℕ)) FormFault
values_from bytes zero at = Ok []
values_from bytes (suc n) at = do
  pair ← pair_at bytes at
  others ← values_from bytes n (at + 8)
  Ok (pair ∷ others)

-- A block's first word has the type in its top byte, and below it the length with this word's four bytes.
abbrev pub block_of_head : List ℕ → ℕ → ℕ → TypedBytes
block_of_head bytes at head = record { code = head / 16777216; bytes = take (head % 16777216 - 4) (drop (at + 4) bytes) }

-- how many bytes such a block takes with its padding
abbrev pub padded_size : ℕ → ℕ
padded_size head = head % 16777216 + filling (head % 16777216)

-- The block at a byte, and the byte behind its padding: its length counts its first word, and it lies in the payload.
unfoldable pub block_at : List ℕ → ℕ → Result (TypedBytes × ℕ) FormFault
block_at bytes at = do
  head ← word_at bytes at
  if nat_lt (head % 16777216) 4 || nat_lt (length bytes) (at + padded_size head) then Err (Block at) else Ok (block_of_head bytes at head, at + padded_size head)

-- The block at the offset that stands at a byte: its first word lies between the sets' end and the payload's.
unfoldable pub offset_block : List ℕ → ℕ → ℕ → ℕ → Result (TypedBytes × ℕ) FormFault
offset_block bytes sets_end at offset =
    if nat_lt (offset_byte offset) sets_end || nat_lt (length bytes) (offset_byte offset + 4) then Err (Offset at) else block_at bytes (offset_byte offset)

-- the pair at a byte whose word is the offset of its block, and the byte behind this block
unfoldable pub offset_pair : List ℕ → ℕ → ℕ → Result ((ℤ × TypedBytes) × ℕ) FormFault
offset_pair bytes sets_end at = do
  pair ← pair_at bytes at
  found ← offset_block bytes sets_end (at + 4) pair.1
  Ok ((pair.0, found.0), found.1)

-- so many such pairs, and the greater of an end reached before and of these blocks' ends
unfoldable pub blocks_from : List ℕ → ℕ → ℕ → ℕ → ℕ → Result (List (ℤ × TypedBytes) × ℕ) FormFault
blocks_from bytes sets_end reached zero at = Ok ([], reached)
blocks_from bytes sets_end reached (suc n) at = do
  first ← offset_pair bytes sets_end at
  others ← blocks_from bytes sets_end (max reached first.1) n (at + 8)
  Ok (first.0 ∷ others.0, others.1)

-- what a set holds, and the greatest end with those of its blocks
unfoldable pub body_of : List ℕ → ℕ → ℕ → Counted → Result (Body × ℕ) FormFault
body_of bytes sets_end reached (Counted.Status n) = Ok (bodies.Status n, reached)
body_of bytes sets_end reached (Counted.InPlace run) = do
  pairs ← values_from bytes run.count run.from
  Ok (bodies.InPlace pairs, reached)
body_of bytes sets_end reached (Counted.Blocks run) = do
  pairs ← blocks_from bytes sets_end reached run.count run.from
  Ok (bodies.Blocks pairs.0, pairs.1)

-- the set at a byte, and the greatest end with those of its blocks
unfoldable pub set_at : List ℕ → ℕ → ℕ → ℕ → Result (ValueSet × ℕ) FormFault
set_at bytes sets_end reached at = do
  pmid ← word_at bytes at
  body ← counted_at bytes (at + 4)
  content ← body_of bytes sets_end reached body
  Ok (record { pmid = pmid; body = content.0 }, content.1)

-- so many sets, and the greatest end with those of their blocks
unfoldable pub sets_from : List ℕ → ℕ → ℕ → ℕ → ℕ → Result (List ValueSet × ℕ) FormFault
sets_from bytes sets_end reached zero at = Ok ([], reached)
sets_from bytes sets_end reached (suc n) at = do
  first ← set_at bytes sets_end reached at
  next ← set_end bytes at
  others ← sets_from bytes sets_end first.1 n next
  Ok (first.0 ∷ others.0, others.1)

-- The result of a payload: first all words, with where the sets end, then the sets with their blocks; behind the
-- greatest end of the sets and the blocks nothing stands.
unfoldable pub payload_result : List ℕ → Result PmResult FormFault
payload_result bytes = do
  stamp ← stamp_of bytes
  count ← word_below bytes 8 2147483648 (Count 8)
  end ← sets_end bytes count 12
  read ← sets_from bytes end end count 12
  if nat_lt read.1 (length bytes) then Err (Trailing read.1) else Ok (record { stamp = stamp; sets = read.0 })
