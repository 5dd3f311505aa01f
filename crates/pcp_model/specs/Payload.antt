-- The payload of a result (pmFetch(3), LOGARCHIVE(5)): seconds, microseconds, the number of sets, the sets,
-- and then the blocks to which the sets refer.
use Rattle.std.specs.Prelude.{◌≡◌, ℕ, ℤ, ◌+◌, ◌-◌, ◌*◌, ◌/◌, ◌%◌, ◌<◌, ◌≤◌, List, [], ◌∷◌, ◌++◌, length, take, drop, max, FitsSigned}
use Rattle.std.specs.List.{AllByRecursion}
use Rattle.std.specs.Int.{w32}
use Rattle.pcp_base.specs.Time.{Moment, IsMoment}
use Rattle.pcp_base.specs.Typed.{TypedBytes}
use Rattle.pcp_base.specs.Results.{Fits}
use Rattle.pcp_base.specs.declared.result.Body.{Body}
use Rattle.pcp_base.specs.declared.result.Body.TheVariants.{InPlace, Blocks, Status}
use Rattle.pcp_base.specs.declared.result.ValueSet.{ValueSet}
use Rattle.pcp_base.specs.declared.result.PmResult.{PmResult}
use Rattle.pcp_base.specs.declared.result.Item.{Item}
use Rattle.pcp_base.specs.declared.result.Item.TheVariants.{Sample, Mark}
use Rattle.pcp_model.specs.Words.{word, signed_word, zeros}

-- a number as three bytes
abbrev pub three_bytes : ℕ → List ℕ
three_bytes n = n / 65536 % 256 ∷ n / 256 % 256 ∷ n % 256 ∷ []

-- the type byte, and the length with these four bytes
abbrev pub block_head : TypedBytes → List ℕ
block_head b = b.code ∷ three_bytes (4 + length b.bytes)

-- how many bytes fill up to a whole word
abbrev pub filling : ℕ → ℕ
filling n = (4 - n % 4) % 4

-- a block as the writer spells it
abbrev pub block : TypedBytes → List ℕ
block b = block_head b ++ (b.bytes ++ zeros (filling (length b.bytes)))

abbrev pub blocks_bytes : List TypedBytes → List ℕ
blocks_bytes [] = []
blocks_bytes (b ∷ blocks) = block b ++ blocks_bytes blocks

-- how many bytes a block takes, and how many words
abbrev pub block_length : TypedBytes → ℕ
block_length b = 4 + length b.bytes + filling (length b.bytes)

-- the blocks of a set, in the order of its pairs
abbrev pub pair_blocks : List (ℤ × TypedBytes) → List TypedBytes
pair_blocks [] = []
pair_blocks (p ∷ pairs) = p.1 ∷ pair_blocks pairs

abbrev pub blocks_in : Body → List TypedBytes
blocks_in (InPlace pairs) = []
blocks_in (Blocks pairs) = pair_blocks pairs
blocks_in (Status n) = []

-- all blocks of a result's sets, in the order of the pairs
abbrev pub blocks_of : List ValueSet → List TypedBytes
blocks_of [] = []
blocks_of (set ∷ sets) = blocks_in set.body ++ blocks_of sets

-- pairs in place: instance and value
abbrev pub value_pairs : List (ℤ × ℕ) → List ℕ
value_pairs [] = []
value_pairs (p ∷ pairs) = signed_word p.0 ++ (word p.1 ++ value_pairs pairs)

-- pairs by block: instance and the block's offset, one offset for each pair
abbrev pub offset_pairs : List ℕ → List (ℤ × TypedBytes) → List ℕ
offset_pairs (offset ∷ offsets) (p ∷ pairs) = signed_word p.0 ++ (word offset ++ offset_pairs offsets pairs)
offset_pairs offsets pairs = []

-- A set: the metric, and a status of at most 0, or the number of values, how they are kept, and the pairs.
abbrev pub body_words : List ℕ → Body → List ℕ
body_words offsets (InPlace pairs) = word (length pairs) ++ (word 0 ++ value_pairs pairs)
body_words offsets (Blocks pairs) = word (length pairs) ++ (word 1 ++ offset_pairs offsets pairs)
body_words offsets (Status n) = signed_word n

abbrev pub set_words : List ℕ → List ValueSet → List ℕ
set_words offsets [] = []
set_words offsets (set ∷ sets) =
    word set.pmid ++ (body_words offsets set.body ++ set_words (drop (length (blocks_in set.body)) offsets) sets)

-- the payload up to the blocks, whose offsets are these
abbrev pub result_head : List ℕ → PmResult → List ℕ
result_head offsets r = word r.stamp.sec ++ (word r.stamp.usec ++ (word (length r.sets) ++ set_words offsets r.sets))

-- how many bytes the head takes
abbrev pub body_length : Body → ℕ
body_length (InPlace pairs) = 8 + 8 * length pairs
body_length (Blocks pairs) = 8 + 8 * length pairs
body_length (Status n) = 4

abbrev pub sets_length : List ValueSet → ℕ
sets_length [] = 0
sets_length (set ∷ sets) = 4 + body_length set.body + sets_length sets

abbrev pub head_length : PmResult → ℕ
head_length r = 12 + sets_length r.sets

-- how many bytes blocks take together
abbrev pub blocks_length : List TypedBytes → ℕ
blocks_length [] = 0
blocks_length (b ∷ blocks) = block_length b + blocks_length blocks

-- how many bytes the writer's spelling of a result has
abbrev pub payload_length : PmResult → ℕ
payload_length r = head_length r + blocks_length (blocks_of r.sets)

-- Blocks one behind another from a byte of the payload on: their offsets, the word of the seconds being 3.
abbrev pub offsets_from : ℕ → List TypedBytes → List ℕ
offsets_from at [] = []
offsets_from at (b ∷ blocks) = (3 + at / 4) ∷ offsets_from (at + block_length b) blocks

-- The one spelling that the writer has: the blocks stand directly behind the last set, in the order of the pairs.
unfoldable pub payload : PmResult → List ℕ
payload r = result_head (offsets_from (head_length r) (blocks_of r.sets)) r ++ blocks_bytes (blocks_of r.sets)

-- the byte to which an offset leads
abbrev pub offset_byte : ℕ → ℕ
offset_byte offset = (offset - 3) * 4

-- A block stands at an offset behind the sets, with its padding inside the payload.
pub record BlockStands (bytes : List ℕ) (sets_end offset : ℕ) (b : TypedBytes) : Type 0 where
  pub word_fits : offset < 4294967296
  pub behind : (3 ≤ offset) × (sets_end ≤ offset_byte offset)
  pub within : offset_byte offset + block_length b ≤ length bytes
  pub is : take (4 + length b.bytes) (drop (offset_byte offset) bytes) ≡ block_head b ++ b.bytes

abbrev pub BlocksStand : List ℕ → ℕ → List ℕ → List TypedBytes → Type 0
BlocksStand bytes sets_end [] [] = Unit {0}
BlocksStand bytes sets_end (offset ∷ offsets) (b ∷ blocks) = BlockStands bytes sets_end offset b × BlocksStand bytes sets_end offsets blocks
BlocksStand bytes sets_end offsets blocks = Unit {0} → ⊥

-- the greatest end of the sets and of the blocks
abbrev pub reach : ℕ → List ℕ → List TypedBytes → ℕ
reach end (offset ∷ offsets) (b ∷ blocks) = max (offset_byte offset + block_length b) (reach end offsets blocks)
reach end offsets blocks = end

-- each number of a set fits its type
abbrev pub BodyInRange : Body → Type 0
BodyInRange (InPlace pairs) = (length pairs < 2147483648) × AllByRecursion (λ p. FitsSigned w32 p.0 × (p.1 < 4294967296)) pairs
BodyInRange (Blocks pairs) = (length pairs < 2147483648) × AllByRecursion (λ p. FitsSigned w32 p.0 × (length p.1.bytes ≤ 16777211)) pairs
BodyInRange (Status n) = FitsSigned w32 n

abbrev pub SetInRange : ValueSet → Type 0
SetInRange set = (set.pmid < 4294967296) × Fits set × BodyInRange set.body

pub record ResultInRange (r : PmResult) : Type 0 where
  pub moment : IsMoment r.stamp
  pub few : length r.sets < 2147483648
  pub sets : AllByRecursion SetInRange r.sets

-- What a reader takes for this result: the blocks may stand anywhere behind the sets, shared and out of
-- order, with any padding, and nothing stands behind the last of them.
pub record IsPayload (bytes : List ℕ) (r : PmResult) : Type 0 where
  pub range : ResultInRange r
  pub offsets : List ℕ
  pub head : take (head_length r) bytes ≡ result_head offsets r
  pub blocks : BlocksStand bytes (head_length r) offsets (blocks_of r.sets)
  pub whole : length bytes ≡ reach (head_length r) offsets (blocks_of r.sets)

-- the stamp of an item
abbrev pub stamp_of : Item → Moment
stamp_of (Sample r) = r.stamp
stamp_of (Mark t) = t

-- A volume's records: a result with sets, or one without, which is a mark.
abbrev pub IsItem : List ℕ → Item → Type 0
IsItem bytes (Sample r) = (0 < length r.sets) × IsPayload bytes r
IsItem bytes (Mark t) = IsMoment t × (bytes ≡ word t.sec ++ (word t.usec ++ word 0))
