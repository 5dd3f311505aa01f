-- The instances of a domain's record (LOGARCHIVE(5)), by the bytes behind their number: the numbers of the instances, as many
-- offsets, and the table into which these lead, where zero bytes end the names.
use Rattle.std.specs.Prelude.{◌≡◌, ℕ, zero, suc, ℤ, ◌*◌, ◌<◌, ◌≤◌, List, [], ◌∷◌, length, take, drop, position, Option, Some, None, Bool, is_none, unwrap_or, nat_lt, ◌==◌, ◌||◌, if◌then◌else◌}
use Rattle.std.specs.Int.{w32, cast_signed}
use Rattle.pcp_base.specs.Fields.{be_field}

infixl 10 ◌>>=◌
abbrev pub ◌>>=◌ : {A B : Type 0} → Option A → (A → Option B) → Option B
(Some x) >>= f = f x
None >>= f = None

abbrev pub is_zero : ℕ → Bool
is_zero b = b == 0

-- the text of bytes, where none of them is zero
abbrev pub text_of : List ℕ → Option (List ℕ)
text_of bytes = if is_none (position is_zero bytes) then Some bytes else None

-- the name that begins at an offset of a table, up to the first zero byte
unfoldable pub name_at : List ℕ → ℕ → Option (List ℕ)
name_at table offset = do
  end ← position is_zero (drop offset table)
  text_of (take end (drop offset table))

-- the instance whose number and offset these bytes begin with
unfoldable pub pair_at : List ℕ → List ℕ → List ℕ → Option (ℤ × List ℕ)
pair_at numbers offsets table = do
  number ← be_field w32 0 numbers
  offset ← be_field w32 0 offsets
  name ← name_at table offset
  Some (cast_signed w32 number, name)

-- so many instances: their numbers stand one behind another, and so do their offsets into the table
unfoldable pub pairs_from : List ℕ → ℕ → List ℕ → List ℕ → Option (List (ℤ × List ℕ))
pairs_from table zero numbers offsets = Some []
pairs_from table (suc n) numbers offsets = do
  pair ← pair_at numbers offsets table
  others ← pairs_from table n (drop 4 numbers) (drop 4 offsets)
  Some (pair ∷ others)

-- the instance at a position
abbrev pub instance_at : ℕ → List ℕ → ℕ → Option (ℤ × List ℕ)
instance_at count bytes at = pair_at (drop (4 * at) bytes) (drop (4 * at) (drop (4 * count) bytes)) (drop (8 * count) bytes)

-- all of them, fewer than 2^31
unfoldable pub instances_in : ℕ → List ℕ → Option (List (ℤ × List ℕ))
instances_in count bytes =
    if nat_lt 2147483647 count || nat_lt (length bytes) (8 * count) then None
    else pairs_from (drop (8 * count) bytes) count bytes (drop (4 * count) bytes)

-- those that bytes are known to spell
abbrev pub listed_in : ℕ → List ℕ → List (ℤ × List ℕ)
listed_in count bytes = unwrap_or (instances_in count bytes) []

-- bytes spell so many instances
pub record ListsInstances (count : ℕ) (bytes : List ℕ) : Type 0 where
  pub few : count < 2147483648
  pub room : 8 * count ≤ length bytes
  pub all : instances_in count bytes ≡ Some (listed_in count bytes)
