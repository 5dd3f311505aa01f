-- The entries of an index (LOGARCHIVE(5)), read from left to right.
use Rattle.std.specs.Prelude.{◌≡◌, ℕ, zero, suc, ◌+◌, ◌/◌, ◌<◌, List, [], ◌∷◌, ◌++◌, length, Option, Some, None, Result, Ok, Err, nat_lt, if◌then◌else◌}
use Rattle.std.specs.Int.{w32}
use Rattle.std.specs.List.{AllByRecursion}
use Rattle.pcp_base.specs.Fields.{be_field}
use Rattle.pcp_model.specs.declared.records.Entry.{Entry}
use Rattle.pcp_model.specs.Records.{entry, entries, FitsEntry}
use Rattle.temporal_index.specs.declared.fault.IndexFault.{IndexFault}
use Rattle.temporal_index.specs.declared.fault.IndexFault.TheVariants.{Entry as NoEntry, NoMemory}

infixl 10 ◌>>=◌
abbrev pub ◌>>=◌ : {A B : Type 0} → Option A → (A → Option B) → Option B
(Some x) >>= f = f x
None >>= f = None

-- a number that has to be below a bound
abbrev pub below : ℕ → Option ℕ → Option ℕ
below bound None = None
below bound (Some n) = if nat_lt n bound then Some n else None

-- the entry at a byte, where twenty bytes stand there and each number is in range
unfoldable pub entry_at : List ℕ → ℕ → Option Entry
entry_at bytes at = do
  sec ← below 2147483648 (be_field w32 at bytes)
  usec ← below 1000000 (be_field w32 (at + 4) bytes)
  volume ← below 2147483648 (be_field w32 (at + 8) bytes)
  meta ← below 2147483648 (be_field w32 (at + 12) bytes)
  offset ← below 2147483648 (be_field w32 (at + 16) bytes)
  Some (record { stamp = record { sec = sec; usec = usec }; volume = volume; meta = meta; offset = offset })

-- the entry at an offset, and what is read behind it; or the offset, where none is
abbrev pub entry_then_others : ℕ → Option Entry → Result (List Entry) ℕ → Result (List Entry) ℕ
entry_then_others at None others = Err at
entry_then_others at (Some e) (Ok es) = Ok (e ∷ es)
entry_then_others at (Some e) (Err offset) = Err offset

-- so many entries from a byte on, or the first offset where none is
unfoldable pub entries_from : ℕ → List ℕ → ℕ → Result (List Entry) ℕ
entries_from zero bytes at = Ok []
entries_from (suc n) bytes at = entry_then_others at (entry_at bytes at) (entries_from n bytes (at + 20))

-- how many entries so many bytes begin
abbrev pub entries_begun_in : ℕ → ℕ
entries_begun_in size = (size + 19) / 20

-- The entries that the bytes are, or the first offset where none is.
unfoldable pub index_of : List ℕ → Result (List Entry) ℕ
index_of bytes = entries_from (entries_begun_in (length bytes)) bytes 0

-- What a function returned is what reading gives, unless memory ran out.
abbrev pub Gives : Result (List Entry) IndexFault → Result (List Entry) ℕ → Type 0
Gives (Ok es) read = read ≡ Ok es
Gives (Err (NoEntry at)) read = read ≡ Err at
Gives (Err NoMemory) read = Unit {0}

-- the bytes are these entries, each number in its range
pub record AreEntries (bytes : List ℕ) (es : List Entry) : Type 0 where
  pub fit : AllByRecursion FitsEntry es
  pub is : bytes ≡ entries es

-- Up to an offset the bytes are entries whose numbers are in range; there they go on, and no such entry stands there.
pub record IsFirstFault (bytes : List ℕ) (at : ℕ) : Type 0 where
  pub front : List Entry
  pub rest : List ℕ
  pub is : bytes ≡ entries front ++ rest
  pub fit : AllByRecursion FitsEntry front
  pub offset : at ≡ length (entries front)
  pub goes_on : 0 < length rest
  pub none : (e : Entry) (more : List ℕ) → FitsEntry e → rest ≡ entry e ++ more → ⊥

-- the refusal of other bytes
abbrev pub IsIndexFault : List ℕ → IndexFault → Type 0
IsIndexFault bytes (NoEntry at) = IsFirstFault bytes at
IsIndexFault bytes NoMemory = Unit {0}
