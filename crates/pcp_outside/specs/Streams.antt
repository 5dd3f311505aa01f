-- What a call takes from a source of bytes, and what it puts into a sink.
use Rattle.std.specs.Prelude.{◌≡◌, ℕ, ◌+◌, ◌<◌, ◌≤◌, List, [], ◌++◌, length, take, drop, Result, Ok, Err}
use Rattle.pcp_outside.specs.declared.streams.ReadFault.{ReadFault}
use Rattle.pcp_outside.specs.declared.streams.ReadFault.TheVariants.{NoMemory, Failed, TooMuch}

-- The next n bytes come to the front of the buffer. None for a buffer with room is the end.
pub record Taken (before after buffer : List ℕ) (n : ℕ) : Type 0 where
  pub next : before ≡ take n buffer ++ after
  pub end : n ≡ 0 → 0 < length buffer → before ≡ []

-- a refused call takes nothing
abbrev pub Takes : {E : Type 0} → List ℕ → List ℕ → List ℕ → Result ℕ E → Type 0
Takes before after buffer (Ok n) = Taken before after buffer n
Takes before after buffer (Err _) = after ≡ before

-- a front of the piece is written, and of a refused one nothing
abbrev pub Puts : {E : Type 0} → List ℕ → List ℕ → List ℕ → Result ℕ E → Type 0
Puts before after piece (Ok n) = after ≡ before ++ take n piece
Puts before after piece (Err _) = after ≡ before

-- the whole piece is written, or some front of it where the sink failed
abbrev pub PutsAll : {T E : Type 0} → List ℕ → List ℕ → List ℕ → Result T E → Type 0
PutsAll before after piece (Ok _) = after ≡ before ++ piece
PutsAll before after piece (Err _) = (n : ℕ) × (after ≡ before ++ take n piece)

-- A source with at most `limit` bytes is read to its end. Of a longer one exactly one byte above the limit is taken.
abbrev pub ReadsTo : ℕ → List ℕ → List ℕ → Result (List ℕ) ReadFault → Type 0
ReadsTo limit before after (Ok bytes) = (length before ≤ limit) × (bytes ≡ before) × (after ≡ [])
ReadsTo limit before after (Err TooMuch) = (limit < length before) × (after ≡ drop (limit + 1) before)
ReadsTo limit before after (Err Failed) = (n : ℕ) × (n ≤ limit + 1) × (after ≡ drop n before)
ReadsTo limit before after (Err NoMemory) = (n : ℕ) × (n ≤ limit + 1) × (after ≡ drop n before)
