-- What a stream was read as, and what a further piece of it adds.
use Rattle.std.specs.Prelude.{◌≡◌, ℕ, ◌<◌, ◌==◌, if◌then◌else◌, List, ◌++◌, length, Option, Some, None, Result, Ok, Err}
use Rattle.pdu_stream.specs.declared.phase.Phase.{Phase}
use Rattle.pdu_stream.specs.declared.phase.Phase.TheVariants.{Open, Bad, Lost}
use Rattle.pdu_stream.specs.declared.fault.StreamFault.{StreamFault}
use Rattle.pdu_stream.specs.declared.fault.StreamFault.TheVariants as faults
use Rattle.pdu_stream.specs.declared.splitting.Parts.{Parts}
use Rattle.pdu_stream.specs.Streams.{IsBegun, IsBad, IsStop, Splits}
use Rattle.pdu_stream.specs.State.{State}

-- Of this stream these PDUs were given: behind them stands the beginning of a PDU, which is kept, or a length word that no
-- PDU has.
abbrev pub HasComeTo : List ℕ → List (List ℕ) → Phase → List ℕ → Type 0
HasComeTo stream given Open rest = Splits stream given rest × IsBegun rest
HasComeTo stream given (Bad found) kept = (rest : List ℕ) × Splits stream given rest × IsBad rest found
HasComeTo stream given Lost rest = ⊥

abbrev pub HasRead : List ℕ → List (List ℕ) → State → Type 0
HasRead stream given s = HasComeTo stream given s.phase s.rest

-- A piece at whose length word the stream ends gave a PDU before it.
abbrev pub GivesSome : Phase → List (List ℕ) → Type 0
GivesSome Open pdus = Unit {0}
GivesSome (Bad found) pdus = 0 < length pdus
GivesSome Lost pdus = ⊥

-- What was taken of bytes that were kept and a piece behind them, and the bytes that are kept then.
abbrev pub IsTaken : List ℕ → List ℕ → Parts → Type 0
IsTaken bytes rest parts = Splits bytes parts.pdus rest × IsStop rest parts.bad

abbrev pub phase_after : Option ℕ → Phase
phase_after None = Open
phase_after (Some found) = Bad found

abbrev pub answer_for : List (List ℕ) → Option ℕ → Result (List (List ℕ)) StreamFault
answer_for pdus None = Ok pdus
answer_for pdus (Some found) = if length pdus == 0 then Err (faults.BadLength found) else Ok pdus

-- What such bytes give.
abbrev pub Reads : List ℕ → Phase → List ℕ → Result (List (List ℕ)) StreamFault → Type 0
Reads bytes phase rest (Ok pdus) = HasComeTo bytes pdus phase rest × GivesSome phase pdus
Reads bytes phase rest (Err (faults.BadLength found)) = (phase ≡ Bad found) × IsBad bytes found
Reads bytes phase rest (Err faults.Lost) = ⊥
Reads bytes phase rest (Err faults.NoMemory) = phase ≡ Lost

-- What a call answers behind a stream of which these PDUs were given before: PDUs of an open stream, and what was read then
-- is the longer stream; the length word that no PDU has, where none is to be given before it; or that memory was refused.
abbrev pub Answers : List ℕ → List (List ℕ) → List ℕ → State → State → Result (List (List ℕ)) StreamFault → Type 0
Answers stream given piece old new (Ok pdus) = (old.phase ≡ Open) × HasRead (stream ++ piece) (given ++ pdus) new × GivesSome new.phase pdus
Answers stream given piece old new (Err (faults.BadLength found)) = (new.phase ≡ Bad found) × HasRead (stream ++ piece) given new
Answers stream given piece old new (Err faults.Lost) = ⊥
Answers stream given piece old new (Err faults.NoMemory) = (old.phase ≡ Open) × (new.phase ≡ Lost)

-- how many bytes of the PDU that isn't whole yet have come
abbrev pub pending_for : Phase → List ℕ → ℕ
pending_for Open rest = length rest
pending_for (Bad found) rest = 0
pending_for Lost rest = 0

abbrev pub pending_in : State → ℕ
pending_in s = pending_for s.phase s.rest
