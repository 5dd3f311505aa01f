-- A session that goes on, step after step.
use Rattle.std.specs.Prelude.{◌≡◌, ℕ, ◌<◌, ◌≤◌, ◌==◌, if◌then◌else◌, List, ◌++◌, length, Result, Ok, Err}
use Rattle.pcp_outside.specs.declared.doors.SessionEnd.{SessionEnd}
use Rattle.pcp_outside.specs.declared.doors.SessionEnd.TheVariants as ends
use Rattle.pdu_stream.specs.State.{State}
use Rattle.pdu_stream.specs.Streams.{Splits, IsBegun, IsBad}
use Rattle.pdu_stream.specs.Reading.{GivesSome, HasRead}
use Rattle.pdu_stream.specs.declared.phase.Phase.TheVariants.{Open}
use Rattle.pmcd_session.specs.declared.standing.Standing.{Standing}
use Rattle.pmcd_session.specs.Pieces.{WritesIn}
use Rattle.pmcd_session.specs.Serving.{ReadsBy}
use Rattle.pmcd_session.specs.Sessions.{Ends, History, Served, most_piece, most_taken}
use Rattle.pcp_outside.specs.Sides.{SourceSide, SinkSide, ClockSide}

-- the PDUs that a piece of a stream brought, or a length word that no PDU has
abbrev pub Brings : List ℕ → List (List ℕ) → State → State → Result (List (List ℕ)) SessionEnd → Type 0
Brings stream given old new (Ok pdus) = (old.phase ≡ Open) × HasRead stream (given ++ pdus) new × GivesSome new.phase pdus
Brings stream given old new (Err (ends.BadLength found)) = (rest : List ℕ) × Splits stream given rest × IsBad rest found
Brings stream given old new (Err ends.NoMemory) = Unit {0}
Brings stream given old new (Err end) = ⊥

-- more may come behind these PDUs, or a length word stands there that no PDU has
abbrev pub StaysOpen : {T : Type 0} → List ℕ → List (List ℕ) → State → Result T SessionEnd → Type 0
StaysOpen stream given new (Ok done) = (new.phase ≡ Open) × Splits stream given new.rest × IsBegun new.rest
StaysOpen stream given new (Err (ends.BadLength found)) = (rest : List ℕ) × Splits stream given rest × IsBad rest found
StaysOpen stream given new (Err ends.NoMemory) = Unit {0}
StaysOpen stream given new (Err end) = ⊥

-- these PDUs were made whole and served, and more may come
pub record Going {A : Type 0} (reads : ReadsBy A) (first : A) (h : History) (stream : State) (s : Standing A) : Type 0 where
  pub pdus : List (List ℕ)
  pub open_ : stream.phase ≡ Open
  pub begins : IsBegun stream.rest
  pub served : Served reads first h.taken pdus stream.rest h.moments h.bytes s

-- the session goes on, or has ended
abbrev pub GoesOrEnds : {A T : Type 0} → ReadsBy A → (A → A → Type 0) → A → History → State → Standing A → Result T SessionEnd → Type 0
GoesOrEnds reads loads first h stream s (Ok done) = Going reads first h stream s
GoesOrEnds reads loads first h stream s (Err end) = Ends reads loads first h s.agent end

-- what was taken and written, and then something more
abbrev pub then_more : History → History → History
then_more h more = record { taken = h.taken ++ more.taken; moments = h.moments ++ more.moments; bytes = h.bytes ++ more.bytes }

-- whatever was done before, while fewer bytes were taken than may be, in all and at once, the session goes on behind it, or has ended
abbrev pub GoesBehind : {A T : Type 0} → ReadsBy A → (A → A → Type 0) → History → State → Standing A → State → Standing A → Result T SessionEnd → Type 0
GoesBehind {A = A} reads loads more stream s later after result = (first : A) → (h : History) → length h.taken < most_taken → length more.taken ≤ most_piece → Going reads first h stream s → GoesOrEnds reads loads first (then_more h more) later after result

-- this was taken from the source and the clock, and written to the sink
pub record Moves {T : Type 0} (source : SourceSide) (sink : SinkSide) (clock : ClockSide) (result : Result T SessionEnd) (h : History) : Type 0 where
  pub took : source.tells → source.left ≡ h.taken ++ source.after
  pub asked : clock.tells → clock.left ≡ h.moments ++ clock.after
  pub wrote : sink.tells → WritesIn result sink.written sink.after h.bytes

-- how a session ends whose input ended so many bytes into a PDU
abbrev pub end_of_input : ℕ → SessionEnd
end_of_input pending = if pending == 0 then ends.Closed else ends.Torn pending
