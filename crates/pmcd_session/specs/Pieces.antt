-- What one step of a session does: a PDU, or the whole PDUs of a piece.
use Rattle.std.specs.Prelude.{◌≡◌, ◌≢◌, ℕ, List, [], ◌∷◌, ◌++◌, Option, Some, Result, Ok, Err}
use Rattle.pcp_base.specs.Time.{Moment}
use Rattle.pcp_outside.specs.Causes.{Rose}
use Rattle.pcp_outside.specs.declared.doors.SessionEnd.{SessionEnd}
use Rattle.pcp_outside.specs.declared.doors.SessionEnd.TheVariants as ends
use Rattle.pdu_codec.specs.declared.pdu.Pdu.{Pdu}
use Rattle.pmcd_session.specs.declared.halt.Halt.{Halt}
use Rattle.pmcd_session.specs.declared.halt.Halt.TheVariants as halts
use Rattle.pmcd_session.specs.declared.standing.Standing.{Standing}
use Rattle.pmcd_session.specs.Replies.{reply_bytes}
use Rattle.pmcd_session.specs.Serving.{AsksTheClock, Does, DoesAll, GoesOn, Reaches, ReadsBy, written_of}
use Rattle.pmcd_session.specs.Sessions.{WritesBy}

-- the end of a session in which a PDU wasn't served
abbrev pub end_of : Halt → SessionEnd
end_of halts.ClockEnd = ends.ClockEnd
end_of halts.ClockFault = ends.ClockFault
end_of halts.NoMemory = ends.NoMemory

-- all bytes were written, or what the end tells of them
abbrev pub WritesIn : {T : Type 0} → Result T SessionEnd → List ℕ → List ℕ → List ℕ → Type 0
WritesIn (Ok done) before after bytes = after ≡ before ++ bytes
WritesIn (Err end) before after bytes = WritesBy end before after bytes

-- a reply isn't written whole where the sink fails or memory is refused
abbrev pub IsSendEnd : SessionEnd → Type 0
IsSendEnd ends.WriteFault = Unit {0}
IsSendEnd ends.NoMemory = Unit {0}
IsSendEnd end = ⊥

-- a stream ends a session by a length word that no PDU has, or where memory is refused
abbrev pub IsStreamEnd : SessionEnd → Type 0
IsStreamEnd (ends.BadLength found) = Unit {0}
IsStreamEnd ends.NoMemory = Unit {0}
IsStreamEnd end = ⊥

-- why a session ends while PDUs are served: no moment is left, or the clock or the sink failed; or else by the stream
abbrev pub HasReason : Type 0 → List Moment → ℕ → ℕ → ℕ → ℕ → SessionEnd → Type 0
HasReason tells left clock_before clock_after sink_before sink_after ends.ClockEnd = tells → left ≡ []
HasReason tells left clock_before clock_after sink_before sink_after ends.ClockFault = Rose clock_before clock_after
HasReason tells left clock_before clock_after sink_before sink_after ends.WriteFault = Rose sink_before sink_after
HasReason tells left clock_before clock_after sink_before sink_after end = IsStreamEnd end

-- no call of the clock or of the sink has failed but the one that ends the session
abbrev pub IsQuiet : {T : Type 0} → Result T SessionEnd → ℕ → ℕ → ℕ → ℕ → Type 0
IsQuiet (Ok done) clock_before clock_after sink_before sink_after = (clock_after ≡ clock_before) × (sink_after ≡ sink_before)
IsQuiet (Err end) clock_before clock_after sink_before sink_after = (end ≢ ends.ClockFault → clock_after ≡ clock_before) × (end ≢ ends.WriteFault → sink_after ≡ sink_before)

-- a PDU was served, and these are the bytes of its reply
abbrev pub IsDone : {A : Type 0} → ReadsBy A → Standing A → List ℕ → List Moment → List ℕ → Standing A → Type 0
IsDone reads s pdu moments bytes after = (reply : Option Pdu) × Does reads s pdu (record { moments = moments; reply = reply; after = after }) × (bytes ≡ written_of reply)

-- a PDU was served that has a reply, whose bytes these are
abbrev pub IsReplied : {A : Type 0} → ReadsBy A → Standing A → List ℕ → List Moment → List ℕ → Standing A → Type 0
IsReplied reads s pdu moments bytes after = (reply : Pdu) × Does reads s pdu (record { moments = moments; reply = Some reply; after = after }) × (bytes ≡ reply_bytes reply)

-- what was done with a PDU, also where the session ends by it
abbrev pub ServesOne : {A T : Type 0} → ReadsBy A → (A → A → Type 0) → Standing A → List ℕ → List Moment → List ℕ → Standing A → Result T SessionEnd → Type 0
ServesOne reads loads s pdu moments bytes after (Ok done) = IsDone reads s pdu moments bytes after
ServesOne reads loads s pdu moments bytes after (Err ends.WriteFault) = IsReplied reads s pdu moments bytes after
ServesOne reads loads s pdu moments bytes after (Err ends.ClockEnd) = (bytes ≡ []) × (moments ≡ []) × AsksTheClock s pdu × (after ≡ s)
ServesOne reads loads s pdu moments bytes after (Err ends.ClockFault) = (bytes ≡ []) × (moments ≡ []) × AsksTheClock s pdu × (after ≡ s)
ServesOne reads loads s pdu moments bytes after (Err ends.NoMemory) = (bytes ≡ []) × Reaches s pdu moments × GoesOn loads s after
ServesOne reads loads s pdu moments bytes after (Err end) = ⊥

-- PDUs were served up to one by which the session ends
pub record StopsWithin {A : Type 0} (reads : ReadsBy A) (loads : A → A → Type 0) (s : Standing A) (pdus : List (List ℕ)) (moments : List Moment) (bytes : List ℕ) (after : Standing A) (end : SessionEnd) : Type 0 where
  pub served : List (List ℕ)
  pub pdu : List ℕ
  pub behind : List (List ℕ)
  pub are : pdus ≡ served ++ pdu ∷ behind
  pub earlier : List Moment
  pub last : List Moment
  pub all_moments : moments ≡ earlier ++ last
  pub replies : List ℕ
  pub reply : List ℕ
  pub all_bytes : bytes ≡ replies ++ reply
  pub between : Standing A
  pub does : DoesAll reads s served (record { moments = earlier; written = replies; after = between })
  pub stops : ServesOne {T = Unit {0}} reads loads between pdu last reply after (Err end)

-- PDUs were served one after another, or up to one by which the session ends
abbrev pub ServesAll : {A T : Type 0} → ReadsBy A → (A → A → Type 0) → Standing A → List (List ℕ) → List Moment → List ℕ → Standing A → Result T SessionEnd → Type 0
ServesAll reads loads s pdus moments bytes after (Ok done) = DoesAll reads s pdus (record { moments = moments; written = bytes; after = after })
ServesAll reads loads s pdus moments bytes after (Err end) = StopsWithin reads loads s pdus moments bytes after end
