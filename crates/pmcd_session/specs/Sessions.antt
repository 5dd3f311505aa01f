-- Whole sessions: what was taken, what was written, and why a session ended.
use Rattle.std.specs.Prelude.{◌≡◌, ◌≢◌, ◌⊎◌, ℕ, ◌<◌, ◌≤◌, false, Bool, List, [], ◌∷◌, ◌++◌, length, take, drop, filter, bytes_eq, Some, ◌+◌}
use Rattle.pcp_base.specs.Time.{Moment}
use Rattle.pcp_outside.specs.Causes.{Rose}
use Rattle.pcp_outside.specs.declared.doors.SessionEnd.{SessionEnd}
use Rattle.pcp_outside.specs.declared.doors.SessionEnd.TheVariants as ends
use Rattle.pdu_codec.specs.declared.pdu.Pdu.{Pdu}
use Rattle.pdu_codec.specs.Spelling.{pdu_bytes}
use Rattle.pdu_stream.specs.Streams.{Splits, IsBegun, IsBad}
use Rattle.pmcd_session.specs.declared.standing.Standing.{Standing}
use Rattle.pmcd_session.specs.Contexts.{new_contexts}
use Rattle.pmcd_session.specs.Replies.{greeting, reply_bytes}
use Rattle.pmcd_session.specs.Serving.{ReadsBy, Deed, Does, DoesAll, AsksTheClock}
use Rattle.pcp_outside.specs.Sides.{SourceSide, SinkSide, ClockSide}

-- a session begins with a client that isn't known, and contexts that keep every instance
abbrev pub session_start : {A : Type 0} → A → Standing A
session_start agent = record { is_met = false; contexts = new_contexts; agent = agent }

-- The bytes that a session took from its source, the moments that it took from its clock, and the bytes of the greeting and
-- of all replies to the PDUs that were served.
pub record History : Type 0 where
  pub taken : List ℕ
  pub moments : List Moment
  pub bytes : List ℕ

-- no session takes more bytes
abbrev pub most_taken : ℕ
most_taken = 1099511627776

-- nor takes one more bytes at once
abbrev pub most_piece : ℕ
most_piece = 4096

-- These whole PDUs stand at the front of what was taken, and were served.
pub record Served {A : Type 0} (reads : ReadsBy A) (first : A) (taken : List ℕ) (pdus : List (List ℕ)) (rest : List ℕ) (moments : List Moment) (bytes : List ℕ) (s : Standing A) : Type 0 where
  pub stream : Splits taken pdus rest
  pub replies : List ℕ
  pub does : DoesAll reads (session_start first) pdus (record { moments = moments; written = replies; after = s })
  pub is : bytes ≡ pdu_bytes greeting ++ replies

-- those were served behind which the rest stands
pub record ServedTo {A : Type 0} (reads : ReadsBy A) (first : A) (h : History) (rest : List ℕ) (last : A) : Type 0 where
  pub pdus : List (List ℕ)
  pub s : Standing A
  pub served : Served reads first h.taken pdus rest h.moments h.bytes s
  pub stays : s.agent ≡ last

-- those before a fetch were served, and for it the clock was asked and gave no moment
pub record StopsAtClock {A : Type 0} (reads : ReadsBy A) (first : A) (h : History) (last : A) : Type 0 where
  pub pdus : List (List ℕ)
  pub fetch : List ℕ
  pub rest : List ℕ
  pub beyond : List ℕ
  pub s : Standing A
  pub served : Served reads first h.taken pdus rest h.moments h.bytes s
  pub next : Splits rest (fetch ∷ []) beyond
  pub asks : AsksTheClock s fetch
  pub stays : s.agent ≡ last

-- the greeting wasn't written whole, and nothing was taken
abbrev pub IsUngreeted : {A : Type 0} → A → History → A → Type 0
IsUngreeted first h last = (h ≡ record { taken = []; moments = []; bytes = pdu_bytes greeting }) × (last ≡ first)

-- The reply to a PDU wasn't written whole: behind it nothing was served, and what was taken behind it came with it at once.
pub record StopsAtReply {A : Type 0} (reads : ReadsBy A) (first : A) (h : History) (last : A) : Type 0 where
  pub pdus : List (List ℕ)
  pub pdu : List ℕ
  pub rest : List ℕ
  pub beyond : List ℕ
  pub moments : List Moment
  pub bytes : List ℕ
  pub s : Standing A
  pub served : Served reads first h.taken pdus rest moments bytes s
  pub next : Splits rest (pdu ∷ []) beyond
  pub few : length beyond < most_piece
  pub deed : Deed A
  pub reply : Pdu
  pub does : Does reads s pdu deed
  pub replies : deed.reply ≡ Some reply
  pub all_moments : h.moments ≡ moments ++ deed.moments
  pub all_bytes : h.bytes ≡ bytes ++ reply_bytes reply
  pub stays : deed.after.agent ≡ last

-- a fetch that came next had its moment, or no moment was taken
abbrev pub ReachesNext : {A : Type 0} → Standing A → List ℕ → List Moment → Type 0
ReachesNext s rest [] = Unit {0}
ReachesNext s rest (moment ∷ []) = (fetch : List ℕ) × (beyond : List ℕ) × Splits rest (fetch ∷ []) beyond × AsksTheClock s fetch
ReachesNext s rest moments = ⊥

-- memory was refused, maybe while a next PDU was served
pub record RunsOut {A : Type 0} (reads : ReadsBy A) (loads : A → A → Type 0) (first : A) (h : History) (last : A) : Type 0 where
  pub pdus : List (List ℕ)
  pub rest : List ℕ
  pub moments : List Moment
  pub reached : List Moment
  pub s : Standing A
  pub served : Served reads first h.taken pdus rest moments h.bytes s
  pub all_moments : h.moments ≡ moments ++ reached
  pub next : ReachesNext s rest reached
  pub goes_on : (last ≡ s.agent) ⊎ loads s.agent last

-- Why a session ended. All whole PDUs that were taken were served, but where the clock gave no moment, the sink failed, or
-- memory was refused. Behind them stands nothing where the input ended between PDUs, the beginning of one where it ended
-- inside, or a length word that no PDU has; nothing was taken behind the bytes that came at once with that word, or with the
-- PDU whose reply wasn't written.
abbrev pub Ends : {A : Type 0} → ReadsBy A → (A → A → Type 0) → A → History → A → SessionEnd → Type 0
Ends reads loads first h last ends.Closed = ServedTo reads first h [] last × (length h.taken < most_taken)
Ends reads loads first h last (ends.Torn n) = (rest : List ℕ) × ServedTo reads first h rest last × IsBegun rest × (n ≡ length rest) × (0 < n) × (length h.taken < most_taken)
Ends reads loads first h last (ends.BadLength found) = (rest : List ℕ) × ServedTo reads first h rest last × IsBad rest found × (length rest < 4 + most_piece)
Ends reads loads first h last ends.ReadFault = (rest : List ℕ) × ServedTo reads first h rest last × IsBegun rest × (length h.taken < most_taken)
Ends reads loads first h last ends.WriteFault = IsUngreeted first h last ⊎ StopsAtReply reads first h last
Ends reads loads first h last ends.ClockFault = StopsAtClock reads first h last
Ends reads loads first h last ends.ClockEnd = StopsAtClock reads first h last
Ends reads loads first h last ends.Spent = (rest : List ℕ) × ServedTo reads first h rest last × IsBegun rest × (length h.taken ≡ most_taken)
Ends reads loads first h last ends.NoMemory = RunsOut reads loads first h last

-- some front of bytes was written
abbrev pub WritesFront : List ℕ → List ℕ → List ℕ → Type 0
WritesFront before after bytes = (front : List ℕ) × (unwritten : List ℕ) × (after ≡ before ++ front) × (bytes ≡ front ++ unwritten)

-- replies, one behind another
abbrev pub bytes_of_replies : List Pdu → List ℕ
bytes_of_replies [] = []
bytes_of_replies (reply ∷ replies) = reply_bytes reply ++ bytes_of_replies replies

-- the bytes are those of replies; all but the last were written, and some front of that one
pub record BreaksOff (before after bytes : List ℕ) : Type 0 where
  pub replies : List Pdu
  pub last : Pdu
  pub front : List ℕ
  pub unwritten : List ℕ
  pub are : bytes ≡ bytes_of_replies replies ++ reply_bytes last
  pub wrote : after ≡ before ++ (bytes_of_replies replies ++ front)
  pub of_last : reply_bytes last ≡ front ++ unwritten

-- all bytes were written, or all but a part of the last reply where the sink failed, or some front where memory was refused
abbrev pub WritesBy : SessionEnd → List ℕ → List ℕ → List ℕ → Type 0
WritesBy ends.WriteFault before after bytes = BreaksOff before after bytes
WritesBy ends.NoMemory before after bytes = WritesFront before after bytes
WritesBy end before after bytes = after ≡ before ++ bytes

-- What a session did. Where an object tells its content, this was taken from it, or written to it.
pub record Runs {A : Type 0} (reads : ReadsBy A) (loads : A → A → Type 0) (first last : A) (source : SourceSide) (sink : SinkSide) (clock : ClockSide) (end : SessionEnd) : Type 0 where
  pub history : History
  pub took : source.tells → source.left ≡ history.taken ++ source.after
  pub few : length history.taken ≤ most_taken
  pub asked : clock.tells → clock.left ≡ history.moments ++ clock.after
  pub wrote : sink.tells → WritesBy end sink.written sink.after history.bytes
  pub ends : Ends reads loads first history last end

-- Nothing is left of an input that ended, and no moment where the clock had none; and an object failed only where its count
-- of faults rose.
abbrev pub IsCaused : SourceSide → SinkSide → ClockSide → SessionEnd → Type 0
IsCaused source sink clock ends.Closed = source.tells → source.after ≡ []
IsCaused source sink clock (ends.Torn n) = source.tells → source.after ≡ []
IsCaused source sink clock (ends.BadLength found) = Unit {0}
IsCaused source sink clock ends.ReadFault = Rose source.faults source.faults_after
IsCaused source sink clock ends.WriteFault = Rose sink.faults sink.faults_after
IsCaused source sink clock ends.ClockFault = Rose clock.faults clock.faults_after
IsCaused source sink clock ends.ClockEnd = clock.tells → clock.after ≡ []
IsCaused source sink clock ends.Spent = Unit {0}
IsCaused source sink clock ends.NoMemory = Unit {0}

-- no count of faults falls
pub record CountsOn (source : SourceSide) (sink : SinkSide) (clock : ClockSide) : Type 0 where
  pub source_on : source.faults ≤ source.faults_after
  pub sink_on : sink.faults ≤ sink.faults_after
  pub clock_on : clock.faults ≤ clock.faults_after

-- no call of an object has failed
pub record AllStand (source : SourceSide) (sink : SinkSide) (clock : ClockSide) : Type 0 where
  pub source_stands : source.faults_after ≡ source.faults
  pub sink_stands : sink.faults_after ≡ sink.faults
  pub clock_stands : clock.faults_after ≡ clock.faults

-- nor one of another object than the end names
pub record OthersStand (source : SourceSide) (sink : SinkSide) (clock : ClockSide) (end : SessionEnd) : Type 0 where
  pub source_still : end ≢ ends.ReadFault → source.faults_after ≡ source.faults
  pub sink_still : end ≢ ends.WriteFault → sink.faults_after ≡ sink.faults
  pub clock_still : end ≢ ends.ClockFault → clock.faults_after ≡ clock.faults

-- a PDU whose type is that of a fetch
abbrev pub is_fetch : List ℕ → Bool
is_fetch pdu = bytes_eq (take 4 (drop 4 pdu)) (0 ∷ 0 ∷ 112 ∷ 3 ∷ [])

-- an input of whole PDUs, with fewer bytes than a session may take, and a moment for each fetch
pub record IsAnswerable (input : List ℕ) (moments : List Moment) : Type 0 where
  pub pdus : List (List ℕ)
  pub whole : Splits input pdus []
  pub few : length input < most_taken
  pub enough : length (filter is_fetch pdus) ≤ length moments

-- no object failed
pub record NoneFailed (source : SourceSide) (sink : SinkSide) (clock : ClockSide) : Type 0 where
  pub source_well : Rose source.faults source.faults_after → ⊥
  pub sink_well : Rose sink.faults sink.faults_after → ⊥
  pub clock_well : Rose clock.faults clock.faults_after → ⊥

-- such an input is answered to its end, unless memory is refused
abbrev pub Completes : SourceSide → SinkSide → ClockSide → SessionEnd → Type 0
Completes source sink clock end = source.tells → clock.tells → IsAnswerable source.left clock.left → NoneFailed source sink clock → (end ≡ ends.Closed) ⊎ (end ≡ ends.NoMemory)
