-- What holds where a client's peer is a session.
use Rattle.std.specs.Prelude.{◌≡◌, ℕ, ◌≤◌, List, ◌++◌, length, All}
use Rattle.pcp_outside.specs.Sides.{SourceSide, SinkSide, ClockSide}
use Rattle.pcp_outside.specs.declared.doors.SessionEnd.{SessionEnd}
use Rattle.pdu_stream.specs.Streams.{Splits}
use Rattle.fetch_engine.specs.declared.server.Mounted.{Mounted}
use Rattle.fetch_engine.specs.Servers.{Seated}
use Rattle.pmcd_session.specs.Agents.{LoadsRegions, ReadsRegions}
use Rattle.pmcd_session.specs.Sessions.{History, Runs, session_start}
use Rattle.pmcd_client.specs.Talks.{Sample}
use Rattle.pm_words.specs.declared.words.PullWords.{PullWords}
use Rattle.pm_pulling.specs.Ends.{CallSide, Orders}
use Rattle.pm_pulling.specs.Pulling.{Came, Says}
use Rattle.peer_sessions.specs.Answers.{AnswerEach}

-- A line from a sink to a source, both of which tell: what was taken is what was written, or the beginning of it.
pub record Carries (out : SinkSide) (input : SourceSide) : Type 0 where
  pub written_told : out.tells
  pub taken_told : input.tells
  pub taken : List ℕ
  pub untaken : List ℕ
  pub took : input.left ≡ taken ++ input.after
  pub wrote : out.after ≡ out.written ++ (taken ++ untaken)

-- the names that a dialogue is opened about are few and short
pub record AreShort (names : List (List ℕ)) : Type 0 where
  pub few : length names ≤ 64
  pub short : All (λ name. length name ≤ 400) names

-- The whole PDUs that a session took are answered so, from its beginning on: these samples' results are the answers to its
-- fetches, the first to the first one, and so on.
pub record AnswersAll (rows : List Mounted) (first : Seated) (h : History) (samples : List Sample) : Type 0 where
  pub pdus : List (List ℕ)
  pub rest : List ℕ
  pub stream : Splits h.taken pdus rest
  pub answers : AnswerEach rows (session_start first) pdus h.moments samples

-- However far a client's dialogue about some names came, and whatever ended the session, on a seat at any server: where the
-- session took what the client wrote, and the client took what the session wrote, each sample that came of the dialogue is the
-- answer to a fetch of that session, the first sample to the first one, and so on, over readings of the regions that are shown
-- or missed.
abbrev pub SamplesAreAnswers : SourceSide → SinkSide → SourceSide → SinkSide → ClockSide → Type 0
SamplesAreAnswers reply request input out clock =
    (came : Came) (names : List (List ℕ)) (samples : List Sample) → AreShort names → Says came names reply request samples
    → (rows : List Mounted) (first last : Seated) (end : SessionEnd) (runs : Runs (ReadsRegions rows) LoadsRegions first last input out clock end)
    → Carries request input → Carries out reply → AnswersAll rows first runs.history samples

-- And whatever a call that pulls came to (`Pulled` has all of this): of the samples that came over the dialogue about the names that
-- its words ask for, the first ones, which it logged, are those answers, in their order.
abbrev pub LoggedAreAnswers : {D : Type 0} → CallSide D → SourceSide → SinkSide → ClockSide → Type 0
LoggedAreAnswers c input out clock =
    (asked : PullWords) → Orders c.words asked → (came : Came) (logged unlogged : List Sample) → Says came asked.names c.pull.reply c.pull.request (logged ++ unlogged)
    → (rows : List Mounted) (first last : Seated) (end : SessionEnd) (runs : Runs (ReadsRegions rows) LoadsRegions first last input out clock end)
    → Carries c.pull.request input → Carries out c.pull.reply → AnswersAll rows first runs.history logged
