-- Where a client's peer is a session, its samples are the answers to that session's fetches.
use Rattle.std.proofs.Common.{◌≡◌, ◌⊎◌, inl, inr, ℕ, List, [], ◌∷◌, ◌++◌, sym, ap, ◌∙◌, subst, append_assoc}
use Rattle.std.proofs.lemmas.List.{append_cancel_left, append_cancel_right}
use Rattle.pcp_outside.specs.Sides.{SourceSide, SinkSide, ClockSide}
use Rattle.pcp_outside.specs.declared.doors.SessionEnd.{SessionEnd}
use Rattle.pcp_base.specs.Time.{Moment}
use Rattle.pdu_stream.specs.Streams.{bytes_of_pdus}
use Rattle.pdu_codec.specs.declared.pdu.Pdu.{Pdu}
use Rattle.pdu_codec.specs.Spelling.{pdu_bytes}
use Rattle.fetch_engine.specs.declared.server.Mounted.{Mounted}
use Rattle.fetch_engine.specs.Servers.{Seated}
use Rattle.pmcd_session.specs.declared.standing.Standing.{Standing}
use Rattle.pmcd_session.specs.Agents.{LoadsRegions, ReadsRegions}
use Rattle.pmcd_session.specs.Replies.{greeting}
use Rattle.pmcd_session.specs.Sessions.{History, Runs, session_start}
use Rattle.pmcd_client.specs.Bytes.{AreReplies, turn_bytes, turns_bytes}
use Rattle.pmcd_client.specs.Replies.{opened}
use Rattle.pmcd_client.specs.Talks.{Sample}
use Rattle.pmcd_client.specs.Turns.{Turn, opening}
use Rattle.pm_pulling.specs.Ends.{CallSide}
use Rattle.peer_sessions.specs.Answers.{AnswerEach}
use Rattle.peer_sessions.specs.Laws.{AnswersAll, AreShort, Carries, LoggedAreAnswers, SamplesAreAnswers}
use Rattle.peer_sessions.proofs.Dialogues.{Talked, talked}
use Rattle.peer_sessions.proofs.Ends.{ServesSome, WritesSome, serves_some, writes_some}
use Rattle.peer_sessions.proofs.Names.{asked_short}
use Rattle.peer_sessions.proofs.Opening.{all_opened, few_pmids}
use Rattle.peer_sessions.proofs.Sampling.{all_bytes-append, each_answered, parted}

module _ (reply : SourceSide) (request : SinkSide) (input : SourceSide) (out : SinkSide) (clock : ClockSide) (names : List (List ℕ)) (samples : List Sample) (short : AreShort names)
    (rows : List Mounted) (first last : Seated) (end : SessionEnd) (runs : Runs (ReadsRegions rows) LoadsRegions first last input out clock end) (to : Carries request input) (from : Carries out reply) where
  abbrev h : History
  h = runs.history

  served : ServesSome (ReadsRegions rows) first h
  served = serves_some (ReadsRegions rows) LoadsRegions first h last end runs.ends

  taken_is : to.taken ≡ h.taken
  taken_is = append_cancel_right to.taken h.taken input.after (sym to.took ∙ runs.took to.taken_told)

  wrote_some : WritesSome out.written out.after h.bytes
  wrote_some = writes_some end out.written out.after h.bytes (runs.wrote from.written_told)

  front_is : wrote_some.front ≡ from.taken ++ from.untaken
  front_is = append_cancel_left out.written wrote_some.front (from.taken ++ from.untaken) (sym wrote_some.wrote ∙ from.wrote)

  module _ (t : Talked names reply request samples) where
    abbrev requests : List ℕ
    requests = (t.wrote to.written_told).0

    asked_all : bytes_of_pdus served.pdus ++ (served.rest ++ to.untaken) ≡ turns_bytes t.turns ++ requests
    asked_all =
        sym (append_assoc (bytes_of_pdus served.pdus) served.rest to.untaken) ∙ ap (λ (x : List ℕ). x ++ to.untaken) (sym served.stream.is ∙ sym taken_is)
        ∙ append_cancel_left request.written (to.taken ++ to.untaken) (turns_bytes t.turns ++ requests) (sym to.wrote ∙ (t.wrote to.written_told).1)

    read_is : from.taken ≡ t.taken ++ t.more
    read_is = append_cancel_right from.taken (t.taken ++ t.more) reply.after (sym from.took ∙ t.took from.taken_told)

    told_all : (t.taken ++ t.more) ++ (from.untaken ++ wrote_some.unwritten) ≡ pdu_bytes greeting ++ served.deeds.written
    told_all =
        ap (λ (x : List ℕ). x ++ (from.untaken ++ wrote_some.unwritten)) (sym read_is) ∙ sym (append_assoc from.taken from.untaken wrote_some.unwritten)
        ∙ ap (λ (x : List ℕ). x ++ wrote_some.unwritten) (sym front_is) ∙ sym wrote_some.are ∙ served.bytes

    each : AnswerEach rows (session_start first) served.pdus h.moments samples
    each =
        let a = t.asks in
        let p = parted t.taken a.first a.later (subst (λ (l : List Pdu). AreReplies t.taken l) a.are t.are) in
        let later : List ℕ = turns_bytes a.later_turns in
        let rest : List ℕ = served.rest ++ to.untaken in
        let unread : List ℕ = from.untaken ++ wrote_some.unwritten in
        let asked : bytes_of_pdus served.pdus ++ rest ≡ turns_bytes (opening names a.first) ++ (later ++ requests) =
        asked_all ∙ ap (λ (l : List Turn). turns_bytes l ++ requests) a.asked ∙ ap (λ (x : List ℕ). x ++ requests) (all_bytes-append turn_bytes (opening names a.first) a.later_turns)
        ∙ append_assoc (turns_bytes (opening names a.first)) later requests in
        let told : (p.front ++ (p.back ++ t.more)) ++ unread ≡ pdu_bytes greeting ++ served.deeds.written =
        ap (λ (x : List ℕ). x ++ unread) (sym (ap (λ (x : List ℕ). x ++ t.more) p.cut ∙ append_assoc p.front p.back t.more)) ∙ told_all in
        let x = all_opened (ReadsRegions rows) first names short.few short.short served.pdus served.deeds served.stream.whole served.does rest (later ++ requests) (p.back ++ t.more) unread a.first p.front a.answered p.first asked told in
        each_answered rows samples (session_start first) served.pdus served.deeds h.moments served.extra (opened names a.first) a.later_turns a.later t.s p.back requests t.more (few_pmids names a.first short.few) a.samples p.second served.moments x

  answers : Talked names reply request samples → AnswersAll rows first h samples
  answers t = record { pdus = served.pdus; rest = served.rest; stream = served.stream; answers = each t }

  none : samples ≡ [] → AnswersAll rows first h samples
  none is = record { pdus = served.pdus; rest = served.rest; stream = served.stream; answers = subst (λ (l : List Sample). AnswerEach rows (session_start first) served.pdus h.moments l) (sym is) tt }

  pub all_answered : (samples ≡ []) ⊎ Talked names reply request samples → AnswersAll rows first h samples
  all_answered (inl is) = none is
  all_answered (inr t) = answers t

pub samples_are_answers : (reply : SourceSide) (request : SinkSide) (input : SourceSide) (out : SinkSide) (clock : ClockSide) → SamplesAreAnswers reply request input out clock
samples_are_answers reply request input out clock = λ came names samples short says rows first last end runs to from.
    all_answered reply request input out clock names samples short rows first last end runs to from (talked came names reply request samples says)

-- ---- of a call that pulls

-- the first samples are answered so
first_answered : (rows : List Mounted) (s : Standing Seated) (pdus_left : List (List ℕ)) (moments_left : List Moment) (xs ys : List Sample) → AnswerEach rows s pdus_left moments_left (xs ++ ys) → AnswerEach rows s pdus_left moments_left xs
first_answered rows s pdus_left moments_left [] ys a = tt
first_answered rows s pdus_left moments_left (x ∷ xs) ys a = (a.0, first_answered rows a.0.deed.after a.0.behind a.0.later xs ys a.1)

pub logged_are_answers : {D : Type 0} (c : CallSide D) (input : SourceSide) (out : SinkSide) (clock : ClockSide) → LoggedAreAnswers c input out clock
logged_are_answers c input out clock = λ asked orders came logged unlogged says rows first last end runs to from.
    let all = samples_are_answers c.pull.reply c.pull.request input out clock came asked.names (logged ++ unlogged) (asked_short c.words asked orders) says rows first last end runs to from in
    record { pdus = all.pdus; rest = all.rest; stream = all.stream; answers = first_answered rows (session_start first) all.pdus runs.history.moments logged unlogged all.answers }
