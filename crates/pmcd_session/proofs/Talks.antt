-- A session from its greeting on: what was done so far, and how it ends.
use Rattle.std.proofs.Common.{◌≡◌, inl, false, min, take, ℕ, ◌<◌, ◌≤◌, ◌+◌, ◌-◌, List, [], ◌++◌, length, refl, sym, ap, ◌∙◌, subst, arith}
use Rattle.std.specs.Prelude.{Ok, Err}
use Rattle.std.proofs.lemmas.List.{length-append, length-take}
use Rattle.pcp_outside.specs.declared.doors.SessionEnd.{SessionEnd}
use Rattle.pcp_outside.specs.declared.doors.SessionEnd.TheVariants as ends
use Rattle.pcp_outside.specs.declared.streams.Source.{Ghosts as SourceGhosts}
use Rattle.pcp_outside.specs.declared.streams.Sink.{Ghosts as SinkGhosts}
use Rattle.pcp_outside.specs.declared.clocks.Clock.{Ghosts as ClockGhosts}
use Rattle.pdu_codec.specs.Spelling.{pdu_bytes}
use Rattle.pdu_stream.specs.State.{State}
use Rattle.pdu_stream.specs.declared.phase.Phase.TheVariants.{Open}
use Rattle.pmcd_session.specs.declared.standing.Standing.{Standing}
use Rattle.profile_filter.specs.Kept.{Settings}
use Rattle.pmcd_session.specs.Contexts.{new_contexts}
use Rattle.pmcd_session.specs.Going.{Going, GoesBehind, Moves, then_more}
use Rattle.pmcd_session.specs.Pieces.{IsSendEnd}
use Rattle.pmcd_session.specs.Replies.{greeting, reply_bytes}
use Rattle.pmcd_session.specs.Serving.{ReadsBy}
use Rattle.pmcd_session.specs.Sessions.{CountsOn, Ends, History, Runs, WritesBy, session_start, most_piece, most_taken}
use Rattle.pcp_outside.specs.Sides.{source_side, sink_side, clock_side}
use Rattle.pmcd_session.proofs.Talking.{greeted, moves_since, on_since}
use Rattle.pmcd_session.proofs.Writings.{AreReplies, served_replies}

-- the session goes on, and this was taken and written
pub record Talks {A I O C : Type 0} (reads : ReadsBy A) (gi : SourceGhosts I) (go : SinkGhosts O) (gc : ClockGhosts C) (first : A) (i0 i1 : I) (o0 o1 : O) (c0 c1 : C) (taken : ℕ) (stream : State) (s : Standing A) : Type 0 where
  pub sofar : History
  pub moves : Moves {T = Unit {0}} (source_side gi i0 i1) (sink_side go o0 o1) (clock_side gc c0 c1) (Ok tt) sofar
  pub going : Going reads first sofar stream s
  pub many : length sofar.taken ≡ taken
  pub at_most : taken ≤ most_taken
  pub on : CountsOn (source_side gi i0 i1) (sink_side go o0 o1) (clock_side gc c0 c1)

-- a seat is renewed for a session
pub renewed : {A : Type 0} (first : A) (contexts : List Settings) → contexts ≡ new_contexts → record { is_met = false; contexts = contexts; agent = first } ≡ session_start first
renewed {A = A} first contexts is = ap (λ (cs : List Settings). made cs) is
  where
    made : List Settings → Standing A
    made cs = record { is_met = false; contexts = cs; agent = first }

-- the greeting alone
abbrev pub greeting_alone : History
greeting_alone = record { taken = []; moments = []; bytes = pdu_bytes greeting }

pub talks_at_first : {A I O C : Type 0} (reads : ReadsBy A) (gi : SourceGhosts I) (go : SinkGhosts O) (gc : ClockGhosts C) (first : A) (i0 : I) (o0 o1 : O) (c0 : C) (stream : State) (s : Standing A)
    → s ≡ session_start first → stream ≡ record { phase = Open; rest = [] } → (go.tells → go.written o1 ≡ go.written o0 ++ reply_bytes greeting) → go.faults o0 ≤ go.faults o1
    → Talks reads gi go gc first i0 i0 o0 o1 c0 c0 0 stream s
talks_at_first {A = A} reads gi go gc first i0 o0 o1 c0 stream s s_is stream_is wrote later = record {
  sofar = greeting_alone;
  moves = record { took = λ tells. refl; asked = λ tells. refl; wrote = wrote };
  going =
      subst (λ (x : State). Going reads first greeting_alone x s) (sym stream_is)
      (subst (λ (x : Standing A). Going reads first greeting_alone (record { phase = Open; rest = [] }) x) (sym s_is)
      (record { pdus = []; open_ = refl; begins = inl (omega arith); served = greeted reads first }));
  many = refl;
  at_most = omega arith;
  on = record { source_on = omega arith; sink_on = later; clock_on = omega arith };
}

-- whole replies were written so far
replies_so_far : {A I O C : Type 0} (reads : ReadsBy A) (gi : SourceGhosts I) (go : SinkGhosts O) (gc : ClockGhosts C) (first : A) (i0 i1 : I) (o0 o1 : O) (c0 c1 : C) (taken : ℕ) (stream : State) (s : Standing A)
    → (t : Talks reads gi go gc first i0 i1 o0 o1 c0 c1 taken stream s) → AreReplies t.sofar.bytes
replies_so_far reads gi go gc first i0 i1 o0 o1 c0 c1 taken stream s t = served_replies reads first t.sofar.taken t.going.pdus stream.rest t.sofar.moments t.sofar.bytes s t.going.served

-- a step more
pub talks_on : {A I O C : Type 0} (reads : ReadsBy A) (loads : A → A → Type 0) (gi : SourceGhosts I) (go : SinkGhosts O) (gc : ClockGhosts C) (first : A) (i0 i1 i2 : I) (o0 o1 o2 : O) (c0 c1 c2 : C) (taken n room : ℕ) (stream later : State) (s after : Standing A) (more : History)
    → Talks reads gi go gc first i0 i1 o0 o1 c0 c1 taken stream s → taken < most_taken → room ≤ most_taken - taken → room ≤ most_piece
    → Moves {T = ℕ} (source_side gi i1 i2) (sink_side go o1 o2) (clock_side gc c1 c2) (Ok n) more → GoesBehind {T = ℕ} reads loads more stream s later after (Ok n)
    → length more.taken ≤ room → n ≡ length more.taken → CountsOn (source_side gi i1 i2) (sink_side go o1 o2) (clock_side gc c1 c2)
    → Talks reads gi go gc first i0 i2 o0 o2 c0 c2 (taken + n) later after
talks_on reads loads gi go gc first i0 i1 i2 o0 o1 o2 c0 c1 c2 taken n room stream later s after more t few fits at_once moves goes small n_is on =
    let many : length t.sofar.taken ≡ taken = t.many in
    let at_most : taken ≤ most_taken = t.at_most in
    let both : Moves {T = ℕ} (source_side gi i0 i2) (sink_side go o0 o2) (clock_side gc c0 c2) (Ok n) (then_more t.sofar more) = moves_since gi go gc i0 i1 i2 o0 o1 o2 c0 c1 c2 tt (Ok n) t.sofar more (replies_so_far reads gi go gc first i0 i1 o0 o1 c0 c1 taken stream s t) t.moves moves in
    record {
      sofar = then_more t.sofar more;
      moves = record { took = both.took; asked = both.asked; wrote = both.wrote };
      going = goes first t.sofar (omega (arith, many, few)) (omega (arith, small, at_once)) t.going;
      many = length-append t.sofar.taken more.taken ∙ omega (arith, many, n_is);
      at_most = omega (arith, fits, small, n_is, at_most, few);
      on = on_since gi go gc i0 i1 i2 o0 o1 o2 c0 c1 c2 t.on on;
    }

-- the last step
pub talks_end : {A I O C : Type 0} (reads : ReadsBy A) (loads : A → A → Type 0) (gi : SourceGhosts I) (go : SinkGhosts O) (gc : ClockGhosts C) (first : A) (i0 i1 i2 : I) (o0 o1 o2 : O) (c0 c1 c2 : C) (taken room : ℕ) (stream later : State) (s after : Standing A) (more : History) (end : SessionEnd)
    → Talks reads gi go gc first i0 i1 o0 o1 c0 c1 taken stream s → taken < most_taken → room ≤ most_taken - taken → room ≤ most_piece
    → Moves {T = ℕ} (source_side gi i1 i2) (sink_side go o1 o2) (clock_side gc c1 c2) (Err end) more → GoesBehind {T = ℕ} reads loads more stream s later after (Err end)
    → length more.taken ≤ room
    → Runs reads loads first after.agent (source_side gi i0 i2) (sink_side go o0 o2) (clock_side gc c0 c2) end
talks_end reads loads gi go gc first i0 i1 i2 o0 o1 o2 c0 c1 c2 taken room stream later s after more end t few fits at_once moves goes small =
    let many : length t.sofar.taken ≡ taken = t.many in
    let both : Moves {T = ℕ} (source_side gi i0 i2) (sink_side go o0 o2) (clock_side gc c0 c2) (Err end) (then_more t.sofar more) = moves_since gi go gc i0 i1 i2 o0 o1 o2 c0 c1 c2 tt (Err end) t.sofar more (replies_so_far reads gi go gc first i0 i1 o0 o1 c0 c1 taken stream s t) t.moves moves in
    let long : length (t.sofar.taken ++ more.taken) ≡ length t.sofar.taken + length more.taken = length-append t.sofar.taken more.taken in
    record {
      history = then_more t.sofar more;
      took = both.took;
      few = omega (arith, long, many, fits, small, few);
      asked = both.asked;
      wrote = both.wrote;
      ends = goes first t.sofar (omega (arith, many, few)) (omega (arith, small, at_once)) t.going;
    }

-- all bytes that a session may take were taken
pub talks_enough : {A I O C : Type 0} (reads : ReadsBy A) (loads : A → A → Type 0) (gi : SourceGhosts I) (go : SinkGhosts O) (gc : ClockGhosts C) (first : A) (i0 i1 : I) (o0 o1 : O) (c0 c1 : C) (taken : ℕ) (stream : State) (s : Standing A)
    → Talks reads gi go gc first i0 i1 o0 o1 c0 c1 taken stream s → most_taken ≤ taken
    → Runs reads loads first s.agent (source_side gi i0 i1) (sink_side go o0 o1) (clock_side gc c0 c1) ends.Spent
talks_enough reads loads gi go gc first i0 i1 o0 o1 c0 c1 taken stream s t enough =
    let many : length t.sofar.taken ≡ taken = t.many in
    let at_most : taken ≤ most_taken = t.at_most in
    record {
      history = t.sofar;
      took = t.moves.took;
      few = omega (arith, many, at_most);
      asked = t.moves.asked;
      wrote = t.moves.wrote;
      ends = (stream.rest, record { pdus = t.going.pdus; s = s; served = t.going.served; stays = refl }, t.going.begins, omega (arith, many, at_most, enough));
    }

-- the greeting wasn't written
pub never_talks : {A I O C : Type 0} (reads : ReadsBy A) (loads : A → A → Type 0) (gi : SourceGhosts I) (go : SinkGhosts O) (gc : ClockGhosts C) (first : A) (i0 : I) (o0 o1 : O) (c0 : C) (end : SessionEnd)
    → IsSendEnd end → (go.tells → WritesBy end (go.written o0) (go.written o1) (reply_bytes greeting))
    → Runs reads loads first first (source_side gi i0 i0) (sink_side go o0 o1) (clock_side gc c0 c0) end
never_talks {A = A} {I = I} {O = O} {C = C} reads loads gi go gc first i0 o0 o1 c0 end is wrote = record {
  history = greeting_alone;
  took = λ tells. refl;
  few = omega arith;
  asked = λ tells. refl;
  wrote = wrote;
  ends = by_end end is;
}
  where
    by_end : (e : SessionEnd) → IsSendEnd e → Ends reads loads first greeting_alone first e
    by_end ends.WriteFault h = inl (refl, refl)
    by_end ends.NoMemory h = record { pdus = []; rest = []; moments = []; reached = []; s = session_start first; served = greeted reads first; all_moments = refl; next = tt; goes_on = inl refl }
    by_end ends.Closed h = absurd h
    by_end (ends.Torn n) h = absurd h
    by_end (ends.BadLength found) h = absurd h
    by_end ends.ReadFault h = absurd h
    by_end ends.ClockFault h = absurd h
    by_end ends.ClockEnd h = absurd h
    by_end ends.Spent h = absurd h

-- no more is taken than may be
pub room_fits : (taken room : ℕ) (buffer : List ℕ) → room ≡ min (1099511627776 - taken) 4096 → length (take room buffer) ≤ most_taken - taken
room_fits taken room buffer is = omega (arith, is, length-take room buffer)

-- nor at once
pub room_small : (taken room : ℕ) (buffer : List ℕ) → room ≡ min (1099511627776 - taken) 4096 → length (take room buffer) ≤ most_piece
room_small taken room buffer is = omega (arith, is, length-take room buffer)
