-- Steps of a session, one behind another.
use Rattle.std.proofs.Common.{◌≡◌, inl, inr, ℕ, zero, suc, ◌<◌, ◌≤◌, ◌==◌, Bool, true, false, List, [], ◌∷◌, ◌++◌, length, take, refl, sym, ap, ◌∙◌, subst, append_assoc, arith}
use Rattle.std.specs.Prelude.{Result, Ok, Err, if◌then◌else◌}
use Rattle.std.proofs.lemmas.Bool.{eqb-true, eqb-false}
use Rattle.std.proofs.lemmas.List.{append-nil}
use Rattle.pcp_base.specs.Time.{Moment}
use Rattle.pcp_outside.specs.Causes.{Rose}
use Rattle.pcp_outside.specs.declared.doors.SessionEnd.{SessionEnd}
use Rattle.pcp_outside.specs.declared.doors.SessionEnd.TheVariants as ends
use Rattle.pcp_outside.specs.declared.streams.Source.{Ghosts as SourceGhosts}
use Rattle.pcp_outside.specs.declared.streams.Sink.{Ghosts as SinkGhosts}
use Rattle.pcp_outside.specs.declared.clocks.Clock.{Ghosts as ClockGhosts}
use Rattle.pdu_codec.specs.Spelling.{pdu_bytes}
use Rattle.pdu_stream.specs.State.{State}
use Rattle.pdu_stream.specs.Streams.{Splits}
use Rattle.pdu_stream.specs.Reading.{pending_for, pending_in}
use Rattle.pdu_stream.specs.declared.phase.Phase.{Phase}
use Rattle.pdu_stream.specs.declared.phase.Phase.TheVariants.{Open}
use Rattle.pmcd_session.specs.declared.standing.Standing.{Standing}
use Rattle.pmcd_session.specs.Going.{Going, GoesBehind, Moves, end_of_input, then_more}
use Rattle.pmcd_session.specs.Pieces.{HasReason}
use Rattle.pmcd_session.specs.Replies.{greeting}
use Rattle.pmcd_session.specs.Serving.{DoesAll, ReadsBy}
use Rattle.pmcd_session.specs.Sessions.{CountsOn, Ends, History, IsCaused, Served, ServedTo, session_start, most_taken}
use Rattle.pcp_outside.specs.Sides.{SourceSide, SinkSide, ClockSide, source_side, sink_side, clock_side}
use Rattle.pmcd_session.proofs.Deeds.{none_done}
use Rattle.pmcd_session.proofs.Writings.{AreReplies, in_behind}

-- ---- causes

pub rose_since : (a b c : ℕ) → a ≤ b → Rose b c → Rose a c
rose_since a b c on (inl less) = inl (omega arith)
rose_since a b c on (inr most) = inr most

-- while PDUs were served nothing else ends a session
pub caused_by : (source : SourceSide) (sink : SinkSide) (clock : ClockSide) (end : SessionEnd) → HasReason clock.tells clock.after clock.faults clock.faults_after sink.faults sink.faults_after end → IsCaused source sink clock end
caused_by source sink clock ends.Closed h = absurd h
caused_by source sink clock (ends.Torn n) h = absurd h
caused_by source sink clock (ends.BadLength found) h = tt
caused_by source sink clock ends.ReadFault h = absurd h
caused_by source sink clock ends.WriteFault h = h
caused_by source sink clock ends.ClockFault h = h
caused_by source sink clock ends.ClockEnd h = h
caused_by source sink clock ends.Spent h = tt
caused_by source sink clock ends.NoMemory h = tt

pub caused_since : {I O C : Type 0} (gi : SourceGhosts I) (go : SinkGhosts O) (gc : ClockGhosts C) (i0 i1 i2 : I) (o0 o1 o2 : O) (c0 c1 c2 : C) (end : SessionEnd)
    → CountsOn (source_side gi i0 i1) (sink_side go o0 o1) (clock_side gc c0 c1) → IsCaused (source_side gi i1 i2) (sink_side go o1 o2) (clock_side gc c1 c2) end
    → IsCaused (source_side gi i0 i2) (sink_side go o0 o2) (clock_side gc c0 c2) end
caused_since gi go gc i0 i1 i2 o0 o1 o2 c0 c1 c2 ends.Closed on h = h
caused_since gi go gc i0 i1 i2 o0 o1 o2 c0 c1 c2 (ends.Torn n) on h = h
caused_since gi go gc i0 i1 i2 o0 o1 o2 c0 c1 c2 (ends.BadLength found) on h = tt
caused_since gi go gc i0 i1 i2 o0 o1 o2 c0 c1 c2 ends.ReadFault on h = rose_since (gi.faults i0) (gi.faults i1) (gi.faults i2) on.source_on h
caused_since gi go gc i0 i1 i2 o0 o1 o2 c0 c1 c2 ends.WriteFault on h = rose_since (go.faults o0) (go.faults o1) (go.faults o2) on.sink_on h
caused_since gi go gc i0 i1 i2 o0 o1 o2 c0 c1 c2 ends.ClockFault on h = rose_since (gc.faults c0) (gc.faults c1) (gc.faults c2) on.clock_on h
caused_since gi go gc i0 i1 i2 o0 o1 o2 c0 c1 c2 ends.ClockEnd on h = h
caused_since gi go gc i0 i1 i2 o0 o1 o2 c0 c1 c2 ends.Spent on h = tt
caused_since gi go gc i0 i1 i2 o0 o1 o2 c0 c1 c2 ends.NoMemory on h = tt

pub on_since : {I O C : Type 0} (gi : SourceGhosts I) (go : SinkGhosts O) (gc : ClockGhosts C) (i0 i1 i2 : I) (o0 o1 o2 : O) (c0 c1 c2 : C)
    → CountsOn (source_side gi i0 i1) (sink_side go o0 o1) (clock_side gc c0 c1) → CountsOn (source_side gi i1 i2) (sink_side go o1 o2) (clock_side gc c1 c2)
    → CountsOn (source_side gi i0 i2) (sink_side go o0 o2) (clock_side gc c0 c2)
on_since gi go gc i0 i1 i2 o0 o1 o2 c0 c1 c2 a b =
    let a0 : gi.faults i0 ≤ gi.faults i1 = a.source_on in
    let a1 : go.faults o0 ≤ go.faults o1 = a.sink_on in
    let a2 : gc.faults c0 ≤ gc.faults c1 = a.clock_on in
    let b0 : gi.faults i1 ≤ gi.faults i2 = b.source_on in
    let b1 : go.faults o1 ≤ go.faults o2 = b.sink_on in
    let b2 : gc.faults c1 ≤ gc.faults c2 = b.clock_on in
    record { source_on = omega arith; sink_on = omega arith; clock_on = omega arith }

-- ---- what was taken and written

-- two steps are one
pub moves_since : {I O C T U : Type 0} (gi : SourceGhosts I) (go : SinkGhosts O) (gc : ClockGhosts C) (i0 i1 i2 : I) (o0 o1 o2 : O) (c0 c1 c2 : C) (done : U) (r : Result T SessionEnd) (h more : History) → AreReplies h.bytes
    → Moves (source_side gi i0 i1) (sink_side go o0 o1) (clock_side gc c0 c1) (Ok done) h → Moves (source_side gi i1 i2) (sink_side go o1 o2) (clock_side gc c1 c2) r more
    → Moves (source_side gi i0 i2) (sink_side go o0 o2) (clock_side gc c0 c2) r (then_more h more)
moves_since gi go gc i0 i1 i2 o0 o1 o2 c0 c1 c2 done r h more replies a b = record {
  took = λ tells. a.took tells ∙ ap (λ (t : List ℕ). h.taken ++ t) (b.took tells) ∙ sym (append_assoc h.taken more.taken (gi.left i2));
  asked = λ tells. a.asked tells ∙ ap (λ (t : List Moment). h.moments ++ t) (b.asked tells) ∙ sym (append_assoc h.moments more.moments (gc.left c2));
  wrote = λ tells. in_behind r (go.written o0) (go.written o1) (go.written o2) h.bytes more.bytes replies (a.wrote tells) (b.wrote tells);
}

-- ---- where the input ends, or the source fails

abbrev pub nothing : History
nothing = record { taken = []; moments = []; bytes = [] }

unchanged : {A : Type 0} (reads : ReadsBy A) (first : A) (h : History) (stream : State) (s : Standing A) (g : Going reads first h stream s) → ServedTo reads first (then_more h nothing) stream.rest s.agent
unchanged {A = A} reads first h stream s g = record {
  pdus = g.pdus;
  s = s;
  served = record {
    stream = subst (λ (t : List ℕ). Splits t g.pdus stream.rest) (sym (append-nil h.taken)) g.served.stream;
    replies = g.served.replies;
    does = subst (λ (m : List Moment). DoesAll reads (session_start first) g.pdus (record { moments = m; written = g.served.replies; after = s })) (sym (append-nil h.moments)) g.served.does;
    is = append-nil h.bytes ∙ g.served.is;
  };
  stays = refl;
}

fewer_still : (taken : List ℕ) → length taken < most_taken → length (taken ++ []) < most_taken
fewer_still taken few = subst (λ (t : List ℕ). length t < most_taken) (sym (append-nil taken)) few

pub ends_at_fault : {A : Type 0} (T : Type 0) (reads : ReadsBy A) (loads : A → A → Type 0) (stream : State) (s : Standing A) → GoesBehind {T = T} reads loads nothing stream s stream s (Err ends.ReadFault)
ends_at_fault T reads loads stream s first h few small g = (stream.rest, unchanged reads first h stream s g, g.begins, fewer_still h.taken few)

pending_is : (stream : State) → stream.phase ≡ Open → pending_in stream ≡ length stream.rest
pending_is stream is = ap (λ (p : Phase). pending_for p stream.rest) is

empty : {X : Type 0} (xs : List X) → length xs ≡ 0 → xs ≡ []
empty [] e = refl
empty (x ∷ xs) e = absurd (omega arith)

some_of : (n : ℕ) → (n ≡ 0 → ⊥) → 0 < n
some_of zero h = absurd (h refl)
some_of (suc n) h = omega arith

pub ends_at_end : {A : Type 0} (T : Type 0) (reads : ReadsBy A) (loads : A → A → Type 0) (stream : State) (s : Standing A) (pending : ℕ) (end : SessionEnd) → pending ≡ pending_in stream → end ≡ end_of_input pending
    → GoesBehind {T = T} reads loads nothing stream s stream s (Err end)
ends_at_end {A = A} T reads loads stream s pending end there is first h few small g =
    subst (λ (e : SessionEnd). Ends reads loads first (then_more h nothing) s.agent e) (sym is) (by_test (pending == 0) refl)
  where
    long : pending ≡ length stream.rest
    long = there ∙ pending_is stream g.open_

    to : ServedTo reads first (then_more h nothing) stream.rest s.agent
    to = unchanged reads first h stream s g

    by_test : (b : Bool) → (pending == 0) ≡ b → Ends reads loads first (then_more h nothing) s.agent (if b then ends.Closed else ends.Torn pending)
    by_test true e =
        let none : stream.rest ≡ [] = empty stream.rest (sym long ∙ eqb-true pending 0 e) in
        (subst (λ (t : List ℕ). ServedTo reads first (then_more h nothing) t s.agent) none to, fewer_still h.taken few)
    by_test false e = (stream.rest, to, g.begins, long, some_of pending (eqb-false pending 0 e), fewer_still h.taken few)

pub caused_at_end : (source : SourceSide) (sink : SinkSide) (clock : ClockSide) (pending : ℕ) (end : SessionEnd) → end ≡ end_of_input pending → (source.tells → source.after ≡ []) → IsCaused source sink clock end
caused_at_end source sink clock pending end is gone = subst (λ (e : SessionEnd). IsCaused source sink clock e) (sym is) (by_test (pending == 0))
  where
    by_test : (b : Bool) → IsCaused source sink clock (if b then ends.Closed else ends.Torn pending)
    by_test true = gone
    by_test false = gone

-- ---- the greeting

pub greeted : {A : Type 0} (reads : ReadsBy A) (first : A) → Served reads first [] [] [] [] (pdu_bytes greeting) (session_start first)
greeted reads first = record {
  stream = record { is = refl; whole = tt };
  replies = [];
  does = none_done reads (session_start first);
  is = sym (append-nil (pdu_bytes greeting));
}

-- ---- bytes of the source

pub none_came : (n : ℕ) (buffer before after : List ℕ) → n ≡ 0 → before ≡ take n buffer ++ after → before ≡ [] ++ after
none_came n buffer before after none next = next ∙ ap (λ (k : ℕ). take k buffer ++ after) none
