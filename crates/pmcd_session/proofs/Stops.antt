-- A session that ends at one of the PDUs of a piece.
use Rattle.std.proofs.Common.{◌≡◌, ℕ, List, [], ◌∷◌, ◌++◌, Some, inr, refl, sym, ap, ◌∙◌, subst, append_assoc}
use Rattle.std.specs.Prelude.{Ok, Err}
use Rattle.std.proofs.lemmas.List.{append-nil}
use Rattle.pcp_base.specs.Time.{Moment}
use Rattle.pcp_outside.specs.declared.doors.SessionEnd.{SessionEnd}
use Rattle.pcp_outside.specs.declared.doors.SessionEnd.TheVariants as ends
use Rattle.pdu_stream.specs.State.{State}
use Rattle.pdu_stream.specs.Streams.{Splits, bytes_of_pdus}
use Rattle.pdu_stream.specs.Reading.{HasRead}
use Rattle.pmcd_session.specs.declared.standing.Standing.{Standing}
use Rattle.pmcd_session.specs.Going.{Brings, GoesBehind}
use Rattle.pmcd_session.specs.Pieces.{IsReplied, ServesOne, StopsWithin}
use Rattle.pmcd_session.specs.Replies.{reply_bytes}
use Rattle.pmcd_session.specs.Serving.{AsksTheClock, Reaches, ReadsBy}
use Rattle.pmcd_session.specs.Sessions.{Ends, ReachesNext, Served, StopsAtClock, StopsAtReply}
use Rattle.pmcd_session.proofs.Endings.{fewer, next_behind}
use Rattle.pmcd_session.proofs.Lasts.{few_behind_last}
use Rattle.pmcd_session.proofs.Steps.{more_served, read_of}
use Rattle.pmcd_session.proofs.Streams.{splits_at}

-- the fetch that comes next had its moment
reaches_next : {A : Type 0} (s : Standing A) (rest pdu beyond : List ℕ) (moments : List Moment) → Splits rest (pdu ∷ []) beyond → Reaches s pdu moments → ReachesNext s rest moments
reaches_next s rest pdu beyond [] split r = tt
reaches_next s rest pdu beyond (moment ∷ []) split r = (pdu, beyond, split, r)
reaches_next s rest pdu beyond (moment ∷ (next ∷ more)) split r = r

pub ends_within : {A : Type 0} (T : Type 0) (reads : ReadsBy A) (loads : A → A → Type 0) (piece : List ℕ) (pdus : List (List ℕ)) (moments : List Moment) (bytes : List ℕ) (stream between : State) (s after : Standing A) (end : SessionEnd)
    → ((taken : List ℕ) (given : List (List ℕ)) → HasRead taken given stream → Brings (taken ++ piece) given stream between (Ok pdus))
    → StopsWithin reads loads s pdus moments bytes after end
    → GoesBehind {T = T} reads loads (record { taken = piece; moments = moments; bytes = bytes }) stream s between after (Err end)
ends_within {A = A} T reads loads piece pdus moments bytes stream between s after end brings st first h few small g =
    subst (λ (m : List Moment). Ends reads loads first (record { taken = whole; moments = h.moments ++ m; bytes = h.bytes ++ bytes }) after.agent end) (sym st.all_moments)
    (subst (λ (t : List ℕ). Ends reads loads first (record { taken = whole; moments = h.moments ++ (st.earlier ++ st.last); bytes = h.bytes ++ t }) after.agent end) (sym st.all_bytes)
    (by_end end st.last st.reply st.stops))
  where
    whole : List ℕ
    whole = h.taken ++ piece

    b : Brings whole g.pdus stream between (Ok pdus)
    b = brings h.taken g.pdus (read_of reads first h stream s g)

    front : (rest : List ℕ) × Splits whole (g.pdus ++ pdus) rest
    front = splits_at whole (g.pdus ++ pdus) between.phase between.rest b.1

    before : List (List ℕ)
    before = g.pdus ++ st.served

    all : Splits whole (before ++ st.pdu ∷ st.behind) front.0
    all = subst (λ (x : List (List ℕ)). Splits whole x front.0) (ap (λ (x : List (List ℕ)). g.pdus ++ x) st.are ∙ sym (append_assoc g.pdus st.served (st.pdu ∷ st.behind))) front.1

    rest : List ℕ
    rest = bytes_of_pdus (st.pdu ∷ st.behind) ++ front.0

    beyond : List ℕ
    beyond = bytes_of_pdus st.behind ++ front.0

    next : Splits rest (st.pdu ∷ []) beyond
    next = next_behind whole before st.behind st.pdu front.0 all

    served : Served reads first whole before rest (h.moments ++ st.earlier) (h.bytes ++ st.replies) st.between
    served = more_served reads first h.taken whole g.pdus st.served stream.rest rest h.moments st.earlier h.bytes st.replies s st.between g.served
        (fewer whole before (st.pdu ∷ st.behind) front.0 all) st.does

    -- nothing was written for the last one, and no moment was taken for it
    unmoved : (m : List Moment) (t : List ℕ) → m ≡ [] → t ≡ [] → Served reads first whole before rest (h.moments ++ (st.earlier ++ m)) (h.bytes ++ (st.replies ++ t)) st.between
    unmoved m t no_moment no_byte =
        subst (λ (x : List Moment). Served reads first whole before rest (h.moments ++ x) (h.bytes ++ (st.replies ++ t)) st.between) (sym (ap (λ (x : List Moment). st.earlier ++ x) no_moment ∙ append-nil st.earlier))
        (subst (λ (x : List ℕ). Served reads first whole before rest (h.moments ++ st.earlier) (h.bytes ++ x) st.between) (sym (ap (λ (x : List ℕ). st.replies ++ x) no_byte ∙ append-nil st.replies)) served)

    at_clock : (m : List Moment) (t : List ℕ) → m ≡ [] → t ≡ [] → AsksTheClock st.between st.pdu → after ≡ st.between
        → StopsAtClock reads first (record { taken = whole; moments = h.moments ++ (st.earlier ++ m); bytes = h.bytes ++ (st.replies ++ t) }) after.agent
    at_clock m t no_moment no_byte asks is = record {
      pdus = before;
      fetch = st.pdu;
      rest = rest;
      beyond = beyond;
      s = st.between;
      served = unmoved m t no_moment no_byte;
      next = next;
      asks = asks;
      stays = ap (λ (x : Standing A). x.agent) (sym is);
    }

    one : Splits whole (g.pdus ++ (st.served ++ st.pdu ∷ [])) beyond
    one = subst (λ (x : List (List ℕ)). Splits whole x beyond) (append_assoc g.pdus st.served (st.pdu ∷ []))
        (fewer whole (before ++ st.pdu ∷ []) st.behind front.0 (subst (λ (x : List (List ℕ)). Splits whole x front.0) (sym (append_assoc before (st.pdu ∷ []) st.behind)) all))

    with_last : (m : List Moment) (t : List ℕ) → IsReplied reads st.between st.pdu m t after
        → StopsAtReply reads first (record { taken = whole; moments = h.moments ++ (st.earlier ++ m); bytes = h.bytes ++ (st.replies ++ t) }) after.agent
    with_last m t done = record {
      pdus = before;
      pdu = st.pdu;
      rest = rest;
      beyond = beyond;
      moments = h.moments ++ st.earlier;
      bytes = h.bytes ++ st.replies;
      s = st.between;
      served = served;
      next = next;
      few = few_behind_last h.taken piece g.pdus st.served st.pdu stream.rest beyond g.served.stream g.begins one small;
      deed = record { moments = m; reply = Some done.0; after = after };
      reply = done.0;
      does = done.1;
      replies = refl;
      all_moments = sym (append_assoc h.moments st.earlier m);
      all_bytes = ap (λ (x : List ℕ). h.bytes ++ (st.replies ++ x)) done.2 ∙ sym (append_assoc h.bytes st.replies (reply_bytes done.0));
      stays = refl;
    }

    by_end : (e : SessionEnd) (m : List Moment) (t : List ℕ) → ServesOne {T = Unit {0}} reads loads st.between st.pdu m t after (Err e)
        → Ends reads loads first (record { taken = whole; moments = h.moments ++ (st.earlier ++ m); bytes = h.bytes ++ (st.replies ++ t) }) after.agent e
    by_end ends.WriteFault m t o = inr (with_last m t o)
    by_end ends.ClockEnd m t o = at_clock m t o.1 o.0 o.2 o.3
    by_end ends.ClockFault m t o = at_clock m t o.1 o.0 o.2 o.3
    by_end ends.NoMemory m t o = record {
      pdus = before;
      rest = rest;
      moments = h.moments ++ st.earlier;
      reached = m;
      s = st.between;
      served = subst (λ (x : List ℕ). Served reads first whole before rest (h.moments ++ st.earlier) (h.bytes ++ x) st.between) (sym (ap (λ (x : List ℕ). st.replies ++ x) o.0 ∙ append-nil st.replies)) served;
      all_moments = sym (append_assoc h.moments st.earlier m);
      next = reaches_next st.between rest st.pdu beyond m next o.1;
      goes_on = o.2;
    }
    by_end ends.Closed m t o = absurd o
    by_end (ends.Torn n) m t o = absurd o
    by_end (ends.BadLength found) m t o = absurd o
    by_end ends.ReadFault m t o = absurd o
    by_end ends.Spent m t o = absurd o
