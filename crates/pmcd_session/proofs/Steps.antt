-- What was served, behind what was served before.
use Rattle.std.proofs.Common.{inl, ℕ, List, [], ◌++◌, refl, sym, ap, ◌∙◌, subst, append_assoc}
use Rattle.std.specs.Prelude.{Ok, Err, Result}
use Rattle.std.proofs.lemmas.List.{append-nil}
use Rattle.pcp_base.specs.Time.{Moment}
use Rattle.pcp_outside.specs.declared.doors.SessionEnd.{SessionEnd}
use Rattle.pcp_outside.specs.declared.doors.SessionEnd.TheVariants as ends
use Rattle.pdu_codec.specs.Spelling.{pdu_bytes}
use Rattle.pdu_stream.specs.State.{State}
use Rattle.pdu_stream.specs.Streams.{Splits}
use Rattle.pdu_stream.specs.Reading.{HasComeTo, HasRead}
use Rattle.pdu_stream.specs.declared.phase.Phase.{Phase}
use Rattle.pdu_stream.proofs.Pieces.{longer}
use Rattle.pmcd_session.specs.declared.standing.Standing.{Standing}
use Rattle.pmcd_session.specs.Going.{Brings, Going, GoesBehind, GoesOrEnds, StaysOpen, then_more}
use Rattle.pmcd_session.specs.Replies.{greeting}
use Rattle.pmcd_session.specs.Serving.{DoesAll, ReadsBy}
use Rattle.pmcd_session.specs.Sessions.{Ends, History, Served, session_start}
use Rattle.pmcd_session.proofs.Lasts.{few_behind_all, few_behind_bad}
use Rattle.pmcd_session.proofs.Streams.{splits_at}
use Rattle.pmcd_session.proofs.Together.{joined_deeds}

pub read_of : {A : Type 0} (reads : ReadsBy A) (first : A) (h : History) (stream : State) (s : Standing A) (g : Going reads first h stream s) → HasRead h.taken g.pdus stream
read_of reads first h stream s g = subst (λ (p : Phase). HasComeTo h.taken g.pdus p stream.rest) (sym g.open_) (g.served.stream, g.begins)

-- the same PDUs at the front of other bytes, with nothing done since
same_served : {A : Type 0} (reads : ReadsBy A) (first : A) (taken whole : List ℕ) (pdus : List (List ℕ)) (rest left : List ℕ) (moments : List Moment) (bytes : List ℕ) (s : Standing A)
    → Served reads first taken pdus rest moments bytes s → Splits whole pdus left → Served reads first whole pdus left (moments ++ []) (bytes ++ []) s
same_served {A = A} reads first taken whole pdus rest left moments bytes s v split = record {
  stream = split;
  replies = v.replies;
  does = subst (λ (m : List Moment). DoesAll reads (session_start first) pdus (record { moments = m; written = v.replies; after = s })) (sym (append-nil moments)) v.does;
  is = append-nil bytes ∙ v.is;
}

-- further PDUs were served
pub more_served : {A : Type 0} (reads : ReadsBy A) (first : A) (taken whole : List ℕ) (given more : List (List ℕ)) (rest left : List ℕ) (moments later : List Moment) (bytes said : List ℕ) (s after : Standing A)
    → Served reads first taken given rest moments bytes s → Splits whole (given ++ more) left
    → DoesAll reads s more (record { moments = later; written = said; after = after }) → Served reads first whole (given ++ more) left (moments ++ later) (bytes ++ said) after
more_served reads first taken whole given more rest left moments later bytes said s after v split does = record {
  stream = split;
  replies = v.replies ++ said;
  does = joined_deeds reads (session_start first) s after given more moments later v.replies said v.does does;
  is = ap (λ (b : List ℕ). b ++ said) v.is ∙ append_assoc (pdu_bytes greeting) v.replies said;
}

-- ---- where the stream ends the session, or memory is refused for a piece

pub ends_unserved : {A : Type 0} (T : Type 0) (reads : ReadsBy A) (loads : A → A → Type 0) (piece : List ℕ) (stream later : State) (s : Standing A) (end : SessionEnd)
    → ((taken : List ℕ) (given : List (List ℕ)) → HasRead taken given stream → Brings (taken ++ piece) given stream later (Err end))
    → GoesBehind {T = T} reads loads (record { taken = piece; moments = []; bytes = [] }) stream s later s (Err end)
ends_unserved {A = A} T reads loads piece stream later s end brings first h few small g = by_end end (brings h.taken g.pdus (read_of reads first h stream s g))
  where
    by_end : (e : SessionEnd) → Brings (h.taken ++ piece) g.pdus stream later (Err e) → Ends reads loads first (then_more h (record { taken = piece; moments = []; bytes = [] })) s.agent e
    by_end (ends.BadLength found) b =
        (b.0, record { pdus = g.pdus; s = s; served = same_served reads first h.taken (h.taken ++ piece) g.pdus stream.rest b.0 h.moments h.bytes s g.served b.1; stays = refl }, b.2, few_behind_bad h.taken piece g.pdus stream.rest b.0 found g.served.stream g.begins b.1 b.2 small)
    by_end ends.NoMemory b = record {
      pdus = g.pdus;
      rest = stream.rest ++ piece;
      moments = h.moments ++ [];
      reached = [];
      s = s;
      served = same_served reads first h.taken (h.taken ++ piece) g.pdus stream.rest (stream.rest ++ piece) h.moments h.bytes s g.served (longer h.taken stream.rest piece g.pdus g.served.stream);
      all_moments = sym (append-nil (h.moments ++ []));
      next = tt;
      goes_on = inl refl;
    }
    by_end ends.Closed b = absurd b
    by_end (ends.Torn n) b = absurd b
    by_end ends.ReadFault b = absurd b
    by_end ends.WriteFault b = absurd b
    by_end ends.ClockFault b = absurd b
    by_end ends.ClockEnd b = absurd b
    by_end ends.Spent b = absurd b

-- ---- behind all PDUs of a piece

pub goes_served : {A T : Type 0} (reads : ReadsBy A) (loads : A → A → Type 0) (piece : List ℕ) (pdus : List (List ℕ)) (moments : List Moment) (bytes : List ℕ) (stream between later : State) (s after : Standing A) (r : Result T SessionEnd)
    → ((taken : List ℕ) (given : List (List ℕ)) → HasRead taken given stream → Brings (taken ++ piece) given stream between (Ok pdus))
    → DoesAll reads s pdus (record { moments = moments; written = bytes; after = after })
    → ((taken : List ℕ) (given : List (List ℕ)) → HasRead taken given between → StaysOpen taken given later r)
    → GoesBehind reads loads (record { taken = piece; moments = moments; bytes = bytes }) stream s later after r
goes_served {A = A} {T = T} reads loads piece pdus moments bytes stream between later s after r brings does stays first h few small g = by_result r (stays whole all b.1)
  where
    whole : List ℕ
    whole = h.taken ++ piece

    all : List (List ℕ)
    all = g.pdus ++ pdus

    b : Brings whole g.pdus stream between (Ok pdus)
    b = brings h.taken g.pdus (read_of reads first h stream s g)

    served : (left : List ℕ) → Splits whole all left → Served reads first whole all left (h.moments ++ moments) (h.bytes ++ bytes) after
    served left split = more_served reads first h.taken whole g.pdus pdus stream.rest left h.moments moments h.bytes bytes s after g.served split does

    by_result : (e : Result T SessionEnd) → StaysOpen whole all later e → GoesOrEnds reads loads first (then_more h (record { taken = piece; moments = moments; bytes = bytes })) later after e
    by_result (Ok done) o = record { pdus = all; open_ = o.0; begins = o.2; served = served later.rest o.1 }
    by_result (Err (ends.BadLength found)) o = (o.0, record { pdus = all; s = after; served = served o.0 o.1; stays = refl }, o.2, few_behind_all h.taken piece g.pdus pdus stream.rest o.0 found g.served.stream g.begins o.1 o.2 small)
    by_result (Err ends.NoMemory) o =
        let front = splits_at whole all between.phase between.rest b.1 in
        record {
          pdus = all;
          rest = front.0;
          moments = h.moments ++ moments;
          reached = [];
          s = after;
          served = served front.0 front.1;
          all_moments = sym (append-nil (h.moments ++ moments));
          next = tt;
          goes_on = inl refl;
        }
    by_result (Err ends.Closed) o = absurd o
    by_result (Err (ends.Torn n)) o = absurd o
    by_result (Err ends.ReadFault) o = absurd o
    by_result (Err ends.WriteFault) o = absurd o
    by_result (Err ends.ClockFault) o = absurd o
    by_result (Err ends.ClockEnd) o = absurd o
    by_result (Err ends.Spent) o = absurd o
