-- However a session ends, it served whole PDUs at the front of what it took, and what it wrote is a front of their replies.
use Rattle.std.proofs.Common.{◌≡◌, inl, inr, ℕ, List, [], ◌∷◌, ◌++◌, Option, Some, refl, sym, ap, ◌∙◌, subst, append_assoc}
use Rattle.std.specs.List.{AllByRecursion}
use Rattle.std.proofs.lemmas.List.{append-nil}
use Rattle.pcp_base.specs.Time.{Moment}
use Rattle.pcp_outside.specs.declared.doors.SessionEnd.{SessionEnd}
use Rattle.pcp_outside.specs.declared.doors.SessionEnd.TheVariants as ends
use Rattle.pdu_stream.specs.Streams.{Splits, bytes_of_pdus}
use Rattle.pdu_stream.specs.Streams.{IsPdu as IsWhole}
use Rattle.pdu_codec.specs.declared.pdu.Pdu.{Pdu}
use Rattle.pdu_codec.specs.Spelling.{pdu_bytes}
use Rattle.pmcd_session.specs.declared.standing.Standing.{Standing}
use Rattle.pmcd_session.specs.Replies.{greeting}
use Rattle.pmcd_session.specs.Serving.{Deeds, DoesAll, ReadsBy, written_of}
use Rattle.pmcd_session.specs.Sessions.{Ends, History, IsUngreeted, Served, ServedTo, StopsAtClock, StopsAtReply, WritesBy, bytes_of_replies, session_start}
use Rattle.pmcd_session.proofs.Deeds.{none_done, one_more}

-- these PDUs were served, one behind another from the session's beginning on
pub record ServesSome {A : Type 0} (reads : ReadsBy A) (first : A) (h : History) : Type 0 where
  pub pdus : List (List ℕ)
  pub rest : List ℕ
  pub stream : Splits h.taken pdus rest
  pub deeds : Deeds A
  pub does : DoesAll reads (session_start first) pdus deeds
  pub bytes : h.bytes ≡ pdu_bytes greeting ++ deeds.written
  pub extra : List Moment
  pub moments : h.moments ≡ deeds.moments ++ extra

some_served : {A : Type 0} (reads : ReadsBy A) (first : A) (h : History) (pdus : List (List ℕ)) (rest : List ℕ) (moments extra : List Moment) (s : Standing A) → h.moments ≡ moments ++ extra
    → Served reads first h.taken pdus rest moments h.bytes s → ServesSome reads first h
some_served reads first h pdus rest moments extra s are v = record {
  pdus = pdus;
  rest = rest;
  stream = v.stream;
  deeds = record { moments = moments; written = v.replies; after = s };
  does = v.does;
  bytes = v.is;
  extra = extra;
  moments = are;
}

served_to : {A : Type 0} (reads : ReadsBy A) (first : A) (h : History) (rest : List ℕ) (last : A) → ServedTo reads first h rest last → ServesSome reads first h
served_to reads first h rest last t = some_served reads first h t.pdus rest h.moments [] t.s (sym (append-nil h.moments)) t.served

at_clock : {A : Type 0} (reads : ReadsBy A) (first : A) (h : History) (last : A) → StopsAtClock reads first h last → ServesSome reads first h
at_clock reads first h last t = some_served reads first h t.pdus t.rest h.moments [] t.s (sym (append-nil h.moments)) t.served

ungreeted : {A : Type 0} (reads : ReadsBy A) (first : A) (h : History) (last : A) → IsUngreeted first h last → ServesSome reads first h
ungreeted {A = A} reads first h last u =
    subst (λ (x : History). ServesSome reads first x) (sym u.0)
    (record {
      pdus = [];
      rest = [];
      stream = record { is = refl; whole = tt };
      deeds = record { moments = []; written = []; after = session_start first };
      does = none_done reads (session_start first);
      bytes = sym (append-nil (pdu_bytes greeting));
      extra = [];
      moments = refl;
    })

pdus_more : (pdus : List (List ℕ)) (pdu : List ℕ) → bytes_of_pdus (pdus ++ pdu ∷ []) ≡ bytes_of_pdus pdus ++ bytes_of_pdus (pdu ∷ [])
pdus_more [] pdu = refl
pdus_more (p ∷ pdus) pdu = ap (λ (t : List ℕ). p ++ t) (pdus_more pdus pdu) ∙ sym (append_assoc p (bytes_of_pdus pdus) (bytes_of_pdus (pdu ∷ [])))

all_more : (pdus : List (List ℕ)) (pdu : List ℕ) → AllByRecursion IsWhole pdus → AllByRecursion IsWhole (pdu ∷ []) → AllByRecursion IsWhole (pdus ++ pdu ∷ [])
all_more [] pdu all one = one
all_more (p ∷ pdus) pdu all one = (all.0, all_more pdus pdu all.1 one)

splits_more : (taken : List ℕ) (pdus : List (List ℕ)) (pdu rest beyond : List ℕ) → Splits taken pdus rest → Splits rest (pdu ∷ []) beyond → Splits taken (pdus ++ pdu ∷ []) beyond
splits_more taken pdus pdu rest beyond s t = record {
  is = s.is ∙ ap (λ (x : List ℕ). bytes_of_pdus pdus ++ x) t.is ∙ sym (append_assoc (bytes_of_pdus pdus) (bytes_of_pdus (pdu ∷ [])) beyond) ∙ ap (λ (x : List ℕ). x ++ beyond) (sym (pdus_more pdus pdu));
  whole = all_more pdus pdu s.whole t.whole;
}

at_reply : {A : Type 0} (reads : ReadsBy A) (first : A) (h : History) (last : A) → StopsAtReply reads first h last → ServesSome reads first h
at_reply reads first h last t = record {
  pdus = t.pdus ++ t.pdu ∷ [];
  rest = t.beyond;
  stream = splits_more h.taken t.pdus t.pdu t.rest t.beyond t.served.stream t.next;
  deeds = record { moments = t.moments ++ t.deed.moments; written = t.served.replies ++ written_of t.deed.reply; after = t.deed.after };
  does = one_more reads (session_start first) t.pdus t.pdu (record { moments = t.moments; written = t.served.replies; after = t.s }) t.deed t.served.does t.does;
  bytes = t.all_bytes ∙ ap (λ (x : List ℕ). x ++ written_of (Some t.reply)) t.served.is ∙ append_assoc (pdu_bytes greeting) t.served.replies (written_of (Some t.reply))
      ∙ ap (λ (o : Option Pdu). pdu_bytes greeting ++ (t.served.replies ++ written_of o)) (sym t.replies);
  extra = [];
  moments = t.all_moments ∙ sym (append-nil (t.moments ++ t.deed.moments));
}

pub serves_some : {A : Type 0} (reads : ReadsBy A) (loads : A → A → Type 0) (first : A) (h : History) (last : A) (end : SessionEnd) → Ends reads loads first h last end → ServesSome reads first h
serves_some reads loads first h last ends.Closed e = served_to reads first h [] last e.0
serves_some reads loads first h last (ends.Torn n) e = served_to reads first h e.0 last e.1
serves_some reads loads first h last (ends.BadLength found) e = served_to reads first h e.0 last e.1
serves_some reads loads first h last ends.ReadFault e = served_to reads first h e.0 last e.1
serves_some reads loads first h last ends.WriteFault (inl u) = ungreeted reads first h last u
serves_some reads loads first h last ends.WriteFault (inr t) = at_reply reads first h last t
serves_some reads loads first h last ends.ClockFault e = at_clock reads first h last e
serves_some reads loads first h last ends.ClockEnd e = at_clock reads first h last e
serves_some reads loads first h last ends.Spent e = served_to reads first h e.0 last e.1
serves_some reads loads first h last ends.NoMemory e = some_served reads first h e.pdus e.rest e.moments e.reached e.s e.all_moments e.served

-- ---- what was written

pub record WritesSome (before after bytes : List ℕ) : Type 0 where
  pub front : List ℕ
  pub unwritten : List ℕ
  pub wrote : after ≡ before ++ front
  pub are : bytes ≡ front ++ unwritten

all_written : (before after bytes : List ℕ) → after ≡ before ++ bytes → WritesSome before after bytes
all_written before after bytes e = record { front = bytes; unwritten = []; wrote = e; are = sym (append-nil bytes) }

pub writes_some : (end : SessionEnd) (before after bytes : List ℕ) → WritesBy end before after bytes → WritesSome before after bytes
writes_some ends.WriteFault before after bytes w = record {
  front = bytes_of_replies w.replies ++ w.front;
  unwritten = w.unwritten;
  wrote = w.wrote;
  are = w.are ∙ ap (λ (t : List ℕ). bytes_of_replies w.replies ++ t) w.of_last ∙ sym (append_assoc (bytes_of_replies w.replies) w.front w.unwritten);
}
writes_some ends.NoMemory before after bytes w = record { front = w.0; unwritten = w.1; wrote = w.2; are = w.3 }
writes_some ends.Closed before after bytes w = all_written before after bytes w
writes_some (ends.Torn n) before after bytes w = all_written before after bytes w
writes_some (ends.BadLength found) before after bytes w = all_written before after bytes w
writes_some ends.ReadFault before after bytes w = all_written before after bytes w
writes_some ends.ClockFault before after bytes w = all_written before after bytes w
writes_some ends.ClockEnd before after bytes w = all_written before after bytes w
writes_some ends.Spent before after bytes w = all_written before after bytes w
