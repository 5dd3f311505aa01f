-- One turn: its requests, and then its reply.
use Rattle.std.proofs.Common.{◌≡◌, ℕ, ◌+◌, ◌≤◌, List, [], ◌∷◌, ◌++◌, refl, sym, ap, ◌∙◌, subst, append_assoc, arith, inl, inr}
use Rattle.std.specs.Prelude.{Ok, Err, Result, MatchResult}
use Rattle.std.proofs.lemmas.List.{append-nil}
use Rattle.pcp_outside.specs.Causes.{Rose, shown_count}
use Rattle.pcp_outside.specs.Sides.{SourceSide, SinkSide, source_side, sink_side}
use Rattle.pcp_outside.specs.declared.streams.Source.{Ghosts as SourceGhosts}
use Rattle.pcp_outside.specs.declared.streams.Sink.{Ghosts as SinkGhosts}
use Rattle.pdu_codec.specs.declared.pdu.Pdu.{Pdu}
use Rattle.pdu_codec.specs.Spelling.{all_bytes, pdu_bytes}
use Rattle.pmcd_client.specs.declared.faults.TalkFault.{TalkFault}
use Rattle.pmcd_client.specs.declared.faults.TalkFault.TheVariants as faults
use Rattle.pmcd_client.specs.Bytes.{Took, Wrote, WroteFront, WritesFor, AreFirst, IsFront, turn_bytes, Passes, EndsBy, Stops}
use Rattle.pmcd_client.specs.Pieces.{Sends, SendsNot, Awaits}
use Rattle.pmcd_client.specs.Turns.{Turn, requests_of}
use Rattle.pmcd_client.proofs.Joins.{bytes-append}

-- a reply that fits one turn
pub passes_one : (i : SourceSide) (o : SinkSide) (n : ℕ) (turn : Turn) (reply : Pdu) → Sends o (requests_of turn) → Awaits i n turn (Ok reply) → Passes i o (turn ∷ []) (reply ∷ [])
passes_one i o n turn reply s w = record {
  answered = (w.3, refl);
  taken = w.0;
  spelled = (w.0, [], sym (append-nil w.0), w.2, refl);
  took = w.1;
  wrote = subst (λ (l : List ℕ). Wrote o l) (sym (append-nil (turn_bytes turn))) s.wrote;
  stand = record { source_stands = w.4; sink_stands = s.stands };
}

-- what a turn breaks off by is what the dialogue breaks off by
stops_one : (i : SourceSide) (o : SinkSide) (n : ℕ) (turn : Turn) (e : TalkFault) (took : List ℕ) → Took i took → WroteFront o [] (WritesFor took e (turn ∷ [])) → EndsBy i o (n + 0) took (turn ∷ []) e → Stops i o (turn ∷ []) n [] e
stops_one i o n turn e took t w ends = record {
  rest = turn ∷ [];
  answered = refl;
  taken = [];
  spelled = refl;
  more_taken = took;
  took = t;
  wrote = w;
  ends = ends;
}

-- the requests weren't written
pub stops_unsent : {I : Type 0} (g : SourceGhosts I) (a : I) (o : SinkSide) (n : ℕ) (turn : Turn) (e : TalkFault) → SendsNot o (requests_of turn) e → Stops (source_side g a a) o (turn ∷ []) n [] e
stops_unsent g a o n turn faults.NoMemory q =
    stops_one (source_side g a a) o n turn faults.NoMemory [] (λ tells. refl) (λ tells. ((q.0 tells).0, (q.0 tells).1, ((q.0 tells).2, λ some. absurd (some refl)))) (inr (inl (inl (omega arith))), record { source_stands = refl; sink_stands = q.1 })
stops_unsent g a o n turn faults.WriteFault q = stops_one (source_side g a a) o n turn faults.WriteFault [] (λ tells. refl) q.0 (refl, record { sink_rose = q.1; sink_later = q.2; source_stands = refl })
stops_unsent g a o n turn faults.ReadFault q = absurd q
stops_unsent g a o n turn (faults.Peer reply why) q = absurd q

-- they were, and no reply that fits came
pub stops_sent : (i : SourceSide) (o : SinkSide) (n : ℕ) (turn : Turn) (e : TalkFault) → n ≤ 18446744073709551615 → Sends o (requests_of turn) → Awaits i n turn (Err e) → Stops i o (turn ∷ []) n [] e
stops_sent i o n turn faults.NoMemory few s w =
    stops_one i o n turn faults.NoMemory w.0 w.1 (λ tells. (turn_bytes turn, s.wrote tells, ((requests_of turn, [], sym (append-nil (requests_of turn)), refl), λ some. refl))) (w.2, record { source_stands = w.3; sink_stands = s.stands })
stops_sent i o n turn faults.ReadFault few s w =
    stops_one i o n turn faults.ReadFault w.0 w.1 (λ tells. (turn_bytes turn, s.wrote tells, refl)) (w.2, record { source_rose = w.3.0; source_later = w.3.1; sink_stands = s.stands })
stops_sent i o n turn faults.WriteFault few s w = absurd w
stops_sent i o n turn (faults.Peer reply why) few s w =
    stops_one i o n turn (faults.Peer reply why) w.0 w.1 (λ tells. (turn_bytes turn, s.wrote tells, refl)) (w.2, w.3 ∙ shown, record { source_stands = w.4; sink_stands = s.stands })
  where
    shown : n ≡ shown_count (n + 0)
    shown = omega arith

-- a front behind bytes that were written
front_behind : {L : Type 0} (h : SinkGhosts L) (x y z : L) (t u : List ℕ) → Wrote (sink_side h x y) t → WroteFront (sink_side h y z) [] (λ front. IsFront front u) → WroteFront (sink_side h x z) [] (λ front. IsFront front (t ++ u))
front_behind h x y z t u p q = λ tells. (
  t ++ (q tells).0,
  (q tells).1 ∙ ap (λ (l : List ℕ). l ++ (q tells).0) (p tells) ∙ append_assoc (h.written x) t (q tells).0,
  ((q tells).2.0, ap (λ (l : List ℕ). t ++ l) (q tells).2.1 ∙ sym (append_assoc t (q tells).0 (q tells).2.0)),
)

front_first : (o : SinkSide) (ts us : List Pdu) → WroteFront o [] (λ front. IsFront front (all_bytes pdu_bytes ts)) → WroteFront o [] (λ front. IsFront front (all_bytes pdu_bytes (ts ++ us)))
front_first o ts us q = λ tells. (
  (q tells).0,
  (q tells).1,
  (
    (q tells).2.0 ++ all_bytes pdu_bytes us,
    bytes-append pdu_bytes ts us ∙ ap (λ (l : List ℕ). l ++ all_bytes pdu_bytes us) (q tells).2.1 ∙ append_assoc (q tells).0 (q tells).2.0 (all_bytes pdu_bytes us),
  ),
)

-- whole requests behind requests
first_behind : {L : Type 0} (h : SinkGhosts L) (x y z : L) (ts us : List Pdu) → Wrote (sink_side h x y) (all_bytes pdu_bytes ts) → WroteFront (sink_side h y z) [] (AreFirst us) → WroteFront (sink_side h x z) [] (AreFirst (ts ++ us))
first_behind h x y z ts us p q = λ tells. (
  all_bytes pdu_bytes ts ++ (q tells).0,
  (q tells).1 ∙ ap (λ (l : List ℕ). l ++ (q tells).0) (p tells) ∙ append_assoc (h.written x) (all_bytes pdu_bytes ts) (q tells).0,
  (
    ts ++ (q tells).2.0,
    (q tells).2.1,
    ap (λ (l : List Pdu). ts ++ l) (q tells).2.2 ∙ sym (append_assoc ts (q tells).2.0 (q tells).2.1),
    ap (λ (l : List ℕ). all_bytes pdu_bytes ts ++ l) (q tells).2.3 ∙ sym (bytes-append pdu_bytes ts (q tells).2.0),
  ),
)

first_first : (o : SinkSide) (ts us : List Pdu) → WroteFront o [] (AreFirst ts) → WroteFront o [] (AreFirst (ts ++ us))
first_first o ts us q = λ tells. (
  (q tells).0,
  (q tells).1,
  ((q tells).2.0, (q tells).2.1 ++ us, ap (λ (l : List Pdu). l ++ us) (q tells).2.2 ∙ append_assoc (q tells).2.0 (q tells).2.1 us, (q tells).2.3),
)

-- requests were written, and then further ones or some of them
pub sends_on : {T L : Type 0} (h : SinkGhosts L) (x y z : L) (ts us : List Pdu) (r : Result T TalkFault) → Sends (sink_side h x y) ts → MatchResult r (λ _. Sends (sink_side h y z) us) (SendsNot (sink_side h y z) us)
    → MatchResult r (λ _. Sends (sink_side h x z) (ts ++ us)) (SendsNot (sink_side h x z) (ts ++ us))
sends_on h x y z ts us (Ok v) p s = record {
  wrote = λ tells.
      s.wrote tells
      ∙ ap (λ (l : List ℕ). l ++ all_bytes pdu_bytes us) (p.wrote tells)
      ∙ append_assoc (h.written x) (all_bytes pdu_bytes ts) (all_bytes pdu_bytes us)
      ∙ ap (λ (l : List ℕ). h.written x ++ l) (sym (bytes-append pdu_bytes ts us));
  stands = s.stands ∙ p.stands;
}
sends_on h x y z ts us (Err faults.NoMemory) p s = (first_behind h x y z ts us p.wrote s.0, s.1 ∙ p.stands)
sends_on h x y z ts us (Err faults.WriteFault) p s = (
  (λ tells. subst (λ (l : List ℕ). (front : List ℕ) × (h.written z ≡ h.written x ++ ([] ++ front)) × IsFront front l) (sym (bytes-append pdu_bytes ts us)) (front_behind h x y z (all_bytes pdu_bytes ts) (all_bytes pdu_bytes us) p.wrote s.0 tells)),
  subst (λ (k : ℕ). Rose k (h.faults z)) p.stands s.1,
  subst (λ (k : ℕ). k ≤ h.faults z) p.stands s.2,
)
sends_on h x y z ts us (Err faults.ReadFault) p s = absurd s
sends_on h x y z ts us (Err (faults.Peer reply why)) p s = absurd s

-- some of the first requests are some of all
pub sends_first : (o : SinkSide) (ts us : List Pdu) (e : TalkFault) → SendsNot o ts e → SendsNot o (ts ++ us) e
sends_first o ts us faults.NoMemory q = (first_first o ts us q.0, q.1)
sends_first o ts us faults.WriteFault q = (front_first o ts us q.0, q.1, q.2)
sends_first o ts us faults.ReadFault q = absurd q
sends_first o ts us (faults.Peer reply why) q = absurd q
