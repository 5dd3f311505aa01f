-- Turns behind turns: what was taken and written joins.
use Rattle.std.proofs.Common.{◌≡◌, ℕ, ◌+◌, ◌≤◌, List, [], ◌∷◌, ◌++◌, length, take, refl, sym, ap, ◌∙◌, subst, append_assoc, arith, length-append, inl, inr}
use Rattle.std.proofs.lemmas.List.{append-nil}
use Rattle.pcp_outside.specs.Causes.{Rose, shown_count}
use Rattle.pcp_outside.specs.Sides.{source_side, sink_side}
use Rattle.pcp_outside.specs.declared.streams.Source.{Ghosts as SourceGhosts}
use Rattle.pcp_outside.specs.declared.streams.Sink.{Ghosts as SinkGhosts}
use Rattle.pdu_codec.specs.declared.pdu.Pdu.{Pdu}
use Rattle.pmcd_client.specs.declared.faults.ReplyFault.{ReplyFault}
use Rattle.pmcd_client.specs.declared.faults.ReplyFault.TheVariants as whys
use Rattle.pmcd_client.specs.declared.faults.TalkFault.{TalkFault}
use Rattle.pmcd_client.specs.declared.faults.TalkFault.TheVariants as faults
use Rattle.pmcd_client.specs.Bytes.{Took, Wrote, WroteFront, WritesFor, NoneFails, turn_bytes, turns_bytes, IsMisfit, IsPart, Passes, BreaksBy, EndsBy, Stops}
use Rattle.pmcd_client.specs.Turns.{Turn, requests_of}
use Rattle.pmcd_client.proofs.Joins.{replies_on, answers_on, answers_more, answered_on, answered_more, bytes-append}

-- a count that goes on from where it stood
pub count_on : (n m k total : ℕ) → m ≡ shown_count (n + k) → (j : ℕ) → total ≡ k + j → shown_count (m + j) ≡ shown_count (n + total)
count_on n m k total e j t = omega arith

module _ {I L : Type 0} (g : SourceGhosts I) (h : SinkGhosts L) (a b c : I) (x y z : L) where
  took_on : (t u : List ℕ) → Took (source_side g a b) t → Took (source_side g b c) u → Took (source_side g a c) (t ++ u)
  took_on t u p q = λ tells. p tells ∙ ap (λ (l : List ℕ). t ++ l) (q tells) ∙ sym (append_assoc t u (g.left c))

  wrote_on : (t u : List ℕ) → Wrote (sink_side h x y) t → Wrote (sink_side h y z) u → Wrote (sink_side h x z) (t ++ u)
  wrote_on t u p q = λ tells. q tells ∙ ap (λ (l : List ℕ). l ++ u) (p tells) ∙ append_assoc (h.written x) t u

  stands_on : NoneFails (source_side g a b) (sink_side h x y) → NoneFails (source_side g b c) (sink_side h y z) → NoneFails (source_side g a c) (sink_side h x z)
  stands_on p q = record { source_stands = q.source_stands ∙ p.source_stands; sink_stands = q.sink_stands ∙ p.sink_stands }

  -- all of some turns, and then all of further ones
  pub passes_on : (ts us : List Turn) (xs ys : List Pdu) → Passes (source_side g a b) (sink_side h x y) ts xs → Passes (source_side g b c) (sink_side h y z) us ys
      → Passes (source_side g a c) (sink_side h x z) (ts ++ us) (xs ++ ys)
  passes_on ts us xs ys p q = record {
    answered = answers_on ts us [] xs ys p.answered q.answered;
    taken = p.taken ++ q.taken;
    spelled = replies_on p.taken q.taken xs ys p.spelled q.spelled;
    took = took_on p.taken q.taken p.took q.took;
    wrote = subst (λ (l : List ℕ). Wrote (sink_side h x z) l) (sym (bytes-append turn_bytes ts us)) (wrote_on (turns_bytes ts) (turns_bytes us) p.wrote q.wrote);
    stand = stands_on p.stand q.stand;
  }

  misfit_on : (turn : Turn) (bytes : List ℕ) (why : ReplyFault) → IsMisfit (source_side g b c) turn bytes why → IsMisfit (source_side g a c) turn bytes why
  misfit_on turn bytes (whys.Ended n) m = m
  misfit_on turn bytes (whys.Length n) m = m
  misfit_on turn bytes whys.Decode m = m
  misfit_on turn bytes (whys.Code n) m = m
  misfit_on turn bytes whys.Type m = m
  misfit_on turn bytes whys.Shape m = m

  breaks_on : (n m : ℕ) (took : List ℕ) (turn : Turn) (e : TalkFault) → shown_count m ≡ shown_count n → NoneFails (source_side g a b) (sink_side h x y)
      → BreaksBy (source_side g b c) (sink_side h y z) m took turn e → BreaksBy (source_side g a c) (sink_side h x z) n took turn e
  breaks_on n m took turn faults.NoMemory same p q = (q.0, stands_on p q.1)
  breaks_on n m took turn faults.ReadFault same p q = (
    q.0,
    record {
      source_rose = subst (λ (k : ℕ). Rose k (g.faults c)) p.source_stands q.1.source_rose;
      source_later = subst (λ (k : ℕ). k ≤ g.faults c) p.source_stands q.1.source_later;
      sink_stands = q.1.sink_stands ∙ p.sink_stands;
    },
  )
  breaks_on n m took turn faults.WriteFault same p q = (
    q.0,
    record {
      sink_rose = subst (λ (k : ℕ). Rose k (h.faults z)) p.sink_stands q.1.sink_rose;
      sink_later = subst (λ (k : ℕ). k ≤ h.faults z) p.sink_stands q.1.sink_later;
      source_stands = q.1.source_stands ∙ p.source_stands;
    },
  )
  breaks_on n m took turn (faults.Peer reply why) same p q = (misfit_on turn took why q.0, q.1 ∙ same, stands_on p q.2)

  ends_on : (n m : ℕ) (took : List ℕ) (rest : List Turn) (e : TalkFault) → shown_count m ≡ shown_count n → NoneFails (source_side g a b) (sink_side h x y)
      → EndsBy (source_side g b c) (sink_side h y z) m took rest e → EndsBy (source_side g a c) (sink_side h x z) n took rest e
  ends_on n m took [] e same p q = (q.0, q.1, stands_on p q.2)
  ends_on n m took (turn ∷ later) e same p q = breaks_on n m took turn e same p q

  front_on : (done bytes all : List ℕ) (IsIt : List ℕ → Type 0) → all ≡ bytes ++ done → Wrote (sink_side h x y) bytes → WroteFront (sink_side h y z) done IsIt → WroteFront (sink_side h x z) all IsIt
  front_on done bytes all IsIt is p q = λ tells. (
    (q tells).0,
    (q tells).1
        ∙ ap (λ (l : List ℕ). l ++ (done ++ (q tells).0)) (p tells)
        ∙ append_assoc (h.written x) bytes (done ++ (q tells).0)
        ∙ ap (λ (l : List ℕ). h.written x ++ l) (sym (append_assoc bytes done (q tells).0) ∙ ap (λ (l : List ℕ). l ++ (q tells).0) (sym is)),
    (q tells).2,
  )

  -- all of some turns, and then it broke off within further ones
  pub stops_on : (ts us : List Turn) (n m : ℕ) (xs ys : List Pdu) (e : TalkFault) → m ≡ shown_count (n + length xs) → Passes (source_side g a b) (sink_side h x y) ts xs
      → Stops (source_side g b c) (sink_side h y z) us m ys e → Stops (source_side g a c) (sink_side h x z) (ts ++ us) n (xs ++ ys) e
  stops_on ts us n m xs ys e count p q = record {
    rest = q.rest;
    answered = answers_on ts us q.rest xs ys p.answered q.answered;
    taken = p.taken ++ q.taken;
    spelled = replies_on p.taken q.taken xs ys p.spelled q.spelled;
    more_taken = q.more_taken;
    took = subst (λ (l : List ℕ). Took (source_side g a c) l) (sym (append_assoc p.taken q.taken q.more_taken)) (took_on p.taken (q.taken ++ q.more_taken) p.took q.took);
    wrote =
        let done = turns_bytes (take (length ys) us) in
        let all : turns_bytes (take (length (xs ++ ys)) (ts ++ us)) ≡ turns_bytes ts ++ done = ap turns_bytes (answered_on ts us xs ys p.answered) ∙ bytes-append turn_bytes ts (take (length ys) us) in
        front_on done (turns_bytes ts) (turns_bytes (take (length (xs ++ ys)) (ts ++ us))) (WritesFor q.more_taken e q.rest) all p.wrote q.wrote;
    ends = ends_on (n + length (xs ++ ys)) (m + length ys) q.more_taken q.rest e (count_on n m (length xs) (length (xs ++ ys)) count (length ys) (length-append xs ys)) p.stand q.ends;
  }

-- what is written where nothing more was due, and memory was refused
writes_none : (took : List ℕ) (e : TalkFault) (turn : Turn) (more : List Turn) (front : List ℕ) → took ≡ [] → e ≡ faults.NoMemory → front ≡ [] → WritesFor took e (turn ∷ more) front
writes_none took e turn more front t is none =
    subst (λ (f : TalkFault). WritesFor took f (turn ∷ more) front) (sym is) (([], requests_of turn, refl, none), λ some. absurd (some t))

module _ {I L : Type 0} (g : SourceGhosts I) (h : SinkGhosts L) (a b : I) (x y : L) where
  writes_more : (n : ℕ) (took : List ℕ) (rest more : List Turn) (e : TalkFault) (front : List ℕ) → EndsBy (source_side g a b) (sink_side h x y) n took rest e → WritesFor took e rest front → WritesFor took e (rest ++ more) front
  writes_more n took (turn ∷ rest) more faults.NoMemory front q w = w
  writes_more n took (turn ∷ rest) more faults.WriteFault front q w = w
  writes_more n took (turn ∷ rest) more faults.ReadFault front q w = w
  writes_more n took (turn ∷ rest) more (faults.Peer reply why) front q w = w
  writes_more n took [] [] e front q w = w
  writes_more n took [] (turn ∷ more) e front q w = writes_none took e turn more front q.0 q.1 w

  breaks_none : (n : ℕ) (took : List ℕ) (turn : Turn) (e : TalkFault) → took ≡ [] → e ≡ faults.NoMemory → NoneFails (source_side g a b) (sink_side h x y) → BreaksBy (source_side g a b) (sink_side h x y) n took turn e
  breaks_none n took turn e t is p =
      subst (λ (f : TalkFault). BreaksBy (source_side g a b) (sink_side h x y) n took turn f) (sym is) (subst (λ (l : List ℕ). IsPart l) (sym t) (inr (inl (inl (omega arith)))), p)

  ends_more : (n : ℕ) (took : List ℕ) (rest more : List Turn) (e : TalkFault) → EndsBy (source_side g a b) (sink_side h x y) n took rest e → EndsBy (source_side g a b) (sink_side h x y) n took (rest ++ more) e
  ends_more n took (turn ∷ rest) more e q = q
  ends_more n took [] [] e q = q
  ends_more n took [] (turn ∷ more) e q = breaks_none n took turn e q.0 q.1 q.2

  -- it broke off, and more turns would have followed
  pub stops_more : (ts more : List Turn) (n : ℕ) (xs : List Pdu) (e : TalkFault) → Stops (source_side g a b) (sink_side h x y) ts n xs e → Stops (source_side g a b) (sink_side h x y) (ts ++ more) n xs e
  stops_more ts more n xs e q = record {
    rest = q.rest ++ more;
    answered = answers_more ts q.rest more xs q.answered;
    taken = q.taken;
    spelled = q.spelled;
    more_taken = q.more_taken;
    took = q.took;
    wrote = λ tells. (
      (q.wrote tells).0,
      (q.wrote tells).1 ∙ ap (λ (l : List Turn). h.written x ++ (turns_bytes l ++ (q.wrote tells).0)) (sym (answered_more ts q.rest more xs q.answered)),
      writes_more (n + length xs) q.more_taken q.rest more e (q.wrote tells).0 q.ends (q.wrote tells).2,
    );
    ends = ends_more (n + length xs) q.more_taken q.rest more e q.ends;
  }

  -- memory was refused behind all turns
  pub stops_behind : (ts : List Turn) (n : ℕ) (xs : List Pdu) → Passes (source_side g a b) (sink_side h x y) ts xs → Stops (source_side g a b) (sink_side h x y) ts n xs faults.NoMemory
  stops_behind ts n xs p = record {
    rest = [];
    answered = p.answered;
    taken = p.taken;
    spelled = p.spelled;
    more_taken = [];
    took = subst (λ (l : List ℕ). Took (source_side g a b) l) (sym (append-nil p.taken)) p.took;
    wrote =
        let all : take (length xs) ts ≡ ts =
        subst (λ (l : List Turn). take (length xs) ts ≡ l) (append-nil ts) (subst (λ (l : List Pdu). take (length l) ts ≡ ts ++ []) (append-nil xs) (subst (λ (l : List Turn). take (length (xs ++ [])) l ≡ ts ++ []) (append-nil ts) (answered_on ts [] xs [] p.answered))) in
        λ tells. ([], p.wrote tells ∙ ap (λ (l : List ℕ). h.written x ++ l) (sym (append-nil (turns_bytes (take (length xs) ts)) ∙ ap turns_bytes all)), refl);
    ends = (refl, refl, p.stand);
  }
