-- However far a client's dialogue came, its requests begin with those before its last sample, and so do its replies.
use Rattle.std.proofs.Common.{◌≡◌, ◌⊎◌, inl, inr, ℕ, ◌+◌, List, [], ◌∷◌, ◌++◌, length, take, sym, ap, ◌∙◌, subst, append_assoc, arith, length-append}
use Rattle.std.proofs.lemmas.List.{append-nil}
use Rattle.std.proofs.Math.Seq.{take-append-add}
use Rattle.pcp_outside.specs.Sides.{SourceSide, SinkSide}
use Rattle.pdu_codec.specs.declared.pdu.Pdu.{Pdu}
use Rattle.pmcd_client.specs.declared.faults.TalkFault.{TalkFault}
use Rattle.pmcd_client.specs.Bytes.{AreReplies, Took, turn_bytes, turns_bytes}
use Rattle.pmcd_client.specs.Replies.{Standing, opened}
use Rattle.pmcd_client.specs.Talks.{Asks, AreSampled, BreaksOff, BreaksWithin, Continues, IsUnlisted, Sample, Talks}
use Rattle.pmcd_client.specs.Turns.{Turn, opening, sampling}
use Rattle.pmcd_client.proofs.Opened.{answers_length}
use Rattle.pm_pulling.specs.Pulling.{Came, Says}
use Rattle.peer_sessions.proofs.Sampling.{all_bytes-append, parted}

-- the dialogue that led to the samples, and what was taken and written for it and behind it
pub record Talked (names : List (List ℕ)) (i : SourceSide) (o : SinkSide) (samples : List Sample) : Type 0 where
  pub turns : List Turn
  pub replies : List Pdu
  pub s : Standing
  pub asks : Asks names turns replies samples s
  pub taken : List ℕ
  pub more : List ℕ
  pub are : AreReplies taken replies
  pub took : Took i (taken ++ more)
  pub wrote : o.tells → (later : List ℕ) × (o.after ≡ o.written ++ (turns_bytes turns ++ later))

stands : (names : List (List ℕ)) (i : SourceSide) (o : SinkSide) (samples : List Sample) (s : Standing) → Talks names i o samples s → Talked names i o samples
stands names i o samples s t = record {
  turns = t.turns;
  replies = t.replies;
  s = s;
  asks = t.asks;
  taken = t.passes.taken;
  more = [];
  are = t.passes.spelled;
  took = subst (Took i) (sym (append-nil t.passes.taken)) t.passes.took;
  wrote = λ tells. ([], t.passes.wrote tells ∙ ap (λ (b : List ℕ). o.written ++ b) (sym (append-nil (turns_bytes t.turns))));
}

-- the turns and replies before the last sample's requests
continued : (names : List (List ℕ)) (i : SourceSide) (o : SinkSide) (turns : List Turn) (replies : List Pdu) (samples : List Sample) (c : Continues names turns replies samples) (taken behind : List ℕ) → AreReplies taken replies → Took i (taken ++ behind)
    → (o.tells → (later : List ℕ) × (o.after ≡ o.written ++ (turns_bytes c.turns_before ++ later))) → Talked names i o samples
continued names i o turns replies samples c taken behind are took wrote =
    let p = parted taken c.replies_before c.own (subst (λ (l : List Pdu). AreReplies taken l) c.are are) in
    record {
      turns = c.turns_before;
      replies = c.replies_before;
      s = c.s;
      asks = c.asks;
      taken = p.front;
      more = p.back ++ behind;
      are = p.first;
      took = subst (Took i) (ap (λ (t : List ℕ). t ++ behind) p.cut ∙ append_assoc p.front p.back behind) took;
      wrote = wrote;
    }

unlisted : (names : List (List ℕ)) (i : SourceSide) (o : SinkSide) (samples : List Sample) (e : TalkFault) → IsUnlisted names i o samples e → Talked names i o samples
unlisted names i o samples e u =
    let c = u.continues in
    let own : List Turn = sampling c.s c.own in
    continued names i o u.turns u.replies samples c u.passes.taken [] u.passes.spelled (subst (Took i) (sym (append-nil u.passes.taken)) u.passes.took)
    (λ tells. (turns_bytes own, u.passes.wrote tells ∙ ap (λ (l : List Turn). o.written ++ turns_bytes l) c.asked ∙ ap (λ (b : List ℕ). o.written ++ b) (all_bytes-append turn_bytes c.turns_before own)))

-- as many turns as replies before a sample's requests
sampled_length : (s : Standing) (turns : List Turn) (replies : List Pdu) (samples : List Sample) (after : Standing) → AreSampled s turns replies samples after → length turns ≡ length replies
sampled_length s turns replies [] after a = ap (λ (l : List Turn). length l) a.0 ∙ ap (λ (l : List Pdu). length l) (sym a.1)
sampled_length s turns replies (x ∷ samples) after a =
    let own : length (sampling s a.0) ≡ length a.0 = answers_length (sampling s a.0) a.0 a.6.answered in
    let rest : length a.2 ≡ length a.1 = sampled_length a.3 a.2 a.1 samples after a.7 in
    ap (λ (l : List Turn). length l) a.5 ∙ length-append (sampling s a.0) a.2
    ∙ (let e : length (sampling s a.0) + length a.2 ≡ length (a.0 ++ a.1) = omega (arith, length-append a.0 a.1) in e)
    ∙ ap (λ (l : List Pdu). length l) (sym a.4)

asked_length : (names : List (List ℕ)) (turns : List Turn) (replies : List Pdu) (samples : List Sample) (s : Standing) → Asks names turns replies samples s → length turns ≡ length replies
asked_length names turns replies samples s a =
    let own : length (opening names a.first) ≡ length a.first = answers_length (opening names a.first) a.first a.answered in
    let rest : length a.later_turns ≡ length a.later = sampled_length (opened names a.first) a.later_turns a.later samples s a.samples in
    ap (λ (l : List Turn). length l) a.asked ∙ length-append (opening names a.first) a.later_turns
    ∙ (let e : length (opening names a.first) + length a.later_turns ≡ length (a.first ++ a.later) = omega (arith, length-append a.first a.later) in e)
    ∙ ap (λ (l : List Pdu). length l) (sym a.are)

within : (names : List (List ℕ)) (i : SourceSide) (o : SinkSide) (samples : List Sample) (e : TalkFault) (b : BreaksWithin names i o samples e) → Continues names b.turns b.replies samples → Talked names i o samples
within names i o samples e b c =
    let t = b.stops in
    let own : List Turn = sampling c.s c.own in
    let same : length c.turns_before ≡ length c.replies_before = asked_length names c.turns_before c.replies_before samples c.s c.asks in
    let many : length b.replies ≡ length c.turns_before + length c.own = ap (λ (l : List Pdu). length l) c.are ∙ (let x : length (c.replies_before ++ c.own) ≡ length c.turns_before + length c.own = omega (arith, length-append c.replies_before c.own) in x) in
    let front : take (length b.replies) b.turns ≡ c.turns_before ++ take (length c.own) own =
    ap (λ (n : ℕ). take n b.turns) many ∙ ap (λ (l : List Turn). take (length c.turns_before + length c.own) l) c.asked ∙ take-append-add c.turns_before own (length c.own) in
    let bytes : turns_bytes (take (length b.replies) b.turns) ≡ turns_bytes c.turns_before ++ turns_bytes (take (length c.own) own) =
    ap (λ (l : List Turn). turns_bytes l) front ∙ all_bytes-append turn_bytes c.turns_before (take (length c.own) own) in
    continued names i o b.turns b.replies samples c t.taken t.more_taken t.spelled t.took
    (λ tells.
    let w = t.wrote tells in
    (turns_bytes (take (length c.own) own) ++ w.0, w.1 ∙ ap (λ (x : List ℕ). o.written ++ x) (ap (λ (x : List ℕ). x ++ w.0) bytes ∙ append_assoc (turns_bytes c.turns_before) (turns_bytes (take (length c.own) own)) w.0)))

breaks : (names : List (List ℕ)) (i : SourceSide) (o : SinkSide) (samples : List Sample) (e : TalkFault) → BreaksOff names i o samples e → (samples ≡ []) ⊎ Talked names i o samples
breaks names i o samples e (inl b) =
    elim b.asking [
      | inl first ↦ inl first.1
      | inr c ↦ inr (within names i o samples e b c)
    ]
breaks names i o samples e (inr u) = inr (unlisted names i o samples e u)

pub talked : (came : Came) (names : List (List ℕ)) (i : SourceSide) (o : SinkSide) (samples : List Sample) → Says came names i o samples → (samples ≡ []) ⊎ Talked names i o samples
talked Came.silent names i o samples says = inl says.1
talked Came.stands names i o samples says = inr (stands names i o samples says.0 says.1)
talked (Came.broken fault) names i o samples says = breaks names i o samples fault says
