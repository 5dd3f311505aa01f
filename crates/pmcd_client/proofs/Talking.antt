-- A dialogue goes on by a sample, or breaks off in it.
use Rattle.std.proofs.Common.{◌≡◌, ℕ, ◌+◌, ◌-◌, List, [], ◌∷◌, ◌++◌, length, refl, sym, ap, ◌∙◌, subst, append_assoc, arith, length-append, inl, inr}
use Rattle.std.proofs.lemmas.List.{append-nil}
use Rattle.pcp_base.specs.declared.result.PmResult.{PmResult}
use Rattle.archive_meta.specs.Enough.{AreEnough}
use Rattle.pcp_outside.specs.Causes.{shown_count}
use Rattle.pcp_outside.specs.Sides.{SourceSide, SinkSide, source_side, sink_side}
use Rattle.pcp_outside.specs.declared.streams.Source.{Ghosts as SourceGhosts}
use Rattle.pcp_outside.specs.declared.streams.Sink.{Ghosts as SinkGhosts}
use Rattle.pdu_codec.specs.declared.pdu.Pdu.{Pdu}
use Rattle.pdu_codec.specs.declared.pdu.Pdu.TheVariants as pdus
use Rattle.pmcd_client.specs.declared.faults.ReplyFault.TheVariants as whys
use Rattle.pmcd_client.specs.declared.faults.TalkFault.{TalkFault}
use Rattle.pmcd_client.specs.declared.faults.TalkFault.TheVariants as faults
use Rattle.pmcd_client.specs.Bytes.{Passes, Stops}
use Rattle.pmcd_client.specs.Items.{sampled}
use Rattle.pmcd_client.specs.Replies.{Standing, opened}
use Rattle.pmcd_client.specs.Talks.{Sample, IsSampled, AreSampled, Asks, Talks, Continues, BreaksOff}
use Rattle.pmcd_client.specs.Turns.{Turn, opening, sampling}
use Rattle.pmcd_client.proofs.Going.{passes_on, stops_on}

-- one more sample behind others
samples_on : (s u v : Standing) (ts : List Turn) (xs own : List Pdu) (items : List Sample) (item : Sample) → AreSampled s ts xs items u → IsSampled u own item v
    → AreSampled s (ts ++ sampling u own) (xs ++ own) (items ++ item ∷ []) v
samples_on s u v ts xs own [] item h k = (
  own,
  [],
  [],
  v,
  ap (λ (l : List Pdu). l ++ own) h.1 ∙ sym (append-nil own),
  ap (λ (l : List Turn). l ++ sampling u own) h.0 ∙ ap (λ (w : Standing). sampling w own) h.2 ∙ sym (append-nil (sampling s own)),
  subst (λ (w : Standing). IsSampled w own item v) h.2 k,
  (refl, refl, refl),
)
samples_on s u v ts xs own (i ∷ items) item h k = (
  h.0,
  h.1 ++ own,
  h.2 ++ sampling u own,
  h.3,
  ap (λ (l : List Pdu). l ++ own) h.4 ∙ append_assoc h.0 h.1 own,
  ap (λ (l : List Turn). l ++ sampling u own) h.5 ∙ append_assoc (sampling s h.0) h.2 (sampling u own),
  h.6,
  samples_on h.3 u v h.2 h.1 own items item h.7 k,
)

asks_on : (names : List (List ℕ)) (u v : Standing) (ts : List Turn) (xs own : List Pdu) (items : List Sample) (item : Sample) → Asks names ts xs items u → IsSampled u own item v
    → Asks names (ts ++ sampling u own) (xs ++ own) (items ++ item ∷ []) v
asks_on names u v ts xs own items item h k = record {
  first = h.first;
  later = h.later ++ own;
  later_turns = h.later_turns ++ sampling u own;
  are = ap (λ (l : List Pdu). l ++ own) h.are ∙ append_assoc h.first h.later own;
  asked = ap (λ (l : List Turn). l ++ sampling u own) h.asked ∙ append_assoc (opening names h.first) h.later_turns (sampling u own);
  answered = h.answered;
  samples = samples_on (opened names h.first) u v h.later_turns h.later own items item h.samples k;
}

count_all : (n k m total : ℕ) → n ≡ shown_count k → total ≡ k + m → shown_count (n + m) ≡ shown_count total
count_all n k m total e t = omega arith

count_first : (n : ℕ) (k : ℕ) → n ≡ shown_count k → n ≡ shown_count (0 + k)
count_first n k e = omega arith

module _ {I L : Type 0} (g : SourceGhosts I) (h : SinkGhosts L) (a b c : I) (x y z : L) (names : List (List ℕ)) (items : List Sample) (u : Standing) where
  -- it goes on by a sample
  pub talks_on : (own : List Pdu) (item : Sample) (v : Standing) → Talks names (source_side g a b) (sink_side h x y) items u → IsSampled u own item v
      → Passes (source_side g b c) (sink_side h y z) (sampling u own) own → Talks names (source_side g a c) (sink_side h x z) (items ++ item ∷ []) v
  talks_on own item v t k p = record {
    turns = t.turns ++ sampling u own;
    replies = t.replies ++ own;
    asks = asks_on names u v t.turns t.replies own items item t.asks k;
    passes = passes_on g h a b c x y z t.turns (sampling u own) t.replies own t.passes p;
    count = ap (λ (w : Standing). w.replies) k.becomes ∙ count_all u.replies (length t.replies) (length own) (length (t.replies ++ own)) t.count (length-append t.replies own);
  }

  abbrev continues : (own : List Pdu) (t : Talks names (source_side g a b) (sink_side h x y) items u) → Continues names (t.turns ++ sampling u own) (t.replies ++ own) items
  continues own t = record {
    turns_before = t.turns;
    replies_before = t.replies;
    s = u;
    asks = t.asks;
    own = own;
    are = refl;
    asked = refl;
  }

  -- or it breaks off within a turn of it
  pub breaks_on : (own : List Pdu) (e : TalkFault) → Talks names (source_side g a b) (sink_side h x y) items u → Stops (source_side g b c) (sink_side h y z) (sampling u own) u.replies own e
      → BreaksOff names (source_side g a c) (sink_side h x z) items e
  breaks_on own e t q =
      inl
      (record {
        turns = t.turns ++ sampling u own;
        replies = t.replies ++ own;
        asking = inr (continues own t);
        stops = stops_on g h a b c x y z t.turns (sampling u own) 0 u.replies t.replies own e (count_first u.replies (length t.replies) t.count) t.passes q;
      })

  -- or by a list that lacks an instance
  pub unlisted_on : (own lists : List Pdu) (shown : PmResult) (e : TalkFault) → Talks names (source_side g a b) (sink_side h x y) items u
      → Passes (source_side g b c) (sink_side h y z) (sampling u own) own → own ≡ pdus.Result shown ∷ lists → (AreEnough (sampled u own).facts shown.sets → ⊥)
      → e ≡ faults.Peer (shown_count (u.replies + length own) - 1) whys.Shape → BreaksOff names (source_side g a c) (sink_side h x z) items e
  unlisted_on own lists shown e t p first unlisted is =
      inr
      (record {
        turns = t.turns ++ sampling u own;
        replies = t.replies ++ own;
        continues = continues own t;
        passes = passes_on g h a b c x y z t.turns (sampling u own) t.replies own t.passes p;
        shown = shown;
        lists = lists;
        first = first;
        unlisted = unlisted;
        is = is ∙ ap (λ (n : ℕ). faults.Peer (n - 1) whys.Shape) (count_all u.replies (length t.replies) (length own) (length (t.replies ++ own)) t.count (length-append t.replies own));
      })

-- all turns before the first fetch
pub talks_first : (names : List (List ℕ)) (i : SourceSide) (o : SinkSide) (xs : List Pdu) → Passes i o (opening names xs) xs → Talks names i o [] (opened names xs)
talks_first names i o xs p = record {
  turns = opening names xs;
  replies = xs;
  asks = record {
    first = xs;
    later = [];
    later_turns = [];
    are = sym (append-nil xs);
    asked = sym (append-nil (opening names xs));
    answered = p.answered;
    samples = (refl, refl, refl);
  };
  passes = p;
  count = refl;
}

pub breaks_first : (names : List (List ℕ)) (i : SourceSide) (o : SinkSide) (xs : List Pdu) (e : TalkFault) → Stops i o (opening names xs) 0 xs e → BreaksOff names i o [] e
breaks_first names i o xs e q = inl (record { turns = opening names xs; replies = xs; asking = inl (refl, refl); stops = q })
