-- The turns of a sample.
use Rattle.std.proofs.Common.{◌≡◌, ℕ, ◌+◌, ◌<◌, List, [], ◌∷◌, length, map, refl, sym, ap, ◌∙◌, subst, arith, Some}
use Rattle.std.specs.List.{AllByRecursion}
use Rattle.std.proofs.lemmas.List.{length-map}
use Rattle.pcp_base.specs.Results.{Fits as CanBeWritten}
use Rattle.pcp_base.specs.declared.result.PmResult.{PmResult}
use Rattle.pcp_base.specs.declared.result.ValueSet.{ValueSet}
use Rattle.pcp_model.specs.Payload.{SetInRange}
use Rattle.archive_meta.specs.declared.facts.Facts.{Facts}
use Rattle.archive_meta.specs.Enough.{AreEnough}
use Rattle.pcp_outside.specs.Causes.{shown_count}
use Rattle.pcp_outside.specs.Sides.{source_side, sink_side}
use Rattle.pcp_outside.specs.declared.streams.Source.{Ghosts as SourceGhosts}
use Rattle.pcp_outside.specs.declared.streams.Sink.{Ghosts as SinkGhosts}
use Rattle.pdu_codec.specs.Bodies.{IsPdu, ResultBody}
use Rattle.pdu_codec.specs.declared.pdu.Pdu.{Pdu}
use Rattle.pdu_codec.specs.declared.pdu.Pdu.TheVariants as pdus
use Rattle.pmcd_client.specs.declared.faults.TalkFault.{TalkFault}
use Rattle.pmcd_client.specs.declared.faults.TalkFault.TheVariants as faults
use Rattle.pmcd_client.specs.Bytes.{Passes, Stops}
use Rattle.pmcd_client.specs.Items.{lacking, renewed, sampled}
use Rattle.pmcd_client.specs.Pieces.{list_reply}
use Rattle.pmcd_client.specs.Replies.{Listed, Standing, lists_in}
use Rattle.pmcd_client.specs.Talks.{IsSampled}
use Rattle.pmcd_client.specs.Turns.{Turn, list_turn, sampling, pmids_of}
use Rattle.pmcd_client.proofs.Going.{passes_on, stops_on, stops_more, stops_behind}
use Rattle.pmcd_client.proofs.Opening.{lists_behind}

abbrev pub values_turn : Standing → Turn
values_turn s = Some (pdus.Fetch 0 0 0 s.pmids)

module _ {I L : Type 0} (g : SourceGhosts I) (h : SinkGhosts L) (s : Standing) (r : PmResult) (a b c : I) (x y z : L)
    (fetched : Passes (source_side g a b) (sink_side h x y) (values_turn s ∷ []) (pdus.Result r ∷ [])) where
  -- all its turns
  pub samples : (fresh : List Listed) → Passes (source_side g b c) (sink_side h y z) (map list_turn (lacking s.facts r.sets)) (map list_reply fresh)
      → Passes (source_side g a c) (sink_side h x z) (sampling s (pdus.Result r ∷ map list_reply fresh)) (pdus.Result r ∷ map list_reply fresh)
  samples fresh p = passes_on g h a b c x y z (values_turn s ∷ []) (map list_turn (lacking s.facts r.sets)) (pdus.Result r ∷ []) (map list_reply fresh) fetched p

  -- memory was refused behind the result
  pub fetched_memory : (n : ℕ) → Stops (source_side g a b) (sink_side h x y) (sampling s (pdus.Result r ∷ [])) n (pdus.Result r ∷ []) faults.NoMemory
  fetched_memory n =
      stops_more g h a b x y (values_turn s ∷ []) (map list_turn (lacking s.facts r.sets)) n (pdus.Result r ∷ []) faults.NoMemory
      (stops_behind g h a b x y (values_turn s ∷ []) n (pdus.Result r ∷ []) fetched)

  -- a list didn't come
  pub unlisted : (n m : ℕ) (xs : List Pdu) (e : TalkFault) → m ≡ shown_count (n + 1) → Stops (source_side g b c) (sink_side h y z) (map list_turn (lacking s.facts r.sets)) m xs e
      → Stops (source_side g a c) (sink_side h x z) (sampling s (pdus.Result r ∷ xs)) n (pdus.Result r ∷ xs) e
  unlisted n m xs e count q =
      stops_on g h a b c x y z (values_turn s ∷ []) (map list_turn (lacking s.facts r.sets)) n m (pdus.Result r ∷ []) xs e count fetched q

same_standing : (p q : List ℕ) (f k : Facts) (m n : ℕ) → p ≡ q → f ≡ k → m ≡ n → ◌≡◌ {A = Standing} (record { pmids = p; facts = f; replies = m }) (record { pmids = q; facts = k; replies = n })
same_standing p q f k m n a b c = cc

pub count_sampled : (n m k : ℕ) (r : PmResult) (fresh : List Listed) → m ≡ shown_count (n + 1) → k ≡ shown_count (m + length fresh) → k ≡ shown_count (n + length (pdus.Result r ∷ map list_reply fresh))
count_sampled n m k r fresh first all =
    let long : length (map list_reply fresh) ≡ length fresh = length-map fresh list_reply in
    omega arith

-- how a dialogue stands behind it
pub becomes_sampled : (s t : Standing) (r : PmResult) (fresh : List Listed) (m : ℕ) → t.pmids ≡ s.pmids → t.facts ≡ renewed s.facts fresh → m ≡ shown_count (s.replies + 1) → t.replies ≡ shown_count (m + length fresh)
    → t ≡ sampled s (pdus.Result r ∷ map list_reply fresh)
becomes_sampled s t r fresh m p f first all =
    same_standing t.pmids s.pmids t.facts (renewed s.facts (lists_in (map list_reply fresh))) t.replies (shown_count (s.replies + length (pdus.Result r ∷ map list_reply fresh))) p
    (f ∙ ap (renewed s.facts) (sym (lists_behind fresh))) (count_sampled s.replies m t.replies r fresh first all)

pub is_sampled : {I L : Type 0} (g : SourceGhosts I) (h : SinkGhosts L) (a b : I) (x y : L) (s t : Standing) (r : PmResult) (fresh : List Listed)
    → Passes (source_side g a b) (sink_side h x y) (sampling s (pdus.Result r ∷ map list_reply fresh)) (pdus.Result r ∷ map list_reply fresh)
    → t ≡ sampled s (pdus.Result r ∷ map list_reply fresh) → AreEnough t.facts r.sets → IsSampled s (pdus.Result r ∷ map list_reply fresh) (record { result = r; facts = t.facts }) t
is_sampled g h a b x y s t r fresh p is enough = record {
  answered = p.answered;
  lists = map list_reply fresh;
  first = refl;
  becomes = is;
  described = refl;
  enough = enough;
}

-- there is a set for each metric
pub some_sets : (sets : List ValueSet) (pmids : List ℕ) → pmids_of sets ≡ pmids → 0 < length pmids → 0 < length sets
some_sets sets pmids is some =
    let one : length (pmids_of sets) ≡ length pmids = ap (λ (l : List ℕ). length l) is in
    let two : length (pmids_of sets) ≡ length sets = length-map sets (λ (set : ValueSet). set.pmid) in
    omega arith

-- each set can be written
all_written : (sets : List ValueSet) → AllByRecursion SetInRange sets → AllByRecursion CanBeWritten sets
all_written [] h = tt
all_written (s ∷ sets) h = (h.0.1, all_written sets h.1)

same_sets : (r q : PmResult) → pdus.Result r ≡ pdus.Result q → q.sets ≡ r.sets
same_sets r q e = let same : q ≡ r = cc in ap (λ (p : PmResult). p.sets) same

pub sets_fit : (bytes : List ℕ) (r : PmResult) → IsPdu bytes (pdus.Result r) → AllByRecursion CanBeWritten r.sets
sets_fit bytes r p =
    let b : ResultBody p.body (pdus.Result r) = p.has in
    subst (λ (sets : List ValueSet). AllByRecursion CanBeWritten sets) (same_sets r b.answer b.is) (all_written b.answer.sets b.payload.range.sets)
