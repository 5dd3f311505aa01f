-- A fetch that a client sent, its reply, and the result that the client read.
use Rattle.std.proofs.Common.{◌≡◌, inl, inr, ℕ, ◌<◌, ◌≤◌, List, [], ◌∷◌, ◌++◌, length, map, Option, Some, None, refl, sym, ap, ◌∙◌, subst, arith}
use Rattle.std.specs.Prelude.{All, slice_get}
use Rattle.std.specs.List.{AllByRecursion}
use Rattle.std.proofs.lemmas.List.{length-map}
use Rattle.std.proofs.lemmas.List.Elements.{All-head, All-tail}
use Rattle.pcp_base.specs.Time.{Moment}
use Rattle.pcp_base.specs.declared.result.PmResult.{PmResult}
use Rattle.pcp_base.specs.declared.result.ValueSet.{ValueSet}
use Rattle.pcp_model.specs.Payload.{ResultInRange, SetInRange}
use Rattle.mmv_layout.specs.declared.rows.Layout.{Layout}
use Rattle.region_rule.specs.declared.view.View.{View}
use Rattle.region_rule.specs.Seats.{Token}
use Rattle.profile_filter.specs.Kept.{Settings}
use Rattle.pdu_stream.specs.Streams.{IsPdu as IsWhole}
use Rattle.pdu_codec.specs.declared.pdu.Pdu.{Pdu}
use Rattle.pdu_codec.specs.declared.pdu.Pdu.TheVariants as pdus
use Rattle.pdu_codec.specs.Bodies.{IsPdu}
use Rattle.pdu_codec.specs.Spelling.{pdu_bytes, pdu_length, IsWord}
use Rattle.fetch_answers.specs.Answers.{answer_of, set_of}
use Rattle.fetch_answers.specs.Readings.{RegionReading}
use Rattle.fetch_engine.specs.declared.server.Mounted.{Mounted}
use Rattle.fetch_engine.specs.Servers.{Seated}
use Rattle.fetch_engine.specs.Visits.{AreRead, IsAnswered, IsRead, IsVisit, Visit}
use Rattle.fetch_engine.proofs.Tries.{misses_are_missed, read_is_shown}
use Rattle.pmcd_session.specs.declared.standing.Standing.{Standing}
use Rattle.pmcd_session.specs.Agents.{ReadsRegions}
use Rattle.pmcd_session.specs.Contexts.{keeps_all, new_contexts, profile_or_all}
use Rattle.pmcd_session.specs.Replies.{protocol_error}
use Rattle.pmcd_session.specs.Serving.{Deeds}
use Rattle.pmcd_client.specs.Turns.{pmids_of}
use Rattle.peer_sessions.specs.Answers.{AnswersNext, IsShownOrMissed, ShowsOrMisses}
use Rattle.peer_sessions.proofs.Spelled.{AsksFor, fetch_is}
use Rattle.peer_sessions.proofs.Shown.{AreNumbered, ReadingsFit, answer_in_range, layout_fits}
use Rattle.peer_sessions.proofs.Results.{ReadBack, read_back, result_of, stamped}
use Rattle.peer_sessions.proofs.Served.{IsFetched, IsOpen, IsRefused, IsShown, fetch_reply, no_refusal, shown_result, still_open}
use Rattle.peer_sessions.proofs.Turns.{Faces, Passed, ServesNext, replied_next, serves_next}

-- ---- readings

read_fits : (v w : View) (o : Option Layout) → IsRead v o w → AreNumbered o
read_fits v w None r = tt
read_fits v w (Some layout) r = layout_fits r.4.shows.words layout r.4.shows.says

visits_fit : (visits : List Visit) → All IsVisit visits → ReadingsFit (map (λ (visit : Visit). visit.reading) visits)
visits_fit [] each = tt
visits_fit (v ∷ visits) each = (read_fits v.before.view v.after.view v.reading.layout (All-head IsVisit v visits each).read.read, visits_fit visits (All-tail IsVisit v visits each))

readings_fit : (rows : List Mounted) (old : List Token) (readings : List RegionReading) (new : List Token) → AreRead rows old readings new → ReadingsFit readings
readings_fit rows old readings new r = subst ReadingsFit r.readings_are (visits_fit r.visits r.each)

shows : (v w : View) (o : Option Layout) → IsRead v o w → ShowsOrMisses v o w
shows v w None r = misses_are_missed v w r
shows v w (Some layout) r = read_is_shown v w layout r

visit_shows : (visit : Visit) → IsVisit visit → IsShownOrMissed visit
visit_shows visit is = shows visit.before.view visit.after.view visit.reading.layout is.read.read

all_show : (visits : List Visit) → All IsVisit visits → All IsShownOrMissed visits
all_show visits each = λ k d below. visit_shows _ (each k d below)

-- ---- what the result tells of the request

set_words : (sets : List ValueSet) → AllByRecursion SetInRange sets → AllByRecursion IsWord (pmids_of sets)
set_words [] fit = tt
set_words (set ∷ sets) fit = (fit.0.0, set_words sets fit.1)

result_fits : (bytes : List ℕ) (r : PmResult) → IsPdu bytes (pdus.Result r) → ResultInRange r
result_fits bytes r s =
    let b = s.has in
    subst ResultInRange (sym (result_of r b.answer b.is)) b.payload.range

same_request : (context sec usec : ℕ) (asked pmids : List ℕ) → AsksFor context sec usec asked pmids → pdus.Fetch context sec usec asked ≡ pdus.Fetch 0 0 0 pmids
same_request context sec usec asked pmids a =
    ap (λ (n : ℕ). pdus.Fetch n sec usec asked) a.first ∙ ap (λ (n : ℕ). pdus.Fetch 0 n usec asked) a.no_sec ∙ ap (λ (n : ℕ). pdus.Fetch 0 0 n asked) a.no_usec ∙ ap (λ (l : List ℕ). pdus.Fetch 0 0 0 l) a.same

first_profile : (contexts : List Settings) (context : ℕ) → contexts ≡ new_contexts → context ≡ 0 → profile_or_all (slice_get contexts context) ≡ keeps_all
first_profile contexts context new first = ap (λ (l : List Settings). profile_or_all (slice_get l context)) new ∙ ap (λ (n : ℕ). profile_or_all (slice_get new_contexts n)) first

-- ---- the answer

-- the result answers the next fetch, and behind it the session goes on
pub record Answered (rows : List Mounted) (s : Standing Seated) (pdus_left : List (List ℕ)) (moments_left : List Moment) (result : PmResult) (requests more : List ℕ) (extra : List Moment) : Type 0 where
  pub next : AnswersNext rows s pdus_left moments_left result
  pub later : Deeds Seated
  pub moments : next.later ≡ later.moments ++ extra
  pub stays : IsOpen next.deed.after
  pub faces : Faces (ReadsRegions rows) next.deed.after next.behind later requests more

module _ (rows : List Mounted) (s : Standing Seated) (pdus_left : List (List ℕ)) (d : Deeds Seated) (pmids requests first more : List ℕ) (result : PmResult) (moments_left extra : List Moment)
    (few : length pmids ≤ 64) (sets_are : pmids_of result.sets ≡ pmids) (whole : IsWhole first) (is : IsPdu first (pdus.Result result)) (moments_are : moments_left ≡ d.moments ++ extra)
    (x : Passed (ReadsRegions rows) s pdus_left d (pdu_bytes (pdus.Fetch 0 0 0 pmids) ++ requests) (first ++ more)) where
  abbrev request : Pdu
  request = pdus.Fetch 0 0 0 pmids

  words : AllByRecursion IsWord pmids
  words = subst (AllByRecursion IsWord) sets_are (set_words result.sets (result_fits first result is).sets)

  some : 0 < length first
  some = let least : 12 ≤ length first = whole.least in omega arith

  small : pdu_length request < 4294967296
  small = omega arith

  abbrev Next : Type 0
  Next = ServesNext (ReadsRegions rows) x.between x.behind x.later request requests (first ++ more)

  module _ (n : Next) where
    refuted : IsRefused x.between n.deed → ⊥
    refuted r =
        let rn = replied_next (ReadsRegions rows) x.between x.behind x.later request requests first more n protocol_error whole r.reply in
        no_refusal result (subst (λ (t : List ℕ). IsPdu t (pdus.Result result)) rn.is is)

    module _ (f : IsFetched (ReadsRegions rows) x.between (pdu_bytes request) n.deed) where
      abbrev regions : List RegionReading
      regions = f.fetches.regions

      abbrev profile : Settings
      profile = profile_or_all (slice_get x.between.contexts f.context)

      abbrev answer : PmResult
      answer = answer_of regions profile f.pmids f.fetches.moment

      asks_for : AsksFor f.context f.sec f.usec f.pmids pmids
      asks_for = fetch_is f.context f.sec f.usec f.pmids pmids words (omega arith) f.asks

      asked_are : f.pmids ≡ pmids_of result.sets
      asked_are = asks_for.same ∙ sym sets_are

      shown : IsShown answer result
      shown =
          let rn = replied_next (ReadsRegions rows) x.between x.behind x.later request requests first more n (pdus.Result answer) whole f.fetches.reply in
          shown_result answer result (subst (λ (t : List ℕ). IsPdu t (pdus.Result result)) rn.is is)

      many : length (map (set_of regions profile) f.pmids) < 2147483648
      many =
          let same : length f.pmids ≡ length pmids = ap (λ (l : List ℕ). length l) asks_for.same in
          let long : length (map (set_of regions profile) f.pmids) ≡ length f.pmids = length-map f.pmids (set_of regions profile) in
          omega arith

      back : ReadBack answer result
      back =
          let short : pdu_length (pdus.Result answer) ≤ 65536 = shown.few in
          read_back answer result shown.is (omega arith)
          (λ moment. answer_in_range regions profile f.pmids result.stamp (readings_fit rows x.between.agent.tokens regions n.deed.after.agent.tokens f.fetches.read)
          (subst (AllByRecursion IsWord) (sym asks_for.same) words) moment many (omega arith))

      result_is : result ≡ answer_of regions keeps_all (pmids_of result.sets) result.stamp
      result_is =
          back.is ∙ ap (λ (p : Settings). answer_of regions p f.pmids result.stamp) (first_profile x.between.contexts f.context x.stays.contexts asks_for.first)
          ∙ ap (λ (l : List ℕ). answer_of regions keeps_all l result.stamp) asked_are

      abbrev answered : IsAnswered rows x.between.agent.tokens keeps_all (pmids_of result.sets) result.stamp result n.deed.after.agent.tokens
      answered = record {
        few = subst (λ (l : List ℕ). length l ≤ 1024) (sym sets_are) (omega arith);
        readings = regions;
        read = f.fetches.read;
        result_is = result_is;
      }

      left_are : moments_left ≡ f.fetches.moment ∷ (n.later.moments ++ extra)
      left_are = moments_are ∙ ap (λ (l : List Moment). l ++ extra) (x.moments ∙ n.moments ∙ ap (λ (l : List Moment). l ++ n.later.moments) f.fetches.moments)

      abbrev answers_next : AnswersNext rows s pdus_left moments_left result
      answers_next = record {
        before = x.before;
        fetch = pdu_bytes request;
        behind = n.behind;
        are = x.are ∙ ap (λ (l : List (List ℕ)). x.before ++ l) n.are;
        no_fetch = x.no_fetch;
        between = x.between;
        replies = x.written;
        others = x.does;
        asks = subst (λ (p : Pdu). IsPdu (pdu_bytes request) p) (same_request f.context f.sec f.usec f.pmids pmids asks_for ∙ ap (λ (l : List ℕ). pdus.Fetch 0 0 0 l) (sym sets_are)) f.asks;
        deed = n.deed;
        does = n.does;
        moment = f.fetches.moment;
        later = n.later.moments ++ extra;
        next = left_are;
        took = f.fetches.moments;
        replied = f.fetches.reply ∙ ap (λ (l : List ValueSet). Some (pdus.Result (stamped f.fetches.moment l))) (sym (ap (λ (r : PmResult). r.sets) back.is));
        stamped = back.stamp;
        answered = answered;
        read_so = all_show f.fetches.read.visits f.fetches.read.each;
      }

      by_fetch : Answered rows s pdus_left moments_left result requests more extra
      by_fetch =
          let rn = replied_next (ReadsRegions rows) x.between x.behind x.later request requests first more n (pdus.Result answer) whole f.fetches.reply in
          record { next = answers_next; later = n.later; moments = refl; stays = still_open x.between n.deed.after x.stays f.fetches.rest; faces = rn.faces }

    by_next : Answered rows s pdus_left moments_left result requests more extra
    by_next =
        elim (fetch_reply (ReadsRegions rows) x.between pmids n.deed x.stays n.does) [
          | inl f ↦ by_fetch f
          | inr r ↦ absurd (refuted r)
        ]

  pub fetch_answered : Answered rows s pdus_left moments_left result requests more extra
  fetch_answered = by_next (serves_next (ReadsRegions rows) x.between x.behind x.later request requests first more small some x.faces)
