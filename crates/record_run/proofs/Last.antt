-- The last sample of a recording.
use Rattle.std.proofs.Common.{◌≡◌, ℕ, zero, suc, ◌+◌, ◌<◌, ◌≤◌, List, [], ◌∷◌, ◌++◌, append-nil, length, length-append, map, slice_get, inl, inr, ◌⊎◌, Option, Some, None, sym, refl, ap, ◌∙◌, subst, arith}
use Rattle.std.specs.List.{AllZip}
use Rattle.std.proofs.lemmas.List.{map-append}
use Rattle.std.proofs.lemmas.Option.{get_or_from_slice_get, slice_get_within}
use Rattle.pcp_base.specs.Time.{Moment}
use Rattle.pcp_base.specs.declared.result.PmResult.{PmResult}
use Rattle.pmns_core.specs.Pairs.{Pair}
use Rattle.mmv_layout.specs.declared.rows.Layout.{Layout}
use Rattle.mmv_layout.specs.Rows.{layout_of}
use Rattle.region_core.specs.declared.act.Entry.{Entry}
use Rattle.region_core.specs.declared.mode.Mode.TheVariants.{Idle}
use Rattle.region_core.specs.Journal.{state, state_at, own}
use Rattle.region_core.specs.State.{State, opening, IsStable}
use Rattle.region_rule.specs.declared.view.View.{View}
use Rattle.region_rule.specs.Seats.{MadeRegion, Token, IsOf}
use Rattle.region_rule.specs.Views.{opening_of}
use Rattle.region_rule.proofs.Showing.{Follows, follows_trans}
use Rattle.region_words.specs.Images.{mmv, mmv_laws}
use Rattle.fetch_answers.specs.Answers.{facts_of}
use Rattle.fetch_answers.specs.Readings.{RegionReading}
use Rattle.fetch_answers.specs.declared.fetch.Fetched.{Fetched}
use Rattle.fetch_engine.specs.Servers.{IsSeated}
use Rattle.fetch_engine.specs.Visits.{AreRead, AreLoaded, IsLoaded, IsReadBy, IsVisit, Visit}
use Rattle.fetch_engine.specs.declared.server.Mounted.{Mounted}
use Rattle.fetch_engine.proofs.Tries.{loads_follow, opening_same}
use Rattle.log_schedule.specs.declared.config.Group.{Group}
use Rattle.run_archive.specs.Shown.{result_for}
use Rattle.run_script.specs.Rules.{KeepsRules}
use Rattle.run_script.specs.declared.script.Script.{Script}
use Rattle.run_passes.specs.Alike.{AnswerAlike, LayoutsAlike, ReadAlike}
use Rattle.run_passes.specs.Crews.{ServesScript}
use Rattle.run_passes.proofs.AlikeAnswers.{alike_answers}
use Rattle.run_passes.proofs.Begun.{as_many_seated, get_there}
use Rattle.run_passes.proofs.Crewing.{get_map}
use Rattle.run_passes.proofs.ReadingOrder.{zip_by}
use Rattle.run_passes.proofs.Seated.{the_one}
use Rattle.script_runs.specs.declared.ending.Ending.TheVariants as ends
use Rattle.script_runs.specs.Groups.{Plan, asking, asked_for}
use Rattle.script_runs.specs.Steps.{every_instance, fetched_from, plans_at}
use Rattle.run_archive.specs.Samples.{SampleTaken, IsTaken, AreTaken, stamps_of}
use Rattle.run_archive.specs.Shown.{AreShown, pmids_by, shown_by, with_result}
use Rattle.run_passes.specs.Hands.{IsServedAt}
use Rattle.run_passes.proofs.WriterPlaces.{made_at}
use Rattle.run_passes.proofs.Ready.{row_at}
use Rattle.record_run.specs.Beside.{AtJournals, Beside, IsSampled, StopsLogging, WritersRan, start_of}
use Rattle.record_run.specs.Closing.{closing, closing_of, closing_words, LastSampleIsExact}
use Rattle.record_run.proofs.Behind.{still_at, stable_end, image_end}
use Rattle.record_run.proofs.Reading.{read_still}

-- Lists

unmapped : {A B : Type 0} (f : A → B) (xs : List A) (i : ℕ) (y : B) → slice_get (map f xs) i ≡ Some y → (x : A) × (slice_get xs i ≡ Some x) × (f x ≡ y)
unmapped f [] i y e = absurd (cc)
unmapped f (x ∷ xs) zero y e = (x, refl, cc)
unmapped f (x ∷ xs) (suc i) y e = unmapped f xs i y e

closing_at : (server : List Mounted) (seat : List Token) (j : ℕ) (mounted : Mounted) (token : Token) → slice_get server j ≡ Some mounted → slice_get seat j ≡ Some token
    → slice_get (closing server seat) j ≡ Some (closing_of mounted token)
closing_at [] seat j mounted token e f = absurd (cc)
closing_at (m ∷ ms) [] j mounted token e f = absurd (cc)
closing_at (m ∷ ms) (t ∷ ts) zero mounted token e f =
    let rows : m ≡ mounted = cc in
    let tokens : t ≡ token = cc in
    λ i. Some (closing_of (rows i) (tokens i))
closing_at (m ∷ ms) (t ∷ ts) (suc j) mounted token e f = closing_at ms ts j mounted token e f

closing_long : (server : List Mounted) (seat : List Token) → length seat ≡ length server → length (closing server seat) ≡ length server
closing_long [] seat e = refl
closing_long (m ∷ ms) [] e = absurd (omega arith)
closing_long (m ∷ ms) (t ∷ ts) e = ap suc (closing_long ms ts (omega arith))

-- What stands at one position

loaded_at : (olds news : List Token) (j : ℕ) (new : Token) → AreLoaded olds news → slice_get news j ≡ Some new → (old : Token) × (slice_get olds j ≡ Some old) × IsLoaded old new
loaded_at [] [] j new h e = absurd (cc)
loaded_at [] (n ∷ ns) j new h e = absurd h
loaded_at (o ∷ os) [] j new h e = absurd h
loaded_at (o ∷ os) (n ∷ ns) zero new h e = let same : n ≡ new = cc in (o, refl, subst (λ (t : Token). IsLoaded o t) same h.0)
loaded_at (o ∷ os) (n ∷ ns) (suc j) new h e = loaded_at os ns j new h.1 e

-- the reading of one region
record ReadAt (server : List Mounted) (old : List Token) (readings : List RegionReading) (new : List Token) (j : ℕ) (mounted : Mounted) : Type 0 where
  before : Token
  was : slice_get old j ≡ Some before
  after : Token
  is : slice_get new j ≡ Some after
  reading : RegionReading
  there : slice_get readings j ≡ Some reading
  file : reading.file ≡ mounted.file
  cluster : reading.cluster ≡ mounted.cluster
  read : IsReadBy before reading.layout after

read_at : (server : List Mounted) (old : List Token) (readings : List RegionReading) (new : List Token) → AreRead server old readings new → (j : ℕ) (mounted : Mounted) → slice_get server j ≡ Some mounted
    → ReadAt server old readings new j mounted
read_at server old readings new read j mounted e =
    let found = unmapped (λ (v : Visit). v.row) read.visits j mounted (ap (λ (l : List Mounted). slice_get l j) read.rows_are ∙ e) in
    let visit : Visit = found.0 in
    let v : IsVisit visit = subst IsVisit (get_or_from_slice_get read.visits j visit visit found.1) (read.each j visit (slice_get_within read.visits j visit found.1)) in
    record {
      before = visit.before;
      was = ap (λ (l : List Token). slice_get l j) (sym read.old_are) ∙ get_map (λ (x : Visit). x.before) read.visits j visit found.1;
      after = visit.after;
      is = ap (λ (l : List Token). slice_get l j) (sym read.new_are) ∙ get_map (λ (x : Visit). x.after) read.visits j visit found.1;
      reading = visit.reading;
      there = ap (λ (l : List RegionReading). slice_get l j) (sym read.readings_are) ∙ get_map (λ (x : Visit). x.reading) read.visits j visit found.1;
      file = v.file ∙ ap (λ (m : Mounted). m.file) found.2;
      cluster = v.cluster ∙ ap (λ (m : Mounted). m.cluster) found.2;
      read = v.read;
    }

read_long : (server : List Mounted) (old : List Token) (readings : List RegionReading) (new : List Token) → AreRead server old readings new → length readings ≡ length server
read_long server old readings new read =
    ap (λ (l : List RegionReading). length l) (sym read.readings_are)
    ∙ (long_map (λ (v : Visit). v.reading) read.visits ∙ (sym (long_map (λ (v : Visit). v.row) read.visits) ∙ ap (λ (l : List Mounted). length l) read.rows_are))
  where
    long_map : {A B : Type 0} (f : A → B) (xs : List A) → length (map f xs) ≡ length xs
    long_map f [] = refl
    long_map f (x ∷ xs) = ap suc (long_map f xs)

seated_at : (server : List Mounted) (seat : List Token) (j : ℕ) (mounted : Mounted) (token : Token) → IsSeated server seat → slice_get server j ≡ Some mounted → slice_get seat j ≡ Some token → token.region ≡ mounted.region
seated_at server seat j mounted token seated e f =
    the_one (map (λ (m : Mounted). m.region) server) j token.region mounted.region
    (ap (λ (l : List MadeRegion). slice_get l j) (sym seated) ∙ get_map (λ (t : Token). t.region) seat j token f)
    (get_map (λ (m : Mounted). m.region) server j mounted e)

-- what has seen at least as much
longer_seen : (v w : View) → Follows v w → length v.seen ≤ length w.seen
longer_seen v w f =
    let wide : length w.seen ≡ length v.seen + length f.seen.0 = ap length f.seen.1 ∙ length-append v.seen f.seen.0 in
    omega arith

-- The recording

module _ (script : Script) (server : List Mounted) (first final : List Token) (moments : List Moment) (results : List Fetched) (keeps : KeepsRules script) (serves : ServesScript script 1 server) (seated : IsSeated server final)
    (beside : Beside script server first final ends.Done moments results) where
  abbrev sampled : IsSampled script server first final ends.Done moments results
  sampled = beside.sampled

  -- the writers have run
  ran : AtJournals WritersRan script server final
  ran = beside.writers

  -- The region at a position: the seat's pass behind the writers, behind the names, behind the values, and at the end
  module _ (i j : ℕ) (at : IsServedAt script server i j) (begun named valued last : Token) (begun_is : slice_get sampled.gathered j ≡ Some begun) (last_is : slice_get final j ≡ Some last)
      (names values : Option Layout) (first_read : IsReadBy begun names named) (second_read : IsReadBy named values valued) (loaded : IsLoaded valued last) where
    abbrev end : State
    end = state (start_of at.mounted) last.view.seen

    passes_are : at.mounted.region.passes ≡ at.row.passes + 1
    passes_are = (made_at script server 1 keeps serves i j at).passes

    stands : (rest : List Entry) × (last.view.seen ≡ begun.view.seen ++ rest) × ((k : ℕ) → k < at.row.passes → own k rest ≡ [])
    stands = sampled.stands i j at begun last begun_is last_is

    stays : (seen more : List Entry) → last.view.seen ≡ seen ++ more → (r : List Entry) → seen ≡ begun.view.seen ++ r → (p : ℕ) → length begun.view.seen ≤ p → state_at (start_of at.mounted) seen p ≡ end
    stays = still_at mmv mmv_laws at.mounted.region.words at.mounted.region.passes at.row.passes begun.view.seen stands.0 last.view.seen stands.1 (beside.legal i j at last last_is) passes_are
        (beside.loads i j at last last_is) stands.2 (ran i j at last last_is).idle

    stable : IsStable end
    stable = stable_end mmv mmv_laws at.mounted.region.words at.mounted.region.passes at.row.passes begun.view.seen stands.0 last.view.seen stands.1 (beside.legal i j at last last_is) passes_are
        (beside.loads i j at last last_is) stands.2 (ran i j at last last_is).idle

    image : mmv.IsImage end.words
    image = image_end mmv mmv_laws at.mounted.region.words at.mounted.region.passes at.row.passes begun.view.seen stands.0 last.view.seen stands.1 (beside.legal i j at last last_is) passes_are
        (beside.loads i j at last last_is) stands.2 (ran i j at last last_is).idle

    begun_region : begun.region ≡ at.mounted.region
    begun_region = sym first_read.stays.region ∙ (sym second_read.stays.region ∙ (sym loaded.region ∙ seated_at server final j at.mounted last seated at.there last_is))

    opens : opening_of begun.view ≡ start_of at.mounted
    opens =
        let is : IsOf Idle begun = first_read.stays.before in
        let words = is.start_is ∙ ap (λ (r : MadeRegion). r.words) begun_region in
        let passes = is.passes_are ∙ ap (λ (r : MadeRegion). r.passes) begun_region in
        λ k. opening (words k) (passes k)

    to_named : Follows begun.view named.view
    to_named = loads_follow begun.view named.view first_read.loaded.loads

    to_valued : Follows named.view valued.view
    to_valued = loads_follow named.view valued.view second_read.loaded.loads

    to_last : Follows valued.view last.view
    to_last = loads_follow valued.view last.view loaded.loads

    names_alike : LayoutsAlike names (Some (layout_of (closing_words at.mounted last)))
    names_alike =
        let whole : Follows named.view last.view = follows_trans named.view valued.view last.view to_valued to_last in
        read_still begun.view named.view end
        (λ p far. ap (λ (s : State). state_at s named.view.seen p) opens ∙ stays named.view.seen whole.seen.0 whole.seen.1 to_named.seen.0 to_named.seen.1 p far)
        stable image names first_read.read

    values_alike : LayoutsAlike values (Some (layout_of (closing_words at.mounted last)))
    values_alike =
        let whole : Follows begun.view valued.view = follows_trans begun.view named.view valued.view to_named to_valued in
        let longer = longer_seen begun.view named.view to_named in
        read_still named.view valued.view end
        (λ p far. ap (λ (s : State). state_at s valued.view.seen p) (opening_same begun.view named.view to_named ∙ opens)
        ∙ stays valued.view.seen to_last.seen.0 to_last.seen.1 whole.seen.0 whole.seen.1 p (omega arith))
        stable image values second_read.read

  -- All regions
  module _ (s : SampleTaken) (last : List Token) (before_is : s.before ≡ sampled.gathered) (taken : IsTaken server s) (after_is : last ≡ s.after) (loaded : AreLoaded last final) where
    as_many : length final ≡ length server
    as_many = as_many_seated server final seated

    -- both readings at a position
    record BothAt (j : ℕ) : Type 0 where
      mounted : Mounted
      mounted_is : slice_get server j ≡ Some mounted
      token : Token
      token_is : slice_get final j ≡ Some token
      name : RegionReading
      name_is : slice_get s.names j ≡ Some name
      name_alike : ReadAlike name (closing_of mounted token)
      value : RegionReading
      value_is : slice_get s.values j ≡ Some value
      value_alike : ReadAlike value (closing_of mounted token)

    both_at : (j : ℕ) → j < length server → BothAt j
    both_at j below =
        let place = row_at script server 1 keeps serves j below in
        let at : IsServedAt script server place.0 j = place.1 in
        let token = get_there final j (omega (arith, as_many)) in
        let n : ReadAt server s.before s.names s.between j at.mounted = read_at server s.before s.names s.between taken.named j at.mounted at.there in
        let v : ReadAt server s.between s.values s.after j at.mounted = read_at server s.between s.values s.after taken.read j at.mounted at.there in
        let l = loaded_at last final j token.0 loaded token.1 in
        let between : n.after ≡ v.before = the_one s.between j n.after v.before n.is v.was in
        let end : v.after ≡ l.0 = the_one s.after j v.after l.0 v.is (ap (λ (ts : List Token). slice_get ts j) (sym after_is) ∙ l.1) in
        let second : IsReadBy n.after v.reading.layout v.after = subst (λ (t : Token). IsReadBy t v.reading.layout v.after) (sym between) v.read in
        let rest : IsLoaded v.after token.0 = subst (λ (t : Token). IsLoaded t token.0) (sym end) l.2 in
        let begun : slice_get sampled.gathered j ≡ Some n.before = ap (λ (ts : List Token). slice_get ts j) (sym before_is) ∙ n.was in
        record {
          mounted = at.mounted;
          mounted_is = at.there;
          token = token.0;
          token_is = token.1;
          name = n.reading;
          name_is = n.there;
          name_alike = record { file = n.file; cluster = n.cluster; layouts = names_alike place.0 j at n.before n.after v.after token.0 begun token.1 n.reading.layout v.reading.layout n.read second rest };
          value = v.reading;
          value_is = v.there;
          value_alike = record { file = v.file; cluster = v.cluster; layouts = values_alike place.0 j at n.before n.after v.after token.0 begun token.1 n.reading.layout v.reading.layout n.read second rest };
        }

    closing_many : length (closing server final) ≡ length server
    closing_many = closing_long server final as_many

    named_alike : AllZip ReadAlike s.names (closing server final)
    named_alike =
        let many : length s.names ≡ length server = read_long server s.before s.names s.between taken.named in
        zip_by ReadAlike s.names (closing server final) (many ∙ sym closing_many)
        (λ j x y e f.
        let b : BothAt j = both_at j (let within = slice_get_within s.names j x e in omega arith) in
        let left : b.name ≡ x = the_one s.names j b.name x b.name_is e in
        let right : closing_of b.mounted b.token ≡ y = the_one (closing server final) j (closing_of b.mounted b.token) y (closing_at server final j b.mounted b.token b.mounted_is b.token_is) f in
        subst (λ (r : RegionReading). ReadAlike r y) left (subst (λ (r : RegionReading). ReadAlike b.name r) right b.name_alike))

    read_alike : AllZip ReadAlike s.values (closing server final)
    read_alike =
        let many : length s.values ≡ length server = read_long server s.between s.values s.after taken.read in
        zip_by ReadAlike s.values (closing server final) (many ∙ sym closing_many)
        (λ j x y e f.
        let b : BothAt j = both_at j (let within = slice_get_within s.values j x e in omega arith) in
        let left : b.value ≡ x = the_one s.values j b.value x b.value_is e in
        let right : closing_of b.mounted b.token ≡ y = the_one (closing server final) j (closing_of b.mounted b.token) y (closing_at server final j b.mounted b.token b.mounted_is b.token_is) f in
        subst (λ (r : RegionReading). ReadAlike r y) left (subst (λ (r : RegionReading). ReadAlike b.value r) right b.value_alike))

-- What is logged

fetched_alike : (readings others : List RegionReading) → AnswerAlike readings others → (pmids : List ℕ) (now : Moment) → fetched_from readings pmids now ≡ fetched_from others pmids now
fetched_alike readings others a pmids now =
    let result = a.answers every_instance pmids now in
    let facts = a.facts (fetched_from readings pmids now).result.sets ∙ ap (λ (x : PmResult). facts_of others x.sets) result in
    λ i. record { result = result i; facts = facts i }

with_more : (o : Option Fetched) (xs ys : List Fetched) → with_result o (xs ++ ys) ≡ with_result o xs ++ ys
with_more None xs ys = refl
with_more (Some f) xs ys = refl

-- what the samples before the last one logged
record Front (groups : List Group) (plans : Option (List Plan)) (samples : List SampleTaken) (s : SampleTaken) (results : List Fetched) : Type 0 where
  before : List Fetched
  by_then : Option (List Plan)
  shown : AreShown groups plans samples before by_then
  is : results ≡ before ++ with_result (shown_by groups by_then s) []

front : (groups : List Group) (plans : Option (List Plan)) (samples : List SampleTaken) (s : SampleTaken) (results : List Fetched) (later : Option (List Plan)) → AreShown groups plans (samples ++ s ∷ []) results later → Front groups plans samples s results
front groups plans [] s results later h = record {
  before = [];
  by_then = plans;
  shown = (refl, refl);
  is = h.4 ∙ ap (λ (l : List Fetched). with_result (shown_by groups plans s) l) h.5.0;
}
front groups plans (x ∷ xs) s results later h =
    let rest : Front groups (Some h.0) xs s h.1 = front groups (Some h.0) xs s h.1 later h.5 in
    record {
      before = with_result (shown_by groups plans x) rest.before;
      by_then = rest.by_then;
      shown = (h.0, rest.before, h.2, h.3, refl, rest.shown);
      is = h.4 ∙ (ap (λ (l : List Fetched). with_result (shown_by groups plans x) l) rest.is ∙ with_more (shown_by groups plans x) rest.before (with_result (shown_by groups rest.by_then s) []));
    }

-- nothing stopped the logging
all_logged : {A B : Type 0} (xs : List A) (ys : List B) → ((xs ≡ []) × (ys ≡ [])) ⊎ StopsLogging ends.Done → (xs ≡ []) × (ys ≡ [])
all_logged xs ys (inl none) = none
all_logged xs ys (inr stops) = absurd stops

one_item : {A : Type 0} (xs : List A) → length xs ≡ 1 → (x : A) × (xs ≡ x ∷ [])
one_item [] e = absurd (omega arith)
one_item (x ∷ []) e = (x, refl)
one_item (x ∷ y ∷ ys) e = absurd (omega arith)

pub last_sample : LastSampleIsExact
last_sample script server first final moments results keeps serves seated b =
    let sampled : IsSampled script server first final ends.Done moments results = b.sampled in
    let one = one_item sampled.behind (sampled.last_behind refl) in
    let s : SampleTaken = one.0 in
    let taken : AreTaken server sampled.gathered (s ∷ []) sampled.last = subst (λ (l : List SampleTaken). AreTaken server sampled.gathered l sampled.last) one.1 sampled.taken_behind in
    let none = all_logged sampled.unlogged sampled.lacking sampled.stops in
    let logged : sampled.logged ≡ sampled.beside ++ s ∷ [] =
    sym (append-nil sampled.logged) ∙ (ap (λ (l : List SampleTaken). sampled.logged ++ l) (sym none.0) ∙ (sym sampled.are ∙ ap (λ (l : List SampleTaken). sampled.beside ++ l) one.1)) in
    let f : Front script.config.groups None sampled.beside s results =
    front script.config.groups None sampled.beside s results sampled.plans (subst (λ (l : List SampleTaken). AreShown script.config.groups None l results sampled.plans) logged sampled.shown) in
    let names : AllZip ReadAlike s.names (closing server final) = named_alike script server first final moments results keeps serves seated b s sampled.last taken.0 taken.1 taken.2 sampled.loaded_behind in
    let values : AllZip ReadAlike s.values (closing server final) = read_alike script server first final moments results keeps serves seated b s sampled.last taken.0 taken.1 taken.2 sampled.loaded_behind in
    let named : AnswerAlike s.names (closing server final) = alike_answers s.names (closing server final) names in
    let answered : AnswerAlike s.values (closing server final) = alike_answers s.values (closing server final) values in
    let pmids : pmids_by script.config.groups f.by_then s.names s.stamp ≡ pmids_by script.config.groups f.by_then (closing server final) s.stamp =
    ap (λ (pairs : List Pair). asked_for s.stamp (asking pairs s.stamp (plans_at script.config.groups f.by_then s.stamp))) named.names in
    record {
      sample = s;
      is = one.1;
      earlier = stamps_of sampled.beside;
      at_last = sampled.moments_are
          ∙ (ap (λ (l : List Moment). stamps_of (sampled.beside ++ sampled.behind) ++ l) none.1
          ∙ (append-nil (stamps_of (sampled.beside ++ sampled.behind))
          ∙ (ap (λ (l : List SampleTaken). stamps_of (sampled.beside ++ l)) one.1 ∙ map-append (λ (x : SampleTaken). x.stamp) sampled.beside (s ∷ []))));
      named = names;
      read = values;
      names = named.names;
      answers = λ asked now. fetched_alike s.values (closing server final) answered asked now;
      before = f.before;
      plans = f.by_then;
      shown_before = f.shown;
      ends_with = f.is
          ∙ ap (λ (o : Option Fetched). f.before ++ with_result o [])
          (ap (λ (asked : List ℕ). result_for asked (fetched_from s.values asked s.stamp)) pmids
          ∙ ap (λ (x : Fetched). result_for (pmids_by script.config.groups f.by_then (closing server final) s.stamp) x)
          (fetched_alike s.values (closing server final) answered (pmids_by script.config.groups f.by_then (closing server final) s.stamp) s.stamp));
    }
