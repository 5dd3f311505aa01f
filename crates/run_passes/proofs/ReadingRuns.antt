-- A run whose logger's passes did nothing but load: its passes stand where they stood, and what was read is what the run shows.
use Rattle.std.proofs.Common.{◌≡◌, ℕ, zero, suc, ◌<◌, List, [], ◌∷◌, map, length, slice_get, Some, sym, refl, ap, ◌∙◌, subst, arith}
use Rattle.std.specs.Global.{Vec}
use Rattle.std.proofs.lemmas.Option.{slice_get_within, get_or_from_slice_get}
use Rattle.std.proofs.lemmas.List.Folds.{fold-map}
use Rattle.pcp_base.specs.declared.result.PmResult.{PmResult}
use Rattle.region_rule.specs.Seats.{MadeRegion, Token}
use Rattle.fetch_answers.specs.Answers.{answer_of, facts_of}
use Rattle.fetch_answers.specs.Names.{with_region}
use Rattle.fetch_answers.specs.Readings.{RegionReading, reading_of}
use Rattle.fetch_engine.specs.Servers.{IsSeated}
use Rattle.fetch_engine.specs.Visits.{IsLoaded, AreLoaded, Visit, IsVisit, AreRead}
use Rattle.fetch_engine.specs.declared.server.Mounted.{Mounted}
use Rattle.fetch_engine.proofs.Visited.{still_seated}
use Rattle.fetch_answers.specs.declared.shot.Shot.{Shot}
use Rattle.run_script.specs.declared.script.RegionRow.{RegionRow}
use Rattle.run_script.specs.declared.script.Script.{Script}
use Rattle.script_runs.specs.Groups.{shot_of, shots_of}
use Rattle.script_runs.specs.Regions.{ScriptRegion}
use Rattle.script_runs.specs.Steps.{every_instance}
use Rattle.run_passes.specs.declared.worker.Worker.{Worker}
use Rattle.run_passes.specs.Works.{Grows, Quiet}
use Rattle.run_passes.proofs.Slotted.{loads_grow}
use Rattle.run_passes.specs.declared.running.Running.{Running}
use Rattle.run_passes.specs.Alike.{ReadAlike, AnswerAlike}
use Rattle.run_passes.specs.Crews.{clusters_in, IsCrew, IsAlone, Stands, IsFollowed, IsManned, Alone, Follows, cluster_of}
use Rattle.run_passes.specs.Loaded.{AloneReadingsAreStates, LoadedStayManned, ReadsAs}
use Rattle.run_passes.proofs.AlikeAnswers.{alike_answers}
use Rattle.run_passes.proofs.Crewing.{get_map}
use Rattle.run_passes.proofs.Placing.{one_row}
use Rattle.run_passes.proofs.ReadingLooks.{pass_still, Looked, loads_look, read_alike}
use Rattle.run_passes.proofs.ReadingOrder.{AreApart, clusters_of, clusters_same, shot_from, shots_length, zip_by}
use Rattle.run_passes.proofs.Seated.{the_one}

-- One region

module _ (region : MadeRegion) (crew : List Worker) (old new : Token) (is_crew : IsCrew region crew old) (loaded : IsLoaded old new) where
  grows : Grows old.view new.view
  grows = loads_grow old.view new.view loaded.loads

  pub crew_still : IsCrew region crew new
  crew_still = record {
    passes = is_crew.passes;
    some = is_crew.some;
    each = is_crew.each;
    behind = λ k worker e. let before = is_crew.behind k worker e in let a = grows.made in let b = grows.seen in omega arith;
    last = pass_still region (length crew) old new loaded is_crew.last;
    made = let before = is_crew.made in let b = grows.seen in omega arith;
  }

  pub alone_still : IsAlone crew new → IsAlone crew old
  alone_still alone = let before = is_crew.made in let b = grows.seen in omega arith

  pub quiet_still : IsAlone crew new → Quiet old.view new.view
  quiet_still alone = let before = is_crew.made in omega arith

  pub stands_still : (r : ScriptRegion) → IsAlone crew new → Stands r crew old → Stands r crew new
  stands_still r alone s =
      let l : Looked (length crew) old.view new.view = loads_look (length crew) old.view new.view is_crew.last.number_is loaded.loads (quiet_still alone) in
      record { state = s.state ∙ sym l.state; log = s.log ∙ sym l.log; doing = s.doing }

-- All regions

get_there : {A : Type 0} (xs : List A) (i : ℕ) → i < length xs → (x : A) × (slice_get xs i ≡ Some x)
get_there [] i h = absurd (omega arith)
get_there (x ∷ xs) zero h = (x, refl)
get_there (x ∷ xs) (suc i) h = get_there xs i (omega arith)

long_map : {A B : Type 0} (f : A → B) (xs : List A) → length (map f xs) ≡ length xs
long_map f [] = refl
long_map f (x ∷ xs) = ap suc (long_map f xs)

unmapped : {A B : Type 0} (f : A → B) (xs : List A) (i : ℕ) (y : B) → slice_get (map f xs) i ≡ Some y → (x : A) × (slice_get xs i ≡ Some x) × (f x ≡ y)
unmapped f [] i y e = absurd (cc)
unmapped f (x ∷ xs) zero y e = (x, refl, cc)
unmapped f (x ∷ xs) (suc i) y e = unmapped f xs i y e

-- a pass of a seat, before and behind
loaded_old : (olds news : List Token) (j : ℕ) (new : Token) → AreLoaded olds news → slice_get news j ≡ Some new → (old : Token) × (slice_get olds j ≡ Some old) × IsLoaded old new
loaded_old [] [] j new h e = absurd (cc)
loaded_old [] (n ∷ ns) j new h e = absurd h
loaded_old (o ∷ os) [] j new h e = absurd h
loaded_old (o ∷ os) (n ∷ ns) zero new h e = let same : n ≡ new = cc in (o, refl, subst (λ (t : Token). IsLoaded o t) same h.0)
loaded_old (o ∷ os) (n ∷ ns) (suc j) new h e = loaded_old os ns j new h.1 e

loaded_new : (olds news : List Token) (j : ℕ) (old : Token) → AreLoaded olds news → slice_get olds j ≡ Some old → (new : Token) × (slice_get news j ≡ Some new) × IsLoaded old new
loaded_new [] [] j old h e = absurd (cc)
loaded_new [] (n ∷ ns) j old h e = absurd h
loaded_new (o ∷ os) [] j old h e = absurd h
loaded_new (o ∷ os) (n ∷ ns) zero old h e = let same : o ≡ old = cc in (n, refl, subst (λ (t : Token). IsLoaded t n) same h.0)
loaded_new (o ∷ os) (n ∷ ns) (suc j) old h e = loaded_new os ns j old h.1 e

module _ (server : List Mounted) (running : Running) (old new : List Token) (manned : IsManned server running old) (loaded : AreLoaded old new) where
  pub manned_still : IsSeated server new → IsManned server running new
  manned_still seated = record {
    in_order = manned.in_order;
    clusters = manned.clusters;
    as_many = manned.as_many;
    seated = seated;
    crews = λ j mounted crew logger e f g.
        let was = loaded_old old new j logger loaded g in
        crew_still mounted.region crew.items was.0 logger (manned.crews j mounted crew was.0 e f was.1) was.2;
  }

  pub alone_before : Alone running new → Alone running old
  alone_before alone j crew logger f g =
      let is = loaded_new old new j logger loaded g in
      let below = slice_get_within running.crews.items j crew f in
      let many = manned.as_many in
      let mounted = get_there server j (omega arith) in
      alone_still mounted.0.region crew.items logger is.0 (manned.crews j mounted.0 crew logger mounted.1 f g) is.2 (alone j crew is.0 f is.1)

  module _ (alone : Alone running new) (script : Script) (regions : List ScriptRegion) (follows : Follows script server running old regions) where
    pub follows_still : Follows script server running new regions
    follows_still = record {
      rules = follows.rules;
      serves = follows.serves;
      as_many = follows.as_many;
      each = λ i row r d e j mounted crew logger f g h same.
          let was = loaded_old old new j logger loaded h in
          let is : IsFollowed r mounted crew.items was.0 = follows.each i row r d e j mounted crew was.0 f g was.1 same in
          let is_crew : IsCrew mounted.region crew.items was.0 = manned.crews j mounted crew was.0 f g was.1 in
          record {
            file = is.file;
            cluster = is.cluster;
            stands = stands_still mounted.region crew.items was.0 logger is_crew was.2 r (alone j crew logger g h) is.stands;
          };
    }

    -- where the regions of the script are served
    row_of : (i : ℕ) (r : ScriptRegion) → slice_get regions i ≡ Some r → (row : RegionRow) × (slice_get script.regions i ≡ Some row)
    row_of i r e = let below = slice_get_within regions i r e in let many = follows.as_many in get_there script.regions i (omega arith)

    crew_of : (j : ℕ) (mounted : Mounted) → slice_get server j ≡ Some mounted → (crew : Vec Worker) × (slice_get running.crews.items j ≡ Some crew)
    crew_of j mounted e = let below = slice_get_within server j mounted e in let many = manned.as_many in get_there running.crews.items j (omega arith)

    token_of : (j : ℕ) (mounted : Mounted) → slice_get server j ≡ Some mounted → (token : Token) × (slice_get old j ≡ Some token)
    token_of j mounted e =
        let below = slice_get_within server j mounted e in
        let many : length old ≡ length server = sym (long_map (λ (t : Token). t.region) old) ∙ (ap (λ (l : List MadeRegion). length l) manned.seated ∙ long_map (λ (m : Mounted). m.region) server) in
        get_there old j (omega arith)

    cluster_is : (i : ℕ) (r : ScriptRegion) (row : RegionRow) → slice_get regions i ≡ Some r → slice_get script.regions i ≡ Some row
        → (j : ℕ) × (mounted : Mounted) × (slice_get server j ≡ Some mounted) × (mounted.cluster ≡ r.cluster) × (r.cluster ≡ cluster_of script row)
    cluster_is i r row e d =
        let place = follows.serves.each i row d in
        let crew = crew_of place.0 place.1 place.2 in
        let token = token_of place.0 place.1 place.2 in
        let is : IsFollowed r place.1 crew.0.items token.0 = follows.each i row r d e place.0 place.1 crew.0 token.0 place.2 crew.1 token.1 place.3.cluster in
        (place.0, place.1, place.2, sym is.cluster, is.cluster ∙ place.3.cluster)

    served : (i : ℕ) (r : ScriptRegion) → slice_get regions i ≡ Some r → (j : ℕ) × (mounted : Mounted) × (slice_get server j ≡ Some mounted) × (mounted.cluster ≡ r.cluster)
    served i r e = let row = row_of i r e in let c = cluster_is i r row.0 e row.1 in (c.0, c.1, c.2, c.3)

    apart : AreApart regions
    apart i j x y e f same =
        let a = row_of i x e in
        let b = row_of j y f in
        one_row script i j a.0 b.0 follows.rules a.1 b.1 (sym (cluster_is i x a.0 e a.1).4 ∙ (same ∙ (cluster_is j y b.0 f b.1).4))

    as_many : length regions ≡ length server
    as_many = follows.as_many ∙ sym follows.serves.as_many

    -- what was read at a position is like what the region there shows
    module _ (readings : List RegionReading) (read : AreRead server old readings new) where
      visit_alike : (p : ℕ) (visit : Visit) (i : ℕ) (r : ScriptRegion) → slice_get read.visits p ≡ Some visit → slice_get regions i ≡ Some r → visit.row.cluster ≡ r.cluster → ReadAlike visit.reading (reading_of (shot_of r))
      visit_alike p visit i r e f same =
          let v : IsVisit visit = subst IsVisit (get_or_from_slice_get read.visits p visit visit e) (read.each p visit (slice_get_within read.visits p visit e)) in
          let row_there : slice_get server p ≡ Some visit.row = ap (λ (l : List Mounted). slice_get l p) (sym read.rows_are) ∙ get_map (λ (x : Visit). x.row) read.visits p visit e in
          let old_there : slice_get old p ≡ Some visit.before = ap (λ (l : List Token). slice_get l p) (sym read.old_are) ∙ get_map (λ (x : Visit). x.before) read.visits p visit e in
          let new_there : slice_get new p ≡ Some visit.after = ap (λ (l : List Token). slice_get l p) (sym read.new_are) ∙ get_map (λ (x : Visit). x.after) read.visits p visit e in
          let crew = crew_of p visit.row row_there in
          let row = row_of i r f in
          let is : IsFollowed r visit.row crew.0.items visit.before =
          follows.each i row.0 r row.1 f p visit.row crew.0 visit.before row_there crew.1 old_there (same ∙ (cluster_is i r row.0 f row.1).4) in
          let is_crew : IsCrew visit.row.region crew.0.items visit.before = manned.crews p visit.row crew.0 visit.before row_there crew.1 old_there in
          record {
            file = v.file ∙ sym is.file;
            cluster = v.cluster ∙ sym is.cluster;
            layouts = read_alike (length crew.0.items) visit.before.view visit.after.view visit.reading.layout r is_crew.last.number_is is.stands.state v.read.read
                (quiet_still visit.row.region crew.0.items visit.before visit.after is_crew v.read.loaded (alone p crew.0 visit.after crew.1 new_there));
          }

      each_alike : (p : ℕ) (x y : RegionReading) → slice_get readings p ≡ Some x → slice_get (map reading_of (shots_of regions)) p ≡ Some y → ReadAlike x y
      each_alike p x y e f =
          let at = unmapped (λ (v : Visit). v.reading) read.visits p x (ap (λ (l : List RegionReading). slice_get l p) read.readings_are ∙ e) in
          let shot = unmapped reading_of (shots_of regions) p y f in
          let from = shot_from regions p shot.0 shot.1 in
          let row_there : slice_get server p ≡ Some at.0.row = ap (λ (l : List Mounted). slice_get l p) (sym read.rows_are) ∙ get_map (λ (v : Visit). v.row) read.visits p at.0 at.1 in
          let clusters : clusters_of (shots_of regions) ≡ clusters_in server = clusters_same regions server manned.in_order.ascend apart as_many served in
          let same : shot.0.cluster ≡ at.0.row.cluster =
          the_one (clusters_in server) p shot.0.cluster at.0.row.cluster (ap (λ (l : List ℕ). slice_get l p) (sym clusters) ∙ get_map (λ (s : Shot). s.cluster) (shots_of regions) p shot.0 shot.1) (get_map (λ (m : Mounted). m.cluster) server p at.0.row row_there) in
          let alike : ReadAlike at.0.reading (reading_of (shot_of from.1)) = visit_alike p at.0 from.0 from.1 at.1 from.2 (sym same ∙ ap (λ (s : Shot). s.cluster) from.3) in
          subst (λ (a : RegionReading). ReadAlike a y) at.2 (subst (λ (b : RegionReading). ReadAlike at.0.reading b) (ap reading_of (sym from.3) ∙ shot.2) alike)

      read_so : AnswerAlike readings (map reading_of (shots_of regions))
      read_so = alike_answers readings (map reading_of (shots_of regions)) (zip_by ReadAlike readings (map reading_of (shots_of regions)) many each_alike)
        where
          many : length readings ≡ length (map reading_of (shots_of regions))
          many =
              ap (λ (l : List RegionReading). length l) (sym read.readings_are)
              ∙ (long_map (λ (v : Visit). v.reading) read.visits
              ∙ (sym (long_map (λ (v : Visit). v.row) read.visits)
              ∙ (ap (λ (l : List Mounted). length l) read.rows_are ∙ (sym as_many ∙ (sym (shots_length regions) ∙ sym (long_map reading_of (shots_of regions)))))))

    pub reads_as : (readings : List RegionReading) → AreRead server old readings new → ReadsAs readings regions
    reads_as readings read =
        let shown : List RegionReading = map reading_of (shots_of regions) in
        let a : AnswerAlike readings shown = read_so readings read in
        record {
          alike = a;
          names = a.names ∙ fold-map with_region reading_of [] (shots_of regions);
          fetched = λ pmids now.
              let result : answer_of readings every_instance pmids now ≡ answer_of shown every_instance pmids now = a.answers every_instance pmids now in
              let facts = a.facts (answer_of readings every_instance pmids now).sets ∙ ap (λ (x : PmResult). facts_of shown x.sets) result in
              λ i. record { result = result i; facts = facts i };
        }

-- ---- the laws

pub loaded_stay_manned : LoadedStayManned
loaded_stay_manned server running old new manned loaded = (
  manned_still server running old new manned loaded (still_seated server old new manned.seated loaded),
  alone_before server running old new manned loaded,
)

pub readings_are_states : AloneReadingsAreStates
readings_are_states script server running old new regions manned loaded alone follows = (
  follows_still server running old new manned loaded alone script regions follows,
  reads_as server running old new manned loaded alone script regions follows,
)
