-- A run that begins with what was opened: its passes have done nothing, and stand where its regions stand as they are made.
use Rattle.std.proofs.Common.{◌≡◌, ℕ, zero, suc, ◌<◌, ◌≤◌, List, [], ◌∷◌, length, slice_get, Some, sym, refl, ap, ◌∙◌, subst, arith}
use Rattle.std.specs.Global.{Vec}
use Rattle.std.proofs.lemmas.List.{length-map}
use Rattle.std.proofs.lemmas.Option.{slice_get_within}
use Rattle.region_rule.specs.Seats.{MadeRegion, Token}
use Rattle.fetch_engine.specs.Servers.{Seated, IsSeated}
use Rattle.fetch_engine.specs.declared.server.Mounted.{Mounted}
use Rattle.run_script.specs.Rules.{KeepsRules}
use Rattle.run_script.specs.declared.script.Script.{Script}
use Rattle.script_runs.specs.Regions.{ScriptRegion, made_region, made_regions}
use Rattle.run_passes.specs.declared.worker.Worker.{Worker}
use Rattle.run_passes.specs.declared.running.Running.{Running}
use Rattle.run_passes.specs.Crews.{clusters_in, IsCrew, IsFollowed, IsManned, Follows, Serves}
use Rattle.run_passes.specs.Openings.{idle_crew, AreCrews, AreMade, AreWaiting}
use Rattle.run_passes.proofs.Crewing.{get_map}
use Rattle.run_passes.proofs.Placing.{one_place}
use Rattle.run_passes.proofs.Returning.{AreLastFrom}
use Rattle.run_passes.proofs.Seated.{the_one}
use Rattle.run_passes.proofs.Starting.{fresh_crew, stands_first}

pub get_there : {A : Type 0} (xs : List A) (i : ℕ) → i < length xs → (x : A) × (slice_get xs i ≡ Some x)
get_there [] i h = absurd (omega arith)
get_there (x ∷ xs) zero h = (x, refl)
get_there (x ∷ xs) (suc i) h = get_there xs i (omega arith)

-- each crew has its list of passes
crew_of : (passes : List (Vec Token)) (crews : List (Vec Worker)) (j : ℕ) (crew : Vec Worker) → AreCrews passes crews → slice_get crews j ≡ Some crew → (own : Vec Token) × (slice_get passes j ≡ Some own) × (crew.items ≡ idle_crew own.items)
crew_of passes crews j crew are there =
    let many = are.as_many in
    let within = slice_get_within crews j crew there in
    let own = get_there passes j (omega arith) in
    (own.0, own.1, are.each j own.0 crew own.1 there)

pub as_many_seated : (server : List Mounted) (tokens : List Token) → IsSeated server tokens → length tokens ≡ length server
as_many_seated server tokens seated =
    sym (length-map tokens (λ (t : Token). t.region)) ∙ (ap (λ (l : List MadeRegion). length l) seated ∙ length-map server (λ (m : Mounted). m.region))

module _ (script : Script) (server : List Mounted) (passes : List (Vec Token)) (seat : Seated) (made : AreMade script server passes (seat ∷ [])) where
  -- the passes wait to be put to work
  pub waiting_first : AreWaiting server passes seat.tokens
  waiting_first j own there =
      let within = slice_get_within passes j own there in
      let many = made.lists in
      let seats = as_many_seated server seat.tokens (made.seated 0 seat refl) in
      let mounted = get_there server j (omega arith) in
      let logger = get_there seat.tokens j (omega arith) in
      record {
        region = mounted.0.region;
        placed = get_map (λ (m : Mounted). m.region) server j mounted.0 mounted.1;
        logger = logger.0;
        there = logger.1;
        is_crew = fresh_crew seat j mounted.0 own.items logger.0 (made.each j mounted.0 own mounted.1 there) logger.1;
      }

  pub few_lists : length passes ≤ 64
  few_lists =
      let many = made.lists in
      let few = made.serves.in_order.few in
      omega arith

  -- none of whom is behind the last one
  pub none_behind : AreLastFrom (length passes) seat.tokens
  none_behind j token far e =
      let many = made.lists in
      let seats = as_many_seated server seat.tokens (made.seated 0 seat refl) in
      let within = slice_get_within seat.tokens j token e in
      absurd (omega arith)

  module _ (running : Running) (clusters : running.clusters.items ≡ clusters_in server) (are : AreCrews passes running.crews.items) where
    pub manned_first : IsManned server running seat.tokens
    manned_first = record {
      in_order = made.serves.in_order;
      clusters = clusters;
      as_many = are.as_many ∙ made.lists;
      seated = made.seated 0 seat refl;
      crews = λ j mounted crew logger m_is crew_is logger_is.
          let found = crew_of passes running.crews.items j crew are crew_is in
          subst (λ (l : List Worker). IsCrew mounted.region l logger) (sym found.2) (fresh_crew seat j mounted found.0.items logger (made.each j mounted found.0 m_is found.1) logger_is);
    }

    pub follows_first : KeepsRules script → Follows script server running seat.tokens (made_regions script)
    follows_first ruled = record {
      rules = ruled;
      serves = made.serves;
      as_many = length-map script.regions (made_region script.images);
      each = λ i row r row_is r_is j mounted crew logger m_is crew_is logger_is cluster.
          let found = crew_of passes running.crews.items j crew are crew_is in
          let place = made.serves.each i row row_is in
          let same_place : j ≡ place.0 = one_place 0 server j place.0 mounted place.1 made.serves.in_order.ascend m_is place.2 (cluster ∙ sym place.3.cluster) in
          let same : place.1 ≡ mounted = the_one server j place.1 mounted (ap (λ (n : ℕ). slice_get server n) same_place ∙ place.2) m_is in
          let serves : Serves script 1 row mounted = subst (λ (m : Mounted). Serves script 1 row m) same place.3 in
          let r_same : made_region script.images row ≡ r =
          the_one (made_regions script) i (made_region script.images row) r (get_map (made_region script.images) script.regions i row row_is) r_is in
          subst (λ (x : ScriptRegion). IsFollowed x mounted crew.items logger) r_same
          (subst (λ (l : List Worker). IsFollowed (made_region script.images row) mounted l logger) (sym found.2)
          (record {
            file = sym serves.file;
            cluster = sym cluster;
            stands = stands_first seat j mounted found.0.items logger (made.each j mounted found.0 m_is found.1) logger_is script row serves;
          }));
    }
