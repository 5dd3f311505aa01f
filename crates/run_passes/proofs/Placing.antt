-- Where the regions of a script are served, and what a call in one of them makes of all.
use Rattle.std.proofs.Common.{◌≡◌, ◌≢◌, ℕ, zero, suc, ◌+◌, ◌<◌, ◌≤◌, Bool, true, false, List, [], ◌∷◌, length, length-set, slice_get, slice_set, option_map, get_or, cond, ◌==◌, eqb-true, eq-eqb, Option, Some, None, Ok, Err, ⊎_elim, sym, refl, ap, ◌∙◌, subst, arith}
use Rattle.std.specs.Global.{Vec}
use Rattle.std.specs.List.{position_from}
use Rattle.std.proofs.lemmas.Option.{slice_get_within}
use mathlib.Core.Logic.{dite}
use native.Mathlib.Decide.{dec_le}
use Rattle.mmv_layout.specs.Contents.{cluster_in}
use Rattle.region_rule.specs.Seats.{MadeRegion, Token}
use Rattle.fetch_engine.specs.Servers.{RowsAscendFrom, IsSeated, regions_in, regions_of}
use Rattle.fetch_engine.specs.declared.server.Mounted.{Mounted}
use Rattle.run_script.specs.Rules as rules
use Rattle.run_script.specs.Rules.{KeepsRules}
use Rattle.run_script.specs.declared.script.RegionRow.{RegionRow}
use Rattle.run_script.specs.declared.script.Script.{Script}
use Rattle.script_runs.specs.Regions.{ScriptRegion, words_or_none, doing_of as does_in}
use Rattle.script_runs.specs.PassSteps.{Outcome}
use Rattle.script_runs.specs.Steps.{in_region, in_found}
use Rattle.run_passes.specs.declared.worker.Worker.{Worker}
use Rattle.run_passes.specs.Works.{Step}
use Rattle.run_passes.proofs.Calling.{set_there}
use Rattle.run_passes.specs.declared.running.Running.{Running}
use Rattle.run_passes.specs.Crews.{cluster_of, clusters_in, ServesScript, IsPlace, IsCrew, IsAlone, Stands, IsFollowed, IsAtWork, IsManned, Alone, Follows}
use Rattle.run_passes.specs.Runs.{HasDone}
use Rattle.run_passes.specs.Turns.{Answer, Took, ActsAt, IsCrewAt}
use Rattle.run_passes.proofs.Crewing.{get_set_same, get_set_other, get_map, same_or_other}
use Rattle.run_passes.proofs.Turning.{was_there}

-- One cluster, one position

pub least_first : (least : ℕ) (rows : List Mounted) (i : ℕ) (a : Mounted) → RowsAscendFrom least rows → slice_get rows i ≡ Some a → least ≤ a.cluster
least_first least [] i a h e = absurd (cc)
least_first least (row ∷ rows) zero a h e = let same : row ≡ a = cc in subst (λ (m : Mounted). least ≤ m.cluster) same h.0
least_first least (row ∷ rows) (suc i) a h e = let below = least_first (row.cluster + 1) rows i a h.1 e in let first = h.0 in omega arith

pub one_place : (least : ℕ) (rows : List Mounted) (i j : ℕ) (a b : Mounted) → RowsAscendFrom least rows → slice_get rows i ≡ Some a → slice_get rows j ≡ Some b → a.cluster ≡ b.cluster → i ≡ j
one_place least [] i j a b h e f same = absurd (cc)
one_place least (row ∷ rows) zero zero a b h e f same = refl
one_place least (row ∷ rows) zero (suc j) a b h e f same =
    let is : row.cluster ≡ a.cluster = let s : row ≡ a = cc in ap (λ (m : Mounted). m.cluster) s in
    let above = least_first (row.cluster + 1) rows j b h.1 f in absurd (omega arith)
one_place least (row ∷ rows) (suc i) zero a b h e f same =
    let is : row.cluster ≡ b.cluster = let s : row ≡ b = cc in ap (λ (m : Mounted). m.cluster) s in
    let above = least_first (row.cluster + 1) rows i a h.1 e in absurd (omega arith)
one_place least (row ∷ rows) (suc i) (suc j) a b h e f same = ap suc (one_place (row.cluster + 1) rows i j a b h.1 e f same)

-- the image of a region is there
image_there : (script : Script) (i : ℕ) (row : RegionRow) → KeepsRules script → slice_get script.regions i ≡ Some row → rules.cluster_of script.images row ≡ Some (cluster_of script row)
image_there script i row keeps e =
    let opens = (keeps.opened i row e).opens in
    ap (λ (o : Option (List ℕ × List ℕ)). option_map (λ (image : List ℕ × List ℕ). cluster_in image.1) o) opens.1
    ∙ ap (λ (o : Option (List ℕ × List ℕ)). Some (cluster_in (words_or_none o))) (sym opens.1)

-- two regions of a script have two clusters
pub one_row : (script : Script) (i j : ℕ) (x y : RegionRow) → KeepsRules script → slice_get script.regions i ≡ Some x → slice_get script.regions j ≡ Some y → cluster_of script x ≡ cluster_of script y → i ≡ j
one_row script i j x y keeps e f same =
    dite (dec_le (suc i) j) (λ (h : suc i ≤ j). absurd (keeps.clusters i j x y (omega arith) e f is)) (λ n.
    dite (dec_le (suc j) i) (λ (h : suc j ≤ i). absurd (keeps.clusters j i y x (omega arith) f e (sym is))) (λ m. omega arith))
  where
    is : rules.cluster_of script.images x ≡ rules.cluster_of script.images y
    is = image_there script i x keeps e ∙ (ap (λ (n : ℕ). Some n) same ∙ sym (image_there script j y keeps f))

-- a position whose cluster is that of a region of the script
pub placed : (script : Script) (server : List Mounted) (region at cluster : ℕ) (row : RegionRow) (clusters : List ℕ) → ServesScript script 1 server → slice_get script.regions region ≡ Some row → cluster ≡ cluster_of script row
    → clusters ≡ clusters_in server → slice_get clusters at ≡ Some cluster → IsPlace script server region at
placed script server region at cluster row clusters serves is e f g =
    let found = serves.each region row is in
    let in_clusters : slice_get (clusters_in server) at ≡ Some cluster = ap (λ (l : List ℕ). slice_get l at) (sym f) ∙ g in
    let here = get_of_map server at cluster in_clusters in
    let same : at ≡ found.0 = one_place 0 server at found.0 here.0 found.1 serves.in_order.ascend here.1 found.2 (here.2 ∙ (e ∙ sym found.3.cluster)) in
    record { row = row; is = is; mounted = found.1; there = ap (λ (j : ℕ). slice_get server j) same ∙ found.2; serves = found.3 }
  where
    get_of_map : (rows : List Mounted) (at cluster : ℕ) → slice_get (clusters_in rows) at ≡ Some cluster → (m : Mounted) × (slice_get rows at ≡ Some m) × (m.cluster ≡ cluster)
    get_of_map [] at cluster e = absurd (cc)
    get_of_map (row ∷ rows) zero cluster e = (row, refl, cc)
    get_of_map (row ∷ rows) (suc at) cluster e = get_of_map rows at cluster e

-- One call among all regions

module _ (server : List Mounted) (old new : Running) (seat later : List Token) (at k : ℕ) (step : Step) (crew next : Vec Worker) (answer : Answer)
    (manned : IsManned server old seat) (acts : ActsAt server at k step crew.items next.items seat later answer) (seated : IsSeated server later)
    (was : slice_get old.crews.items at ≡ Some crew) (is : new.crews.items ≡ slice_set old.crews.items at next) (clusters : new.clusters.items ≡ old.clusters.items) where
  here : at < length old.crews.items
  here = slice_get_within old.crews.items at crew was

  here_too : at < length seat
  here_too = slice_get_within seat at acts.before acts.was

  crew_now : slice_get new.crews.items at ≡ Some next
  crew_now = ap (λ (l : List (Vec Worker)). slice_get l at) is ∙ get_set_same old.crews.items at next here

  logger_now : slice_get later at ≡ Some acts.after
  logger_now = ap (λ (l : List Token). slice_get l at) acts.is ∙ get_set_same seat at acts.after here_too

  crew_else : (j : ℕ) → j ≢ at → slice_get new.crews.items j ≡ slice_get old.crews.items j
  crew_else j n = ap (λ (l : List (Vec Worker)). slice_get l j) is ∙ get_set_other old.crews.items at j next n

  logger_else : (j : ℕ) → j ≢ at → slice_get later j ≡ slice_get seat j
  logger_else j n = ap (λ (l : List Token). slice_get l j) acts.is ∙ get_set_other seat at j acts.after n

  the_same : {A : Type 0} (xs : List A) (j i : ℕ) (x y : A) → slice_get xs j ≡ Some x → slice_get xs i ≡ Some y → j ≡ i → x ≡ y
  the_same xs j i x y e f same = let g : Some x ≡ Some y = sym e ∙ (ap (λ (n : ℕ). slice_get xs n) same ∙ f) in cc

  region_is : (j : ℕ) (m : Mounted) → slice_get server j ≡ Some m → j ≡ at → acts.region ≡ m.region
  region_is j m e same =
      let a : slice_get (regions_in server) j ≡ Some m.region = get_map (λ (r : Mounted). r.region) server j m e in
      the_same (regions_in server) at j acts.region m.region acts.placed a (sym same)

  pub manned_then : IsManned server new later
  manned_then = record {
    in_order = manned.in_order;
    clusters = clusters ∙ manned.clusters;
    as_many = ap (λ (l : List (Vec Worker)). length l) is ∙ (length-set old.crews.items at next ∙ manned.as_many);
    seated = seated;
    crews = λ j m c t e f g. ⊎_elim
        (λ (same : j ≡ at).
        let a : next ≡ c = the_same new.crews.items at j next c crew_now f (sym same) in
        let b : acts.after ≡ t = the_same later at j acts.after t logger_now g (sym same) in
        subst (λ (x : Vec Worker). IsCrew m.region x.items t) a (subst (λ (x : Token). IsCrew m.region next.items x) b (subst (λ (r : MadeRegion). IsCrew r next.items acts.after) (region_is j m e same) acts.acts.crew)))
        (λ (n : j ≢ at). manned.crews j m c t e (sym (crew_else j n) ∙ f) (sym (logger_else j n) ∙ g))
        (same_or_other j at);
  }

  alone_here : Alone new later → IsAlone next.items acts.after
  alone_here alone = alone at next acts.after crew_now logger_now

  pub alone_before : Alone new later → Alone old seat
  alone_before alone j c t f g = ⊎_elim
      (λ (same : j ≡ at).
      let a : crew ≡ c = the_same old.crews.items at j crew c was f (sym same) in
      let b : acts.before ≡ t = the_same seat at j acts.before t acts.was g (sym same) in
      subst (λ (x : Vec Worker). IsAlone x.items t) a (subst (λ (x : Token). IsAlone crew.items x) b (acts.acts.alone (alone_here alone))))
      (λ (n : j ≢ at). alone j c t (crew_else j n ∙ f) (logger_else j n ∙ g))
      (same_or_other j at)

  module _ (script : Script) (region : ℕ) (place : IsPlace script server region at) (regions : List ScriptRegion) (follows : Follows script server old seat regions) where
    there : region < length regions
    there = let a = slice_get_within script.regions region place.row place.is in let b = follows.as_many in omega arith

    get_there : {A : Type 0} (xs : List A) (i : ℕ) → i < length xs → (x : A) × (slice_get xs i ≡ Some x)
    get_there [] i h = absurd (omega arith)
    get_there (x ∷ xs) zero h = (x, refl)
    get_there (x ∷ xs) (suc i) h = get_there xs i (omega arith)

    abbrev r : ScriptRegion
    r = (get_there regions region there).0

    r_is : slice_get regions region ≡ Some r
    r_is = (get_there regions region there).1

    followed : IsFollowed r place.mounted crew.items acts.before
    followed = follows.each region place.row r place.is r_is at place.mounted crew acts.before place.there was acts.was place.serves.cluster

    -- the region comes to stand elsewhere
    follows_next : (moved_on : ScriptRegion) → moved_on.file ≡ r.file → moved_on.cluster ≡ r.cluster → Stands moved_on next.items acts.after → Follows script server new later (slice_set regions region moved_on)
    follows_next moved_on file cluster stands = record {
      rules = follows.rules;
      serves = follows.serves;
      as_many = length-set regions region moved_on ∙ follows.as_many;
      each = λ i row x row_is x_is j m c t e f g of_row. ⊎_elim
          (λ (same : i ≡ region).
          let row_same : row ≡ place.row = the_same script.regions i region row place.row row_is place.is same in
          let x_same : moved_on ≡ x = the_same (slice_set regions region moved_on) region i moved_on x (get_set_same regions region moved_on there) x_is (sym same) in
          let j_same : j ≡ at = one_place 0 server j at m place.mounted follows.serves.in_order.ascend e place.there (of_row ∙ (ap (λ (y : RegionRow). cluster_of script y) row_same ∙ sym place.serves.cluster)) in
          let m_same : m ≡ place.mounted = the_same server j at m place.mounted e place.there j_same in
          let a : next ≡ c = the_same new.crews.items at j next c crew_now f (sym j_same) in
          let b : acts.after ≡ t = the_same later at j acts.after t logger_now g (sym j_same) in
          subst (λ (y : ScriptRegion). IsFollowed y m c.items t) x_same
          (subst (λ (y : Vec Worker). IsFollowed moved_on m y.items t) a
          (subst (λ (y : Token). IsFollowed moved_on m next.items y) b
          (subst (λ (y : Mounted). IsFollowed moved_on y next.items acts.after) (sym m_same)
          (record { file = file ∙ followed.file; cluster = cluster ∙ followed.cluster; stands = stands })))))
          (λ (n : i ≢ region).
          let apart : j ≢ at = λ same. n (one_row script i region row place.row follows.rules row_is place.is
          (sym of_row ∙ (ap (λ (y : Mounted). y.cluster) (the_same server j at m place.mounted e place.there same) ∙ place.serves.cluster))) in
          follows.each i row x row_is (sym (get_set_other regions region i moved_on n) ∙ x_is) j m c t e (sym (crew_else j apart) ∙ f) (sym (logger_else j apart) ∙ g) of_row)
          (same_or_other i region);
    }

    follows_still : Stands r next.items acts.after → Follows script server new later regions
    follows_still stands = subst (λ (l : List ScriptRegion). Follows script server new later l) (set_there regions region r r_is) (follows_next r refl refl stands)

    step_is : in_region regions region k step ≡ option_map (λ (o : Outcome). (slice_set regions region o.0, o.1)) (step r k (does_in r k))
    step_is = ap (λ (o : Option ScriptRegion). in_found regions region k step o) r_is

    pub has_done : Alone new later → HasDone (Follows script server new later) regions (in_region regions region k step) answer
    has_done alone = by_answer answer (acts.acts.took (alone_here alone) r followed.stands)
      where
        by_answer : (a : Answer) → Took step r k (λ (x : ScriptRegion). Stands x next.items acts.after) a → HasDone (Follows script server new later) regions (in_region regions region k step) a
        by_answer (Ok None) t = (step_is ∙ ap (λ (o : Option Outcome). option_map (λ (o : Outcome). (slice_set regions region o.0, o.1)) o) t.0, follows_still t.1)
        by_answer (Ok (Some line)) t =
            (slice_set regions region t.0, step_is ∙ ap (λ (o : Option Outcome). option_map (λ (o : Outcome). (slice_set regions region o.0, o.1)) o) t.1, follows_next t.0 t.2 t.3 t.4)
        by_answer (Err fault) t = follows_still t

-- A crew of a manned server, where a region of the script stands

long_tokens : (ts : List Token) → length (regions_of ts) ≡ length ts
long_tokens [] = refl
long_tokens (t ∷ ts) = ap suc (long_tokens ts)

long_rows : (ms : List Mounted) → length (regions_in ms) ≡ length ms
long_rows [] = refl
long_rows (m ∷ ms) = ap suc (long_rows ms)

some_at : {A : Type 0} (xs : List A) (i : ℕ) → i < length xs → (x : A) × (slice_get xs i ≡ Some x)
some_at [] i h = absurd (omega arith)
some_at (x ∷ xs) zero h = (x, refl)
some_at (x ∷ xs) (suc i) h = some_at xs i (omega arith)

pub crew_at : (server : List Mounted) (running : Running) (seat : List Token) (at : ℕ) (mounted : Mounted) (crew : Vec Worker) → IsManned server running seat → slice_get server at ≡ Some mounted → slice_get running.crews.items at ≡ Some crew
    → IsCrewAt server at crew.items seat
crew_at server running seat at mounted crew manned there was =
    let many : length seat ≡ length server = sym (long_tokens seat) ∙ (ap (λ (l : List MadeRegion). length l) manned.seated ∙ long_rows server) in
    let within = slice_get_within server at mounted there in
    let t = some_at seat at (omega arith) in
    record {
      region = mounted.region;
      placed = get_map (λ (m : Mounted). m.region) server at mounted there;
      logger = t.0;
      there = t.1;
      is_crew = manned.crews at mounted crew t.0 there was t.1;
    }

pub pass_there : (script : Script) (server : List Mounted) (running : Running) (seat : List Token) (region at pass : ℕ) (crew : Vec Worker) → IsManned server running seat → (place : IsPlace script server region at) → slice_get running.crews.items at ≡ Some crew
    → rules.HasPass script.regions region pass → pass < length crew.items
pass_there script server running seat region at pass crew manned place was has =
    let c : IsCrewAt server at crew.items seat = crew_at server running seat at place.mounted crew manned place.there was in
    let row : has.0 ≡ place.row = let e : Some has.0 ≡ Some place.row = sym has.1 ∙ place.is in cc in
    let below : pass < place.row.passes = subst (λ (r : RegionRow). pass < r.passes) row has.2 in
    let a = c.is_crew.passes in
    let b = place.serves.passes in
    let region_is : c.region ≡ place.mounted.region = let f : Some c.region ≡ Some place.mounted.region = sym c.placed ∙ get_map (λ (m : Mounted). m.region) server at place.mounted place.there in cc in
    let d : c.region.passes ≡ place.mounted.region.passes = ap (λ (r : MadeRegion). r.passes) region_is in
    omega arith

pub at_below : (script : Script) (server : List Mounted) (running : Running) (seat : List Token) (region at : ℕ) → IsManned server running seat → IsPlace script server region at → at < length running.crews.items
at_below script server running seat region at manned place = let a = slice_get_within server at place.mounted place.there in let b = manned.as_many in omega arith

-- what the search for a cluster finds

found_from : (clusters : List ℕ) (cluster i m : ℕ) → position_from (λ (c : ℕ). c == cluster) i clusters ≡ Some m → (at : ℕ) × (m ≡ i + at) × (slice_get clusters at ≡ Some cluster)
found_from [] cluster i m e = absurd (cc)
found_from (c ∷ cs) cluster i m e = by_test (c == cluster) refl e (λ f. found_from cs cluster (i + 1) m f)
  where
    by_test : (b : Bool) → (c == cluster) ≡ b → cond b (Some i) (position_from (λ (x : ℕ). x == cluster) (i + 1) cs) ≡ Some m
        → (position_from (λ (x : ℕ). x == cluster) (i + 1) cs ≡ Some m → (at : ℕ) × (m ≡ i + 1 + at) × (slice_get cs at ≡ Some cluster)) → (at : ℕ) × (m ≡ i + at) × (slice_get (c ∷ cs) at ≡ Some cluster)
    by_test true t f rest = let same : i ≡ m = cc in (0, omega arith, ap (λ (n : ℕ). Some n) (eqb-true c cluster t))
    by_test false t f rest = let more = rest f in let e = more.1 in (suc more.0, omega arith, more.2)

pub position_found : (clusters : List ℕ) (cluster at : ℕ) → Some at ≡ position_from (λ (c : ℕ). c == cluster) 0 clusters → slice_get clusters at ≡ Some cluster
position_found clusters cluster at e =
    let f = found_from clusters cluster 0 at (sym e) in
    let g = f.1 in
    let same : f.0 ≡ at = omega arith in
    ap (λ (n : ℕ). slice_get clusters n) (sym same) ∙ f.2

pub position_none : (clusters : List ℕ) (cluster i at : ℕ) → position_from (λ (c : ℕ). c == cluster) i clusters ≡ None → slice_get clusters at ≡ Some cluster → ⊥
position_none [] cluster i at e f = cc
position_none (c ∷ cs) cluster i at e f = by_test (c == cluster) refl e (λ g j h. position_none cs cluster (i + 1) j g h) at f
  where
    differ : true ≡ false → ⊥
    differ e = cc

    by_test : (b : Bool) → (c == cluster) ≡ b → cond b (Some i) (position_from (λ (x : ℕ). x == cluster) (i + 1) cs) ≡ None
        → (position_from (λ (x : ℕ). x == cluster) (i + 1) cs ≡ None → (j : ℕ) → slice_get cs j ≡ Some cluster → ⊥) → (at : ℕ) → slice_get (c ∷ cs) at ≡ Some cluster → ⊥
    by_test true t g rest at h = cc
    by_test false t g rest zero h = let same : c ≡ cluster = cc in differ (sym (eq-eqb c cluster same) ∙ t)
    by_test false t g rest (suc at) h = rest g at h

-- it finds each cluster of a script
pub cluster_there : (script : Script) (server : List Mounted) (region cluster : ℕ) (row : RegionRow) (clusters : List ℕ) → ServesScript script 1 server → slice_get script.regions region ≡ Some row → cluster ≡ cluster_of script row → clusters ≡ clusters_in server
    → None ≡ position_from (λ (c : ℕ). c == cluster) 0 clusters → ⊥
cluster_there script server region cluster row clusters serves is e f g =
    let found = serves.each region row is in
    position_none clusters cluster 0 found.0 (sym g)
    (ap (λ (l : List ℕ). slice_get l found.0) f ∙ (get_map (λ (m : Mounted). m.cluster) server found.0 found.1 found.2 ∙ ap (λ (n : ℕ). Some n) (found.3.cluster ∙ sym e)))

-- the cluster of a row, by the image that it names
pub cluster_by : (script : Script) (row : RegionRow) (image : List ℕ × List ℕ) (cluster : ℕ) → slice_get script.images row.image ≡ Some image → cluster ≡ cluster_in image.1 → cluster ≡ cluster_of script row
cluster_by script row image cluster e f = f ∙ ap (λ (o : Option (List ℕ × List ℕ)). cluster_in (words_or_none o)) (sym e)

pub cluster_at : (script : Script) (i : ℕ) (row : RegionRow) (image : List ℕ × List ℕ) (cluster : ℕ) → KeepsRules script → slice_get script.regions i ≡ Some row → image ≡ get_or script.images row.image image → cluster ≡ cluster_in image.1 → cluster ≡ cluster_of script row
cluster_at script i row image cluster keeps e f g =
    let opens = (keeps.opened i row e).opens in
    cluster_by script row image cluster (was_there script.images row.image image image (slice_get_within script.images row.image opens.0 opens.1) f refl) g

-- a manned server is at work
pub at_work : (server : List Mounted) (running : Running) (seat : List Token) → IsManned server running seat → IsAtWork server running
at_work server running seat manned = record { clusters = manned.clusters; as_many = manned.as_many }
