-- All crews closed: nobody else acted, and the seat has seen the fold's journals.
use Rattle.std.proofs.Common.{◌≡◌, ◌≢◌, ℕ, zero, suc, ◌<◌, ◌≤◌, List, [], ◌∷◌, ◌++◌, map, length, slice_get, Some, ⊎_elim, sym, refl, ap, ◌∙◌, subst, arith}
use Rattle.std.specs.Global.{Vec}
use Rattle.std.proofs.lemmas.List.{length-map}
use Rattle.std.proofs.lemmas.Option.{slice_get_within}
use Rattle.region_core.specs.State.{opening}
use Rattle.region_rule.specs.Seats.{MadeRegion, Token}
use Rattle.fetch_engine.specs.Servers.{IsRegionAt, IsSeated, regions_in}
use Rattle.fetch_engine.specs.declared.server.Mounted.{Mounted}
use Rattle.run_script.specs.declared.script.RegionRow.{RegionRow}
use Rattle.run_script.specs.declared.script.Script.{Script}
use Rattle.script_runs.specs.Closing.{closed_region, closed_regions}
use Rattle.script_runs.specs.Journals.{without_looks}
use Rattle.script_runs.specs.Regions.{ScriptRegion}
use Rattle.run_passes.specs.declared.worker.Worker.{Worker}
use Rattle.run_passes.specs.declared.running.Running.{Running}
use Rattle.run_passes.specs.Crews.{IsCrew, IsAlone, Stands, IsFollowed, IsManned, Alone, Follows, Serves}
use Rattle.run_passes.specs.Lasts.{IsLastPass}
use Rattle.run_passes.specs.Seen.{IsSeenAt, HaveSeen}
use Rattle.run_passes.specs.Sweeps.{ClosedAt}
use Rattle.run_passes.specs.Turns.{IsCrewAt}
use Rattle.run_passes.proofs.Crewing.{get_map, get_set_other, same_or_other}
use Rattle.run_passes.proofs.Seated.{the_one, now_at}

-- a crew was closed some time ago
pub record Closed (server : List Mounted) (at : ℕ) (crew : List Worker) (start seat : List Token) : Type 0 where
  pub region : MadeRegion
  pub placed : IsRegionAt server at region
  pub before : Token
  pub was : slice_get start at ≡ Some before
  pub after : Token
  pub is : slice_get seat at ≡ Some after
  pub of_region : after.region ≡ region
  pub last : IsLastPass after
  pub alone : IsAlone crew before
  pub seen : (r : ScriptRegion) → Stands r crew before → without_looks (opening region.words region.passes) (length crew) after.view.seen ≡ (closed_region r).log

-- the crews from one on were closed
pub record ClosedFrom (server : List Mounted) (n : ℕ) (crews left : List (Vec Worker)) (start seat : List Token) : Type 0 where
  pub many : length left ≡ n
  pub few : n ≤ length crews
  pub same : (j : ℕ) → j < n → slice_get left j ≡ slice_get crews j
  pub below : (j : ℕ) → j < n → slice_get seat j ≡ slice_get start j
  pub above : (j : ℕ) (crew : Vec Worker) → n ≤ j → slice_get crews j ≡ Some crew → Closed server j crew.items start seat

pub none_closed : (server : List Mounted) (crews : List (Vec Worker)) (seat : List Token) → ClosedFrom server (length crews) crews crews seat seat
none_closed server crews seat = record {
  many = refl;
  few = omega arith;
  same = λ j h. refl;
  below = λ j h. refl;
  above = λ j crew h e. let w = slice_get_within crews j crew e in absurd (omega arith);
}

pub one_closed : (server : List Mounted) (n : ℕ) (crews left rest : List (Vec Worker)) (crew : Vec Worker) (start seat later : List Token) → ClosedFrom server (suc n) crews left start seat → slice_get crews n ≡ Some crew
    → length rest ≡ n → ((j : ℕ) → j < n → slice_get rest j ≡ slice_get left j) → ClosedAt server n crew.items seat later → ClosedFrom server n crews rest start later
one_closed server n crews left rest crew start seat later c there many same closed = record {
  many = many;
  few = let f = c.few in omega arith;
  same = λ j h. same j h ∙ c.same j (omega arith);
  below = λ j h. else_ j (λ e. absurd (omega arith)) ∙ c.below j (omega arith);
  above = λ j other h e. ⊎_elim
      (λ (s : j ≡ n).
      let is : crew ≡ other = the_one crews n crew other there (ap (λ (i : ℕ). slice_get crews i) (sym s) ∙ e) in
      subst (λ (i : ℕ). Closed server i other.items start later) (sym s) (subst (λ (x : Vec Worker). Closed server n x.items start later) is here))
      (λ (s : j ≢ n).
      let d : Closed server j other.items start seat = c.above j other (omega arith) e in
      record { region = d.region; placed = d.placed; before = d.before; was = d.was; after = d.after; is = else_ j s ∙ d.is; of_region = d.of_region; last = d.last; alone = d.alone; seen = d.seen })
      (same_or_other j n);
}
  where
    else_ : (j : ℕ) → j ≢ n → slice_get later j ≡ slice_get seat j
    else_ j s = ap (λ (l : List Token). slice_get l j) closed.is ∙ get_set_other seat n j closed.after s

    here : Closed server n crew.items start later
    here = record {
      region = closed.region;
      placed = closed.placed;
      before = closed.before;
      was = sym (c.below n (omega arith)) ∙ closed.was;
      after = closed.after;
      is = now_at seat later n closed.before closed.after closed.was closed.is;
      of_region = closed.of_region;
      last = closed.last;
      alone = closed.alone;
      seen = closed.seen;
    }

pub all_alone : (server : List Mounted) (running : Running) (left : List (Vec Worker)) (start seat : List Token) → ClosedFrom server 0 running.crews.items left start seat → Alone running start
all_alone server running left start seat c j crew logger e f =
    let d : Closed server j crew.items start seat = c.above j crew (omega arith) e in
    subst (λ (t : Token). IsAlone crew.items t) (the_one start j d.before logger d.was f) d.alone

get_mapped : (f : ScriptRegion → ScriptRegion) (xs : List ScriptRegion) (i : ℕ) (y : ScriptRegion) → slice_get (map f xs) i ≡ Some y → (x : ScriptRegion) × (slice_get xs i ≡ Some x) × (f x ≡ y)
get_mapped f [] i y e = absurd (cc)
get_mapped f (x ∷ xs) zero y e = (x, refl, cc)
get_mapped f (x ∷ xs) (suc i) y e = get_mapped f xs i y e

length_mapped : (f : ScriptRegion → ScriptRegion) (xs : List ScriptRegion) → length (map f xs) ≡ length xs
length_mapped f [] = refl
length_mapped f (x ∷ xs) = ap suc (length_mapped f xs)

get_there : {A : Type 0} (xs : List A) (i : ℕ) → i < length xs → (x : A) × (slice_get xs i ≡ Some x)
get_there [] i h = absurd (omega arith)
get_there (x ∷ xs) zero h = (x, refl)
get_there (x ∷ xs) (suc i) h = get_there xs i (omega arith)

pub have_seen : (server : List Mounted) (running : Running) (left : List (Vec Worker)) (start seat : List Token) (script : Script) (regions : List ScriptRegion) → IsManned server running start → IsSeated server seat → ClosedFrom server 0 running.crews.items left start seat
    → Follows script server running start regions → HaveSeen script (closed_regions regions) server seat
have_seen server running left start seat script regions manned seated c follows = record {
  as_many = length_mapped closed_region regions ∙ follows.as_many;
  last = λ j token e.
      let many : length seat ≡ length server = sym (length-map seat (λ (t : Token). t.region)) ∙ (ap (λ (l : List MadeRegion). length l) seated ∙ length-map server (λ (m : Mounted). m.region)) in
      let within = slice_get_within seat j token e in
      let crews = manned.as_many in
      let crew = get_there running.crews.items j (omega arith) in
      let d : Closed server j crew.0.items start seat = c.above j crew.0 (omega arith) crew.1 in
      subst (λ (t : Token). IsLastPass t) (the_one seat j d.after token d.is e) d.last;
  each = λ i row r row_is r_is. each i row r row_is (get_mapped closed_region regions i r r_is);
}
  where
    each : (i : ℕ) (row : RegionRow) (r : ScriptRegion) → slice_get script.regions i ≡ Some row → (x : ScriptRegion) × (slice_get regions i ≡ Some x) × (closed_region x ≡ r) → IsSeenAt script row r server seat
    each i row r row_is found =
        let place = follows.serves.each i row row_is in
        let j : ℕ = place.0 in
        let mounted : Mounted = place.1 in
        let serves : Serves script 1 row mounted = place.3 in
        let within : j < length running.crews.items = let a = slice_get_within server j mounted place.2 in let b = manned.as_many in omega arith in
        let crew = get_there running.crews.items j within in
        let d : Closed server j crew.0.items start seat = c.above j crew.0 (omega arith) crew.1 in
        let is_crew : IsCrew mounted.region crew.0.items d.before = manned.crews j mounted crew.0 d.before place.2 crew.1 d.was in
        let followed : IsFollowed found.0 mounted crew.0.items d.before = follows.each i row found.0 row_is found.1 j mounted crew.0 d.before place.2 crew.1 d.was serves.cluster in
        let region : d.region ≡ mounted.region = the_one (regions_in server) j d.region mounted.region d.placed (get_map (λ (m : Mounted). m.region) server j mounted place.2) in
        let many : length crew.0.items ≡ row.passes = let a = is_crew.passes in let b = serves.passes in omega arith in
        let seen : without_looks (opening d.region.words d.region.passes) (length crew.0.items) d.after.view.seen ≡ (closed_region found.0).log = d.seen found.0 followed.stands in
        record {
          at = j;
          mounted = mounted;
          there = place.2;
          serves = serves;
          token = d.after;
          seated = d.is;
          region_is = d.of_region ∙ region;
          seen =
              (λ k. without_looks (opening (d.of_region k).words (d.of_region k).passes) (sym many k) d.after.view.seen)
              ∙ (seen ∙ ap (λ (x : ScriptRegion). x.log) found.2);
        }

-- a crew at its position
pub crew_there : (server : List Mounted) (running : Running) (n : ℕ) (left : List (Vec Worker)) (crew : Vec Worker) (start seat : List Token) → IsManned server running start → ClosedFrom server (suc n) running.crews.items left start seat → slice_get running.crews.items n ≡ Some crew
    → IsCrewAt server n crew.items seat
crew_there server running n left crew start seat manned c there =
    let within : n < length server = let a = slice_get_within running.crews.items n crew there in let b = manned.as_many in omega arith in
    let m = get_there server n within in
    let t = token_there n within in
    record {
      region = m.0.region;
      placed = get_map (λ (m : Mounted). m.region) server n m.0 m.1;
      logger = t.0;
      there = c.below n (omega arith) ∙ t.1;
      is_crew = manned.crews n m.0 crew t.0 m.1 there t.1;
    }
  where
    seats_many : length start ≡ length server
    seats_many = sym (length_regions start) ∙ (ap (λ (l : List MadeRegion). length l) manned.seated ∙ length_rows server)
      where
        length_regions : (ts : List Token) → length (map (λ (t : Token). t.region) ts) ≡ length ts
        length_regions [] = refl
        length_regions (t ∷ ts) = ap suc (length_regions ts)

        length_rows : (ms : List Mounted) → length (map (λ (m : Mounted). m.region) ms) ≡ length ms
        length_rows [] = refl
        length_rows (m ∷ ms) = ap suc (length_rows ms)

    token_there : (n : ℕ) → n < length server → (t : Token) × (slice_get start n ≡ Some t)
    token_there n h = get_there start n (let s = seats_many in omega arith)

-- the last of a list
pub get_seam : {A : Type 0} (xs : List A) (y : A) → slice_get (xs ++ y ∷ []) (length xs) ≡ Some y
get_seam [] y = refl
get_seam (x ∷ xs) y = get_seam xs y

pub get_front : {A : Type 0} (xs ys : List A) (j : ℕ) → j < length xs → slice_get (xs ++ ys) j ≡ slice_get xs j
get_front [] ys j h = absurd (omega arith)
get_front (x ∷ xs) ys zero h = refl
get_front (x ∷ xs) ys (suc j) h = get_front xs ys j (omega arith)

length_seam : {A : Type 0} (xs : List A) (y : A) → length (xs ++ y ∷ []) ≡ suc (length xs)
length_seam [] y = refl
length_seam (x ∷ xs) y = ap suc (length_seam xs y)

-- the last crew that is left
pub last_left : (server : List Mounted) (crews left rest : List (Vec Worker)) (crew : Vec Worker) (start seat : List Token) → ClosedFrom server (length left) crews left start seat → left ≡ rest ++ crew ∷ []
    → ClosedFrom server (suc (length rest)) crews left start seat × (slice_get crews (length rest) ≡ Some crew)
last_left server crews left rest crew start seat c e =
    let many : length left ≡ suc (length rest) = ap (λ (l : List (Vec Worker)). length l) e ∙ length_seam rest crew in (
      subst (λ (n : ℕ). ClosedFrom server n crews left start seat) many c,
      sym (c.same (length rest) (omega arith)) ∙ (ap (λ (l : List (Vec Worker)). slice_get l (length rest)) e ∙ get_seam rest crew),
    )

pub last_closed : (server : List Mounted) (crews left rest : List (Vec Worker)) (crew : Vec Worker) (start seat later : List Token) → ClosedFrom server (length left) crews left start seat → left ≡ rest ++ crew ∷ []
    → ClosedAt server (length rest) crew.items seat later → ClosedFrom server (length rest) crews rest start later
last_closed server crews left rest crew start seat later c e closed =
    let before = last_left server crews left rest crew start seat c e in
    one_closed server (length rest) crews left rest crew start seat later before.0 before.1 refl
    (λ j h. sym (get_front rest (crew ∷ []) j h) ∙ ap (λ (l : List (Vec Worker)). slice_get l j) (sym e)) closed
