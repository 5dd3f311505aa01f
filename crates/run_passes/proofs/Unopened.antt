-- A run that couldn't begin: nothing was done, and the seat has seen nothing.
use Rattle.std.proofs.Common.{◌≡◌, ℕ, zero, suc, ◌+◌, ◌<◌, List, [], ◌∷◌, map, length, replicate, slice_get, Some, sym, refl, ap, ◌∙◌, arith}
use Rattle.std.specs.Global.{Vec}
use Rattle.std.proofs.lemmas.Option.{slice_get_within}
use Rattle.region_core.specs.declared.act.Entry.{Entry}
use Rattle.region_core.specs.State.{opening}
use Rattle.region_rule.specs.Seats.{MadeRegion, Token}
use Rattle.fetch_engine.specs.Servers.{Seated, IsSeated, regions_of, regions_in}
use Rattle.fetch_engine.specs.declared.server.Mounted.{Mounted}
use Rattle.run_script.specs.declared.script.RegionRow.{RegionRow}
use Rattle.run_script.specs.declared.script.Script.{Script}
use Rattle.script_runs.specs.Closing.{change_ended, stint_ended, reading_ended, each_pass, by_all, closed_region, closed_regions}
use Rattle.script_runs.specs.Journals.{without_looks}
use Rattle.script_runs.specs.Regions.{Doing, ScriptRegion, or_idle, doing_of as does_in, made_region, made_regions}
use Rattle.run_passes.specs.Lasts.{AreLast}
use Rattle.run_passes.specs.Openings.{AreMade, SeesTheSame}
use Rattle.run_passes.specs.Seen.{IsSeenAt, HaveSeen}
use Rattle.run_passes.proofs.Crewing.{get_map}
use Rattle.run_passes.proofs.Seated.{the_one}
use Rattle.run_passes.proofs.Starting.{logger_fresh}

-- a region none of whose passes does anything is closed as it is

nothing_there : (n k : ℕ) → or_idle (slice_get (replicate n Doing.idle) k) ≡ Doing.idle
nothing_there zero k = refl
nothing_there (suc n) zero = refl
nothing_there (suc n) (suc k) = nothing_there n k

each_idle : (end : ScriptRegion → ℕ → Doing → ScriptRegion) → ((r : ScriptRegion) (k : ℕ) → end r k Doing.idle ≡ r) → (n : ℕ) (r : ScriptRegion) → r.doing ≡ replicate n Doing.idle → (k count : ℕ) → each_pass end k count r ≡ r
each_idle end stays n r idle k zero = refl
each_idle end stays n r idle k (suc count) =
    let one : end r k (does_in r k) ≡ r = ap (λ (l : List Doing). end r k (or_idle (slice_get l k))) idle ∙ (ap (λ (d : Doing). end r k d) (nothing_there n k) ∙ stays r k) in
    ap (λ (x : ScriptRegion). each_pass end (k + 1) count x) one ∙ each_idle end stays n r idle (k + 1) count

closed_idle : (n : ℕ) (r : ScriptRegion) → r.doing ≡ replicate n Doing.idle → closed_region r ≡ r
closed_idle n r idle =
    ap (λ (x : ScriptRegion). by_all reading_ended (by_all stint_ended x)) (each_idle change_ended (λ x k. refl) n r idle 0 (length r.doing))
    ∙ (ap (λ (x : ScriptRegion). by_all reading_ended x) (each_idle stint_ended (λ x k. refl) n r idle 0 (length r.doing))
    ∙ each_idle reading_ended (λ x k. refl) n r idle 0 (length r.doing))

get_there : {A : Type 0} (xs : List A) (i : ℕ) → i < length xs → (x : A) × (slice_get xs i ≡ Some x)
get_there [] i h = absurd (omega arith)
get_there (x ∷ xs) zero h = (x, refl)
get_there (x ∷ xs) (suc i) h = get_there xs i (omega arith)

long_tokens : (ts : List Token) → length (regions_of ts) ≡ length ts
long_tokens [] = refl
long_tokens (t ∷ ts) = ap suc (long_tokens ts)

long_rows : (ms : List Mounted) → length (regions_in ms) ≡ length ms
long_rows [] = refl
long_rows (m ∷ ms) = ap suc (long_rows ms)

long_closed : (script : Script) (rows : List RegionRow) → length (map closed_region (map (made_region script.images) rows)) ≡ length rows
long_closed script [] = refl
long_closed script (x ∷ xs) = ap suc (long_closed script xs)

pub unopened : (script : Script) (server : List Mounted) (passes : List (Vec Token)) (seat : Seated) (later : List Token) → AreMade script server passes (seat ∷ []) → SeesTheSame seat.tokens later → AreLast later → IsSeated server later
    → HaveSeen script (closed_regions (made_regions script)) server later
unopened script server passes seat later made same last seated = record {
  as_many = long_closed script script.regions;
  last = last;
  each = λ i row r row_is r_is. each i row r row_is r_is;
}
  where
    each : (i : ℕ) (row : RegionRow) (r : ScriptRegion) → slice_get script.regions i ≡ Some row → slice_get (closed_regions (made_regions script)) i ≡ Some r → IsSeenAt script row r server later
    each i row r row_is r_is =
        let place = made.serves.each i row row_is in
        let j : ℕ = place.0 in
        let mounted : Mounted = place.1 in
        let within : j < length server = slice_get_within server j mounted place.2 in
        let many : length seat.tokens ≡ length server = sym (long_tokens seat.tokens) ∙ (ap (λ (l : List MadeRegion). length l) (made.seated 0 seat refl) ∙ long_rows server) in
        let many_later : length later ≡ length server = sym (long_tokens later) ∙ (ap (λ (l : List MadeRegion). length l) seated ∙ long_rows server) in
        let own = get_there passes j (let l = made.lists in omega arith) in
        let before = get_there seat.tokens j (omega arith) in
        let after = get_there later j (omega arith) in
        let kept = same j before.0 after.0 before.1 after.1 in
        let fresh = logger_fresh seat j mounted own.0.items before.0 (made.each j mounted own.0 place.2 own.1) before.1 in
        let seen : after.0.view.seen ≡ [] = kept.1 ∙ fresh.1 in
        let r_same : closed_region (made_region script.images row) ≡ r =
        the_one (closed_regions (made_regions script)) i (closed_region (made_region script.images row)) r
        (get_map closed_region (made_regions script) i (made_region script.images row) (get_map (made_region script.images) script.regions i row row_is)) r_is in
        let log : r.log ≡ [] = ap (λ (x : ScriptRegion). x.log) (sym r_same ∙ closed_idle row.passes (made_region script.images row) refl) in
        record {
          at = j;
          mounted = mounted;
          there = place.2;
          serves = place.3;
          token = after.0;
          seated = after.1;
          region_is = kept.0 ∙ fresh.0;
          seen = ap (λ (l : List Entry). without_looks (opening after.0.region.words after.0.region.passes) row.passes l) seen ∙ sym log;
        }
