-- The passes of a region as they were made: a crew that has done nothing, and a pass of the seat that has seen nothing.
use Rattle.std.proofs.Common.{◌≡◌, ℕ, zero, suc, ◌+◌, ◌<◌, List, [], ◌∷◌, ◌++◌, map, replicate, length, slice_get, Option, Some, sym, refl, ap, ◌∙◌, subst, arith}
use Rattle.std.proofs.lemmas.Option.{slice_get_within}
use Rattle.region_core.specs.declared.act.Entry.{Entry}
use Rattle.region_core.specs.declared.mode.Mode.TheVariants.{Idle}
use Rattle.region_core.specs.State.{opening}
use Rattle.region_rule.specs.Calls.{fresh_from}
use Rattle.region_rule.specs.Seats.{MadeRegion, Token}
use Rattle.region_rule.specs.Views.{fresh_view, opening_of, now}
use Rattle.fetch_engine.specs.Servers.{Seated}
use Rattle.fetch_engine.specs.declared.server.Mounted.{Mounted}
use Rattle.run_script.specs.declared.script.RegionRow.{RegionRow}
use Rattle.run_script.specs.declared.script.Script.{Script}
use Rattle.script_runs.specs.Journals.{without_looks}
use Rattle.script_runs.specs.Regions.{Doing, made_region}
use Rattle.run_passes.specs.declared.worker.Worker.{Worker}
use Rattle.run_passes.specs.declared.worker.Worker.TheVariants as workers
use Rattle.run_passes.specs.Workers.{IsPassOf, IsWorker, view_of, doing_of}
use Rattle.run_passes.specs.Crews.{made_by, IsCrew, Stands, Serves}
use Rattle.run_passes.specs.Openings.{IsMadeAt, idle_crew}
use Rattle.run_passes.specs.Sweeps.{AreIdle}
use Rattle.run_passes.proofs.Finals.{get_seam, get_front}

-- a pass that has seen nothing
abbrev pub fresh_at : MadeRegion → ℕ → Token
fresh_at region k = record { region = region; view = fresh_view region.words region.passes k [] }

get_fresh : (region : MadeRegion) (k n i : ℕ) (pass : Token) → slice_get (fresh_from region k n) i ≡ Some pass → pass ≡ fresh_at region (k + i)
get_fresh region k zero i pass e = absurd (cc)
get_fresh region k (suc n) zero pass e =
    let same : fresh_at region k ≡ pass = cc in
    let plus : k ≡ k + zero = omega arith in
    sym same ∙ ap (λ (m : ℕ). fresh_at region m) plus
get_fresh region k (suc n) (suc i) pass e =
    let plus : suc k + i ≡ k + suc i = omega arith in
    get_fresh region (suc k) n i pass e ∙ ap (λ (m : ℕ). fresh_at region m) plus

first_fresh : (region : MadeRegion) (n i : ℕ) (pass : Token) → slice_get (fresh_from region 0 n) i ≡ Some pass → pass ≡ fresh_at region i
first_fresh region n i pass e =
    let plus : 0 + i ≡ i = omega arith in
    get_fresh region 0 n i pass e ∙ ap (λ (m : ℕ). fresh_at region m) plus

-- a pass of a region as it was made
pub own_fresh : (seats : List Seated) (at : ℕ) (mounted : Mounted) (passes : List Token) → IsMadeAt seats at mounted passes → (k : ℕ) (pass : Token) → slice_get passes k ≡ Some pass → pass ≡ fresh_at mounted.region k
own_fresh seats at mounted passes made k pass e =
    first_fresh mounted.region (length passes + length seats) k pass
    (ap (λ (l : List Token). slice_get l k) (sym made.fresh) ∙ (get_front passes made.seated k (slice_get_within passes k pass e) ∙ e))

-- an idle crew by its passes
pub idle_there : (passes : List Token) (k : ℕ) (worker : Worker) → slice_get (idle_crew passes) k ≡ Some worker → (pass : Token) × (slice_get passes k ≡ Some pass) × (workers.Idle pass ≡ worker)
idle_there [] k worker e = absurd (cc)
idle_there (pass ∷ passes) zero worker e = (pass, refl, cc)
idle_there (pass ∷ passes) (suc k) worker e = idle_there passes k worker e

pub as_many_idle : (passes : List Token) → length (idle_crew passes) ≡ length passes
as_many_idle [] = refl
as_many_idle (pass ∷ passes) = ap suc (as_many_idle passes)

pub all_rest : (passes : List Token) → AreIdle (idle_crew passes)
all_rest passes j worker e = let found = idle_there passes j worker e in ap (λ (w : Worker). doing_of w) (sym found.2)

doing_nothing : (passes : List Token) → map doing_of (idle_crew passes) ≡ replicate (length passes) Doing.idle
doing_nothing [] = refl
doing_nothing (pass ∷ passes) = ap (λ (l : List Doing). Doing.idle ∷ l) (doing_nothing passes)

none_made : (passes : List Token) → ((k : ℕ) (pass : Token) → slice_get passes k ≡ Some pass → length pass.view.own ≡ 0) → made_by (idle_crew passes) ≡ 0
none_made [] fresh = refl
none_made (pass ∷ passes) fresh = let first = fresh zero pass refl in let rest = none_made passes (λ k p e. fresh (suc k) p e) in omega arith

-- the seat's pass is the last
logger_only : (seated : List Token) (found : Option Token) (logger : Token) → map Some seated ≡ found ∷ [] → found ≡ Some logger → seated ≡ logger ∷ []
logger_only [] found logger e f = absurd (cc)
logger_only (t ∷ []) found logger e f = let same : t ≡ logger = cc in ap (λ (x : Token). x ∷ []) same
logger_only (t ∷ u ∷ ts) found logger e f = absurd (cc)

module _ (seat : Seated) (at : ℕ) (mounted : Mounted) (own : List Token) (logger : Token) (made : IsMadeAt (seat ∷ []) at mounted own) (there : slice_get seat.tokens at ≡ Some logger) where
  all_fresh : own ++ logger ∷ [] ≡ fresh_from mounted.region 0 (length own + 1)
  all_fresh = ap (λ (l : List Token). own ++ l) (sym (logger_only made.seated (slice_get seat.tokens at) logger made.seats_are there)) ∙ made.fresh

  pub last_fresh : logger ≡ fresh_at mounted.region (length own)
  last_fresh = first_fresh mounted.region (length own + 1) (length own) logger (ap (λ (l : List Token). slice_get l (length own)) (sym all_fresh) ∙ get_seam own logger)

  pub logger_fresh : (logger.region ≡ mounted.region) × (logger.view.seen ≡ [])
  logger_fresh = (ap (λ (t : Token). t.region) last_fresh, ap (λ (t : Token). t.view.seen) last_fresh)

  fresh_worker : (k : ℕ) → IsWorker mounted.region k (workers.Idle (fresh_at mounted.region k))
  fresh_worker k = record { region_is = refl; number_is = refl; in_mode = record { mode_is = refl; start_is = refl; passes_are = refl } }

  pub fresh_crew : IsCrew mounted.region (idle_crew own) logger
  fresh_crew = record {
    passes = made.passes ∙ ap (λ (n : ℕ). n + 1) (sym (as_many_idle own));
    some = subst (λ (n : ℕ). 0 < n) (sym (as_many_idle own)) made.some;
    each = λ k worker e.
        let found = idle_there own k worker e in
        subst (λ (w : Worker). IsWorker mounted.region k w) found.2
        (subst (λ (t : Token). IsWorker mounted.region k (workers.Idle t)) (sym (own_fresh (seat ∷ []) at mounted own made k found.0 found.1)) (fresh_worker k));
    behind = λ k worker e.
        let found = idle_there own k worker e in
        let none : length (view_of worker).seen ≡ 0 = ap (λ (w : Worker). length (view_of w).seen) (sym found.2) ∙ ap (λ (t : Token). length t.view.seen) (own_fresh (seat ∷ []) at mounted own made k found.0 found.1) in
        omega arith;
    last = subst (λ (n : ℕ). IsPassOf mounted.region n Idle logger) (sym (as_many_idle own)) (subst (λ (t : Token). IsPassOf mounted.region (length own) Idle t) (sym last_fresh) (fresh_worker (length own)));
    made =
        let none : made_by (idle_crew own) ≡ 0 = none_made own (λ k pass e. ap (λ (t : Token). length t.view.own) (own_fresh (seat ∷ []) at mounted own made k pass e)) in
        let nor : length logger.view.own ≡ 0 = ap (λ (t : Token). length t.view.own) last_fresh in
        omega arith;
  }

  -- so it stands where the region stands as it is made
  pub stands_first : (script : Script) (row : RegionRow) → Serves script 1 row mounted → Stands (made_region script.images row) (idle_crew own) logger
  stands_first script row serves =
      let a : mounted.region.passes ≡ length own + 1 = made.passes in
      let b = serves.passes in
      let many : row.passes ≡ length own = omega arith in
      record {
        state = (λ i. opening (sym serves.words i) (sym b i)) ∙ ap (λ (t : Token). now t.view) (sym last_fresh);
        log =
            let none : without_looks (opening_of logger.view) (length (idle_crew own)) [] ≡ [] = refl in
            sym (ap (λ (l : List Entry). without_looks (opening_of logger.view) (length (idle_crew own)) l) logger_fresh.1 ∙ none);
        doing = ap (λ (n : ℕ). replicate n Doing.idle) many ∙ sym (doing_nothing own);
      }
