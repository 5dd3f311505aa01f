-- Sweeps over a crew, against the ends of the fold.
use Rattle.std.proofs.Common.{◌≡◌, ℕ, zero, suc, ◌+◌, true, List, [], ◌∷◌, map, length, Option, Some, None, Ok, Err, is_ok, sym, refl, ap, ◌∙◌, subst, arith}
use Rattle.region_rule.specs.Seats.{MadeRegion, Token}
use Rattle.script_runs.specs.Closing.{change_ended, stint_ended, reading_ended, each_pass, by_all}
use Rattle.script_runs.specs.PassSteps as steps
use Rattle.script_runs.specs.PassSteps.{Outcome}
use Rattle.script_runs.specs.Regions.{Doing, ScriptRegion, doing_of as does_in}
use Rattle.run_passes.specs.declared.worker.Worker.{Worker}
use Rattle.run_passes.specs.Workers.{doing_of}
use Rattle.run_passes.specs.Works.{Step}
use Rattle.run_passes.specs.Crews.{IsCrew, Stands}
use Rattle.run_passes.specs.Sweeps.{outcome_or, region_after_step, Goes}
use Rattle.run_passes.specs.Turns.{Answer, Took, Acts}

-- Chains

pub goes_still : (region : MadeRegion) (crew : List Worker) (logger : Token) → IsCrew region crew logger → Goes region (λ r. r) crew crew logger logger
goes_still region crew logger is = record { crew = is; as_many = refl; alone = λ a. a; goes = λ a r s. s }

pub goes_on : (region : MadeRegion) (f g : ScriptRegion → ScriptRegion) (a b c : List Worker) (t u v : Token) → Goes region f a b t u → Goes region g b c u v → Goes region (λ r. g (f r)) a c t v
goes_on region f g a b c t u v first last = record {
  crew = last.crew;
  as_many = last.as_many ∙ first.as_many;
  alone = λ h. first.alone (last.alone h);
  goes = λ h r s. last.goes h (f r) (first.goes (last.alone h) r s);
}

pub goes_as : (region : MadeRegion) (f g : ScriptRegion → ScriptRegion) (a b : List Worker) (t u : Token) → ((r : ScriptRegion) → Stands r a t → f r ≡ g r) → Goes region f a b t u → Goes region g a b t u
goes_as region f g a b t u same goes = record {
  crew = goes.crew;
  as_many = goes.as_many;
  alone = goes.alone;
  goes = λ h r s. subst (λ (x : ScriptRegion). Stands x b u) (same r s) (goes.goes h r s);
}

-- a call that wasn't refused
pub acts_goes : (region : MadeRegion) (k : ℕ) (step : Step) (old new : List Worker) (before after : Token) (answer : Answer) → is_ok answer ≡ true → Acts region k step old new before after answer
    → Goes region (λ r. region_after_step step r k (does_in r k)) old new before after
acts_goes region k step old new before after answer sure acts = record { crew = acts.crew; as_many = acts.as_many; alone = acts.alone; goes = λ h r s. by_answer r answer sure (acts.took h r s) }
  where
    by_answer : (r : ScriptRegion) (a : Answer) → is_ok a ≡ true → Took step r k (λ next. Stands next new after) a → Stands (region_after_step step r k (does_in r k)) new after
    by_answer r (Ok None) ok t = subst (λ (o : Option Outcome). Stands (outcome_or r o) new after) (sym t.0) t.1
    by_answer r (Ok (Some line)) ok t = subst (λ (o : Option Outcome). Stands (outcome_or r o) new after) (sym t.1) t.4
    by_answer r (Err fault) ok t = absurd (cc)

-- The fold's sweeps

pub each_more : (end : ScriptRegion → ℕ → Doing → ScriptRegion) (k n : ℕ) (r : ScriptRegion) → each_pass end k (suc n) r ≡ end (each_pass end k n r) (k + n) (does_in (each_pass end k n r) (k + n))
each_more end k zero r = let e : k ≡ k + 0 = omega arith in ap (λ (j : ℕ). end r j (does_in r j)) e
each_more end k (suc n) r =
    let e : k + 1 + n ≡ k + suc n = omega arith in
    each_more end (k + 1) n (end r k (does_in r k))
    ∙ ap (λ (j : ℕ). end (each_pass end k (suc n) r) j (does_in (each_pass end k (suc n) r) j)) e

each_same : (f g : ScriptRegion → ℕ → Doing → ScriptRegion) → ((r : ScriptRegion) (k : ℕ) (d : Doing) → f r k d ≡ g r k d) → (k n : ℕ) (r : ScriptRegion) → each_pass f k n r ≡ each_pass g k n r
each_same f g same k zero r = refl
each_same f g same k (suc n) r =
    ap (λ (x : ScriptRegion). each_pass f (k + 1) n x) (same r k (does_in r k)) ∙ each_same f g same (k + 1) n (g r k (does_in r k))

change_is : (r : ScriptRegion) (k : ℕ) (d : Doing) → region_after_step steps.finishes r k d ≡ change_ended r k d
change_is r k Doing.idle = refl
change_is r k Doing.attached = refl
change_is r k (Doing.changing image n next) = refl
change_is r k (Doing.reading first) = refl

stint_is : (r : ScriptRegion) (k : ℕ) (d : Doing) → region_after_step steps.detaches r k d ≡ stint_ended r k d
stint_is r k Doing.idle = refl
stint_is r k Doing.attached = refl
stint_is r k (Doing.changing image n next) = refl
stint_is r k (Doing.reading first) = refl

reading_is : (r : ScriptRegion) (k : ℕ) (d : Doing) → region_after_step steps.ends r k d ≡ reading_ended r k d
reading_is r k Doing.idle = refl
reading_is r k Doing.attached = refl
reading_is r k (Doing.changing image n next) = refl
reading_is r k (Doing.reading first) = refl

-- a sweep over all passes is the fold's
all_by : (step : Step) (end : ScriptRegion → ℕ → Doing → ScriptRegion) → ((r : ScriptRegion) (k : ℕ) (d : Doing) → region_after_step step r k d ≡ end r k d) → (crew : List Worker) (logger : Token) (r : ScriptRegion) → Stands r crew logger
    → each_pass (region_after_step step) 0 (length crew) r ≡ by_all end r
all_by step end same crew logger r stands =
    let many : length crew ≡ length r.doing = sym (ap (λ (l : List Doing). length l) stands.doing ∙ length_map crew) in
    each_same (region_after_step step) end same 0 (length crew) r ∙ ap (λ (n : ℕ). each_pass end 0 n r) many
  where
    length_map : (xs : List Worker) → length (map doing_of xs) ≡ length xs
    length_map [] = refl
    length_map (x ∷ xs) = ap suc (length_map xs)

pub changes_by : (region : MadeRegion) (a b : List Worker) (t u : Token) → Goes region (each_pass (region_after_step steps.finishes) 0 (length a)) a b t u → Goes region (by_all change_ended) a b t u
changes_by region a b t u goes = goes_as region (each_pass (region_after_step steps.finishes) 0 (length a)) (by_all change_ended) a b t u (λ r s. all_by steps.finishes change_ended change_is a t r s) goes

pub stints_by : (region : MadeRegion) (a b : List Worker) (t u : Token) → Goes region (each_pass (region_after_step steps.detaches) 0 (length a)) a b t u → Goes region (by_all stint_ended) a b t u
stints_by region a b t u goes = goes_as region (each_pass (region_after_step steps.detaches) 0 (length a)) (by_all stint_ended) a b t u (λ r s. all_by steps.detaches stint_ended stint_is a t r s) goes

pub readings_by : (region : MadeRegion) (a b : List Worker) (t u : Token) → Goes region (each_pass (region_after_step steps.ends) 0 (length a)) a b t u → Goes region (by_all reading_ended) a b t u
readings_by region a b t u goes = goes_as region (each_pass (region_after_step steps.ends) 0 (length a)) (by_all reading_ended) a b t u (λ r s. all_by steps.ends reading_ended reading_is a t r s) goes
