-- The pass that has gathered a whole crew is its region's last one, and leaves its gate free.
use Rattle.std.proofs.Common.{◌≡◌, ◌≢◌, ℕ, zero, suc, ◌+◌, ◌<◌, List, [], ◌∷◌, length, slice_get, Some, ⊎_elim, sym, refl, ap, ◌∙◌, subst, arith}
use Rattle.std.proofs.lemmas.List.{length-replicate}
use mathlib.Core.Option.{some}
use lib.ListN.{get_elem?}
use Rattle.region_core.specs.declared.mode.Mode.{Mode}
use Rattle.region_core.specs.declared.mode.Mode.TheVariants.{Idle}
use Rattle.region_core.specs.Gate.{total, one_if_inside, one_if_bounced, one_if_changing, IsGated}
use Rattle.region_core.specs.Journal.{state, IsJournal}
use Rattle.region_core.specs.State.{State, opening, IsIn}
use Rattle.region_core.proofs.Positions.{sound_end}
use Rattle.region_core.proofs.Runs.{count_run}
use Rattle.region_rule.specs.Seats.{MadeRegion, Token}
use Rattle.region_rule.specs.Tokens.{IsLast, Knows}
use Rattle.region_rule.specs.Views.{now, opening_of}
use Rattle.region_rule.proofs.Gathered.{idle_in}
use Rattle.region_words.specs.Images.{mmv, mmv_laws}
use Rattle.run_passes.specs.declared.worker.Worker.{Worker}
use Rattle.run_passes.specs.Crews.{IsCrew}
use Rattle.run_passes.specs.Lasts.{IsLastPass, LastLeavesTheGate, end_of}
use Rattle.run_passes.specs.Sweeps.{GathersAllBut}
use Rattle.run_passes.proofs.Crewing.{same_or_other}

get_there : {A : Type 0} (xs : List A) (i : ℕ) → i < length xs → (x : A) × (slice_get xs i ≡ Some x)
get_there [] i h = absurd (omega arith)
get_there (x ∷ xs) zero h = (x, refl)
get_there (x ∷ xs) (suc i) h = get_there xs i (omega arith)

module _ (region : MadeRegion) (crew : List Worker) (before token : Token) (is : IsCrew region crew before) (g : GathersAllBut region crew 0 before token) where
  knows : Knows mmv token.view
  knows = g.knows is.some

  many : token.view.passes ≡ length crew + 1
  many = g.last.in_mode.passes_are ∙ (ap (λ (m : MadeRegion). m.passes) g.last.region_is ∙ is.passes)

  gathered : IsLast token.view
  gathered k below other =
      let passes = many in
      let number = g.last.number_is in
      let worker = get_there crew k (omega arith) in
      g.kept k worker.0 (omega arith) worker.1

  start : opening_of token.view ≡ opening token.region.words token.region.passes
  start = λ i. opening (g.last.in_mode.start_is i) (g.last.in_mode.passes_are i)

  idle_then : (k : ℕ) → k < token.view.passes → IsIn Idle (now token.view) k
  idle_then k below = ⊎_elim
      (λ (same : k ≡ token.view.number). subst (λ (n : ℕ). IsIn Idle (now token.view) n) (sym same) (subst (λ (m : Mode). IsIn m (now token.view) token.view.number) g.last.in_mode.mode_is knows.mode))
      (λ (other : k ≢ token.view.number). idle_in (now token.view) k token.view.kept knows.idle (gathered k below other))
      (same_or_other k token.view.number)

  pub last_pass : IsLastPass token
  last_pass = record {
    in_mode = g.last.in_mode;
    last = gathered;
    journal =
        subst (λ (ws : List ℕ). IsJournal mmv ws token.region.passes token.view.seen) g.last.in_mode.start_is
        (subst (λ (n : ℕ). IsJournal mmv token.view.start n token.view.seen) g.last.in_mode.passes_are knows.journal);
    idle = λ k below.
        let passes = g.last.in_mode.passes_are in
        subst (λ (s : State). IsIn Idle (state s token.view.seen) k) start (idle_then k (omega arith));
  }

-- The gate

none_of : (f : Mode → ℕ) → f Idle ≡ 0 → (modes : List Mode) → ((k : ℕ) → k < length modes → get_elem? modes k ≡ some Idle) → total f modes ≡ 0
none_of f none [] idle = refl
none_of f none (m ∷ modes) idle =
    let first : get_elem? (m ∷ modes) 0 ≡ some Idle = idle 0 (omega arith) in
    let is : m ≡ Idle = cc in
    let here : f m ≡ 0 = ap f is ∙ none in
    let rest : total f modes ≡ 0 = none_of f none modes (λ k below. idle (suc k) (omega arith)) in
    omega arith

pub leaves_the_gate : LastLeavesTheGate
leaves_the_gate token last =
    let end : State = end_of token in
    let long : length end.modes ≡ token.region.passes = count_run (opening token.region.words token.region.passes) token.view.seen ∙ length-replicate token.region.passes Idle in
    let idle : (k : ℕ) → k < length end.modes → get_elem? end.modes k ≡ some Idle = λ k below. last.idle k (omega arith) in
    let gated : IsGated end.gate end.modes = (sound_end mmv mmv_laws token.region.words token.region.passes token.view.seen last.journal).gated in
    let counts = gated.counts in
    let inside : total one_if_inside end.modes ≡ 0 = none_of one_if_inside refl end.modes idle in
    let bounced : total one_if_bounced end.modes ≡ 0 = none_of one_if_bounced refl end.modes idle in
    let changing : total one_if_changing end.modes ≡ 0 = none_of one_if_changing refl end.modes idle in
    omega arith
