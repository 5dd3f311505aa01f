use Rattle.std.proofs.Common.{◌≡◌, ◌<◌, ◌≤◌, ℕ, List, [], ◌∷◌, length, take, get_or, sym, refl, ap, ◌∙◌, subst, arith}
use Rattle.run_script.specs.declared.script.Line.{Line}
use Rattle.run_passes.proofs.Turning.{was_there}
use Rattle.run_passes.specs.Hands.{HaveRun}
use Rattle.run_script.specs.Recording.{place_of}
use Rattle.run_passes.proofs.Handed.{away_more, away_none, comes_next, run_more, run_none, take_all, take_next}
use Rattle.run_passes.proofs.Lined.{may_stand, names_some}
use Rattle.run_passes.proofs.hand.run_steps.Goals as goal

pub loop-step-init : goal.loop-step-init
loop-step-init g c = (omega arith, c.requires.writers, c.requires.present, away_none c.args.writers.now.items, run_none c.args.script.now c.args.server.now c.args.number c.args.writers.now.items)

pub run_step-requires-clause-line : goal.run_step-requires-clause-line
run_step-requires-clause-line g c =
    let there = was_there c.args.script.now.steps c.loop-step.step-index c.step-item.result c.step-item.result (subst (λ (l : List (ℕ × Line)). c.loop-step.step-index < length l) c.as_slice-step-items.ensures c.loop-step-test.true) (c.step-item.is ∙ ap (λ (l : List (ℕ × Line)). get_or l c.loop-step.step-index c.step-item.result) c.as_slice-step-items.ensures) refl in
    let may = may_stand c.args.script.now c.loop-step.step-index c.step-item.result c.requires.taken there in
    (c.requires.rules.placed c.loop-step.step-index c.step-item.result there, may.suits_it, names_some (take c.loop-step.step-index c.args.script.now.steps) c.step-item.result.1 (place_of c.step-item.result.1) may.comes)

pub run_step-requires-clause-comes : goal.run_step-requires-clause-comes
run_step-requires-clause-comes g c =
    let there = was_there c.args.script.now.steps c.loop-step.step-index c.step-item.result c.step-item.result (subst (λ (l : List (ℕ × Line)). c.loop-step.step-index < length l) c.as_slice-step-items.ensures c.loop-step-test.true) (c.step-item.is ∙ ap (λ (l : List (ℕ × Line)). get_or l c.loop-step.step-index c.step-item.result) c.as_slice-step-items.ensures) refl in
    comes_next c.args.script.now c.args.server.now c.args.number c.loop-step.step-index c.step-item.result c.args.writers.now.items c.loop-step.writers.items c.requires.taken there (c.requires.rules.placed c.loop-step.step-index c.step-item.result there) c.requires.writers.as_many c.requires.idle c.loop-step.invariant.4

pub loop-step-preserved : goal.loop-step-preserved
loop-step-preserved g c =
    let there = was_there c.args.script.now.steps c.loop-step.step-index c.step-item.result c.step-item.result (subst (λ (l : List (ℕ × Line)). c.loop-step.step-index < length l) c.as_slice-step-items.ensures c.loop-step-test.true) (c.step-item.is ∙ ap (λ (l : List (ℕ × Line)). get_or l c.loop-step.step-index c.step-item.result) c.as_slice-step-items.ensures) refl in
    let taken = c.loop-step.invariant.0 in
    let more = c.run_step.ensures.taken in
    let long : length c.loop-step.writers.items ≡ length c.args.server.now = c.loop-step.invariant.1.as_many in (
      omega arith,
      c.run_step.ensures.writers,
      c.run_step.ensures.present,
      away_more c.args.writers.now.items c.loop-step.writers.items c.run_step.new.writers.items (let first = c.requires.writers.as_many in omega arith) c.loop-step.invariant.3 c.run_step.ensures.away,
      subst (λ (l : List (ℕ × Line)). HaveRun c.args.script.now c.args.server.now c.args.number l c.args.writers.now.items c.run_step.new.writers.items) (sym (take_next c.args.script.now.steps c.loop-step.step-index c.step-item.result there))
          (run_more c.args.script.now c.args.server.now c.args.number (take c.loop-step.step-index c.args.script.now.steps) (c.step-item.result ∷ []) c.args.writers.now.items c.loop-step.writers.items c.run_step.new.writers.items long c.loop-step.invariant.4 c.in_ok-run_step.ensures.run),
    )

pub returns-in_err-run_step-clause-away : goal.returns-in_err-run_step-clause-away
returns-in_err-run_step-clause-away g c =
    let first = c.requires.writers.as_many in
    let long = c.loop-step.invariant.1.as_many in
    away_more c.args.writers.now.items c.loop-step.writers.items c.run_step.new.writers.items (omega arith) c.loop-step.invariant.3 c.run_step.ensures.away

pub returns-clause-run : goal.returns-clause-run
returns-clause-run g c =
    subst (λ (l : List (ℕ × Line)). HaveRun c.args.script.now c.args.server.now c.args.number l c.args.writers.now.items c.loop-step.writers.items)
    (take_all c.args.script.now.steps c.loop-step.step-index (subst (λ (l : List (ℕ × Line)). length l ≤ c.loop-step.step-index) c.as_slice-step-items.ensures c.loop-step-test.false)) c.loop-step.invariant.4
