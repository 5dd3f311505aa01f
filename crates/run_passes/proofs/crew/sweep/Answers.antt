use Rattle.std.proofs.Common.{rules, ◌≡◌, ℕ, length, subst, arith}
use Rattle.script_runs.specs.Closing.{each_pass}
use Rattle.run_passes.specs.Works.{step_of}
use Rattle.run_passes.specs.Sweeps.{EndedBelow, GoesAt, region_after_step}
use Rattle.run_passes.proofs.Seated.{goes_at_start, none_ended, crew_at_goes, swept_more, ended_more, plus_one}
use Rattle.run_passes.proofs.crew.sweep.Goals as goal

pub loop-pass-init : goal.loop-pass-init
loop-pass-init c = ((search rules), c.requires.seated, goes_at_start c.args.server.now c.args.at c.args.crew.now.items c.args.seat.now.tokens c.requires.crew, none_ended c.args.deed.now c.args.crew.now.items)

pub act-answer-requires-clause-crew : goal.act-answer-requires-clause-crew
act-answer-requires-clause-crew c =
    crew_at_goes c.args.server.now c.args.at (each_pass (region_after_step (step_of c.args.deed.now)) 0 c.loop-pass.pass) c.args.crew.now.items c.loop-pass.crew.items c.args.seat.now.tokens c.loop-pass.seat.tokens c.loop-pass.invariant.2

pub loop-pass-preserved : goal.loop-pass-preserved
loop-pass-preserved c = (
  c.loop-pass.invariant.0,
  c.act-answer.ensures.seated,
  subst (λ (n : ℕ). GoesAt c.args.server.now c.args.at (each_pass (region_after_step (step_of c.args.deed.now)) 0 n) c.args.crew.now.items c.act-answer.new.crew.items c.args.seat.now.tokens c.act-answer.new.seat.tokens) (plus_one c.loop-pass.pass)
      (swept_more c.args.server.now c.args.at c.loop-pass.pass (step_of c.args.deed.now) c.args.crew.now.items c.loop-pass.crew.items c.act-answer.new.crew.items c.args.seat.now.tokens c.loop-pass.seat.tokens c.act-answer.new.seat.tokens c.act-answer.result (c.act-answer.ensures.sure c.requires.sure) c.loop-pass.invariant.2 c.act-answer.ensures.acts),
  subst (λ (n : ℕ). EndedBelow c.args.deed.now n c.args.crew.now.items c.act-answer.new.crew.items) (plus_one c.loop-pass.pass)
      (ended_more c.args.deed.now c.loop-pass.pass c.args.crew.now.items c.loop-pass.crew.items c.act-answer.new.crew.items c.loop-pass.invariant.2.goes.as_many c.loop-pass.invariant.3 (c.act-answer.ensures.ends c.requires.sure)),
)

pub returns-clause-ends : goal.returns-clause-ends
returns-clause-ends c =
    let all : c.loop-pass.pass ≡ length c.args.crew.now.items = omega (arith, c.loop-pass.auto.pass-end, c.loop-pass-test.false, c.loop-pass.invariant.0) in
    subst (λ (n : ℕ). EndedBelow c.args.deed.now n c.args.crew.now.items c.loop-pass.crew.items) all c.loop-pass.invariant.3
