-- A tick's steps stand behind those of the ticks before it.
use Rattle.std.proofs.Common.{◌+◌, ◌*◌, ap, sym, ◌∙◌, length, arith}
use Rattle.run_script.specs.Generated.{next, number_behind, with_steps, tick_steps}
use Rattle.run_script.proofs.Numbered.{few_tick, three_draws, one_more, no_ticks, no_draws, longer}
use Rattle.run_script.proofs.making.add_ticks.Goals as goal

pub loop-tick-init : goal.loop-tick-init
loop-tick-init c = record {
  draws = no_draws c.args.first;
  made = sym (no_ticks c.args.steps.now c.args.first);
  few = c.requires.room;
  below = omega arith;
}

pub loop-tick-preserved : goal.loop-tick-preserved
loop-tick-preserved c = record {
  draws = c.in_ok-number.ensures.value ∙ ap (λ x. next (next (next x))) c.loop-tick.invariant.draws ∙ three_draws c.args.first c.loop-tick.tick;
  made = c.in_ok-number.ensures.steps
      ∙ ap (λ x. with_steps c.loop-tick.steps (tick_steps x (c.loop-tick.tick + 1))) c.loop-tick.invariant.draws
      ∙ ap (λ steps. with_steps steps (tick_steps (number_behind c.args.first (3 * c.loop-tick.tick)) (c.loop-tick.tick + 1))) c.loop-tick.invariant.made
      ∙ one_more c.args.steps.now c.args.first c.loop-tick.tick;
  few = omega (
    arith,
    ap length c.in_ok-number.ensures.steps,
    longer c.loop-tick.steps (tick_steps c.loop-tick.number (c.loop-tick.tick + 1)),
    few_tick c.loop-tick.number (c.loop-tick.tick + 1),
    c.loop-tick.invariant.few,
  );
  below = omega (arith, c.loop-tick-test.true);
}
