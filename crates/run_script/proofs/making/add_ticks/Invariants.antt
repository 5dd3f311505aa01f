-- So many ticks have their steps.
use Rattle.std.proofs.Common.{◌≡◌, ◌+◌, ◌-◌, ◌*◌, ◌≤◌, length}
use Rattle.run_script.specs.Generated.{number_behind, all_ticks, with_steps}
use Rattle.run_script.proofs.making.add_ticks.Given as goal

abbrev pub invariant-loop-tick : goal.invariant-loop-tick
invariant-loop-tick l = record {
  draws : l.number ≡ number_behind l.fn.first (3 * l.tick);
  made : l.steps ≡ with_steps l.initial.steps (all_ticks l.fn.first l.tick);
  few : length l.steps ≤ 100 + 15 * l.tick;
  below : l.tick ≤ l.fn.ticks;
}

abbrev pub decreases-loop-tick : goal.decreases-loop-tick
decreases-loop-tick l = l.fn.ticks - l.tick
