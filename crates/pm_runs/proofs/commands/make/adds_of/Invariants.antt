use Rattle.std.proofs.Common.{◌≡◌, ◌+◌}
use Rattle.std.specs.Prelude.{drop}
use Rattle.script_runs.specs.Summaries.{adds_in, total_in}
use Rattle.pm_runs.proofs.commands.make.adds_of.Given as goal

abbrev pub invariant-loop-line : goal.invariant-loop-line
invariant-loop-line l = record {
  adds : l.adds + adds_in (drop l.line-index l.steps) ≡ adds_in l.steps;
  total : l.total + total_in (drop l.line-index l.steps) ≡ total_in l.steps;
}
