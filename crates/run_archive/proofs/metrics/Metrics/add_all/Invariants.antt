-- With those that are left all are added.
use Rattle.std.proofs.Common.{◌≡◌, drop}
use Rattle.script_runs.specs.Groups.{with_metrics}
use Rattle.run_archive.proofs.metrics.Metrics.add_all.Given as goal

abbrev pub invariant-loop-word : goal.invariant-loop-word
invariant-loop-word l = with_metrics l.self (drop l.word-index l.word-items) ≡ with_metrics l.fn.self l.word-items
