-- With those that are left all are added.
use Rattle.std.proofs.Common.{◌≡◌, drop}
use Rattle.std.specs.Prelude.{flat_map}
use Rattle.script_runs.specs.Groups.{metrics_below as below_lem, with_metrics}
use Rattle.run_archive.proofs.names.add_below.Given as goal

abbrev pub invariant-loop-name : goal.invariant-loop-name
invariant-loop-name l = with_metrics l.metrics (flat_map (below_lem l.names) (drop l.name-index l.asked)) ≡ with_metrics l.fn.metrics (flat_map (below_lem l.names) l.fn.asked)
