-- With those that are left all are added.
use Rattle.std.proofs.Common.{◌≡◌, map, drop}
use Rattle.script_runs.specs.Groups.{with_metrics}
use Rattle.run_archive.proofs.names.add_pairs.Given as goal

abbrev pub invariant-loop-pmid : goal.invariant-loop-pmid
invariant-loop-pmid l = with_metrics l.metrics (map (λ pair. pair.1) (drop l.pmid-index l.pairs)) ≡ with_metrics l.fn.metrics (map (λ pair. pair.1) l.fn.pairs)
