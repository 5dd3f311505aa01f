-- The rows so far, with those of the metrics that are left, are the rows of all metrics.
use Rattle.std.proofs.Common.{◌≡◌, drop, fold}
use Rattle.pm_print.specs.Infos.{with_metric}
use Rattle.pm_print.specs.Rows.{listed_rows}
use Rattle.pm_print.proofs.infos.add_metrics.Given as goal

abbrev pub invariant-loop-pmid : goal.invariant-loop-pmid
invariant-loop-pmid l = fold (with_metric l.meta) (listed_rows l.rows) (drop l.pmid-index l.pmids) ≡ fold (with_metric l.meta) (listed_rows l.initial.rows) l.pmids
