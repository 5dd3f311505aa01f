-- All facts about the metric fit exactly where those that are left do.
use Rattle.std.proofs.Common.{drop}
use Rattle.std.specs.Prelude.{◌↔◌}
use Rattle.archive_meta.specs.Facts.{FitsMetric}
use Rattle.archive_meta.proofs.state.MetaState.fits_metric.Given as goal

abbrev pub invariant-loop-desc : goal.invariant-loop-desc
invariant-loop-desc l = FitsMetric l.self (drop l.desc-index l.metrics) l.pmid ↔ FitsMetric l.self l.metrics l.pmid
