-- All facts fit exactly where those that are left do.
use Rattle.std.proofs.Common.{drop}
use Rattle.std.specs.Prelude.{◌↔◌}
use Rattle.std.specs.List.{AllByRecursion}
use Rattle.archive_meta.specs.Facts.{FitsFact}
use Rattle.archive_meta.proofs.state.MetaState.fits_all.Given as goal

abbrev pub invariant-loop-desc : goal.invariant-loop-desc
invariant-loop-desc l = AllByRecursion (FitsFact l.self) (drop l.desc-index l.metrics) ↔ AllByRecursion (FitsFact l.self) l.metrics
