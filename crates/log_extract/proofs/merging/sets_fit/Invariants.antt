-- The sets that are left fit exactly where all do.
use Rattle.std.proofs.Common.{◌↔◌, drop}
use Rattle.std.specs.List.{AllByRecursion}
use Rattle.pcp_base.specs.Results.{Fits}
use Rattle.log_extract.proofs.merging.sets_fit.Given as goal

abbrev pub invariant-loop-set : goal.invariant-loop-set
invariant-loop-set l = AllByRecursion Fits (drop l.set-index l.sets) ↔ AllByRecursion Fits l.sets
