-- What is wanted so far lies in the files, if what was read of the jobs stands there.
use Rattle.std.proofs.Common.{drop}
use Rattle.std.specs.List.{AllByRecursion}
use Rattle.pcp_model.specs.Disk.{Files}
use Rattle.log_summary.specs.Jobs.{AreRead, IsWithin}
use Rattle.log_summary.proofs.jobs.wants_of.Given as goal

abbrev pub invariant-loop-job : goal.invariant-loop-job
invariant-loop-job l = record {
  left : (files : Files) → AreRead files l.jobs → AreRead files (drop l.job-index l.jobs);
  wants : (files : Files) → AreRead files l.jobs → AllByRecursion (IsWithin files) l.wants.items;
}
