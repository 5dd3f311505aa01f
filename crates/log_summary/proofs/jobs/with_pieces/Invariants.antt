-- What is left is read on as all are.
use Rattle.std.proofs.Common.{◌≡◌, ◌+◌, ◌++◌, List, length, vec_len}
use Rattle.std.specs.List.{AllByRecursion}
use Rattle.std.specs.Vec.Iter.{into_iter_items}
use Rattle.pcp_model.specs.Disk.{Files}
use Rattle.log_summary.specs.declared.job.Job.{Job}
use Rattle.log_summary.specs.Jobs.{AreRead, AreReadOn, IsPiece}
use Rattle.log_summary.proofs.jobs.with_pieces.Given as goal

abbrev pub invariant-loop-job : goal.invariant-loop-job
invariant-loop-job l = record {
  many : vec_len l.more + length (into_iter_items l.job-iterator) ≡ vec_len l.fn.jobs;
  on : (files : Files) → AreRead files l.fn.jobs.items → AllByRecursion (IsPiece files) l.fn.pieces.items
      → AreRead files (into_iter_items l.job-iterator) × AllByRecursion (IsPiece files) (into_iter_items l.left)
      × ((ks : List Job) → AreReadOn files (into_iter_items l.job-iterator) ks → AreReadOn files l.fn.jobs.items (l.more.items ++ ks));
}
