-- What is left leads on as all do.
use Rattle.std.specs.Vec.Iter.{into_iter_items}
use Rattle.archive_reader.specs.declared.fault.ReaderFault.{ReaderFault}
use Rattle.log_summary.specs.Jobs.{MergesAll, StopsWith}
use Rattle.log_summary.specs.Tables.{Rows}
use Rattle.log_summary.proofs.jobs.merge_all.Given as goal

abbrev pub invariant-loop-job : goal.invariant-loop-job
invariant-loop-job l = record {
  merges : (others : Rows) → MergesAll l.total (into_iter_items l.job-iterator) others → MergesAll l.initial.total l.fn.jobs.items others;
  stops : (e : ReaderFault) → StopsWith (into_iter_items l.job-iterator) e → StopsWith l.fn.jobs.items e;
}
