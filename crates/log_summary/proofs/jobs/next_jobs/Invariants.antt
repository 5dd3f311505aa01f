-- The jobs so far are the volumes so far.
use Rattle.std.proofs.Common.{◌≡◌, ◌+◌, ◌≤◌, List, length, drop, vec_len}
use Rattle.std.specs.List.{AllByRecursion}
use Rattle.pcp_base.specs.Time.{Moment}
use Rattle.pcp_model.specs.Disk.{Files}
use Rattle.pcp_model.specs.declared.records.MetaRecord.{MetaRecord}
use Rattle.archive_loading.specs.Loaded.{IsMeasured}
use Rattle.log_summary.specs.Jobs.{AreJobs}
use Rattle.log_summary.proofs.jobs.next_jobs.Given as goal

abbrev pub invariant-loop-worker : goal.invariant-loop-worker
invariant-loop-worker l = record {
  within : l.at ≤ length l.volumes;
  many : l.at ≡ l.index + vec_len l.jobs;
  each : l.worker ≡ vec_len l.jobs;
  jobs : (files : Files) (records : List MetaRecord) (from to : Moment) → AllByRecursion (IsMeasured files) l.volumes
      → AreJobs files records from to 0 (drop l.index l.volumes) l.jobs.items (drop l.at l.volumes);
}
