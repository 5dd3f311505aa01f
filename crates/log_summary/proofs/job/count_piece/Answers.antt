-- The items of the piece are counted behind those before it.
use Rattle.std.proofs.Common.{◌≡◌, ℕ, ◌+◌, List, refl, subst}
use Rattle.pcp_model.specs.declared.records.MetaRecord.{MetaRecord}
use Rattle.log_summary.specs.declared.walking.Stop.TheVariants.{Torn, Wrong}
use Rattle.log_summary.specs.declared.job.Progress.TheVariants.{Open}
use Rattle.log_summary.specs.Jobs.{IsAsFar}
use Rattle.log_summary.specs.Pieces.{StopsAs}
use Rattle.log_summary.specs.Volumes.{SoFar}
use Rattle.log_summary.proofs.Pieced.{counted_in, none_in, whole_in}
use Rattle.log_summary.proofs.Walked.{breaks_here}
use Rattle.log_summary.proofs.job.count_piece.Goals as goal

pub returns-in-Ok-Torn : goal.returns-in-Ok-Torn
returns-in-Ok-Torn g c =
    let job = c.args.job in
    let records : List MetaRecord = c.args.meta.now in
    let open_ : job.progress ≡ Open = c.is_open.ensures c.if-not-is_open.false in
    let given : StopsAs c.as_slice.result.now records c.args.from c.args.to job.table c.count_whole.new.table (Torn c.in-Ok-Torn.at) =
    subst (StopsAs c.as_slice.result.now records c.args.from c.args.to job.table c.count_whole.new.table) c.in-Ok-Torn.field-0-is c.in-Ok-Torn.ensures in
    let stop : StopsAs job.bytes.items records c.args.from c.args.to job.table c.count_whole.new.table (Torn c.in-Ok-Torn.at) =
    subst (λ (l : List ℕ). StopsAs l records c.args.from c.args.to job.table c.count_whole.new.table (Torn c.in-Ok-Torn.at)) c.as_slice.ensures.value given in
    record {
      same = record { worker_is = c.counted_to.ensures.same.worker_is; number = c.counted_to.ensures.same.number; last = c.counted_to.ensures.same.last };
      counts = λ bytes counts.
          let far : SoFar bytes records c.args.from c.args.to job.at job.table = subst (IsAsFar bytes records c.args.from c.args.to job) open_ counts.far in
          c.counted_to.ensures.counts bytes records c.args.from c.args.to (record { long = counts.read.long; is = counts.read.is })
          (counted_in bytes job.bytes.items job.at counts.read.is records c.args.from c.args.to job.table c.count_whole.new.table c.in-Ok-Torn.at far stop.0) stop.1;
    }

pub returns-in-Ok-Wrong : goal.returns-in-Ok-Wrong
returns-in-Ok-Wrong g c =
    let job = c.args.job in
    let records : List MetaRecord = c.args.meta.now in
    let open_ : job.progress ≡ Open = c.is_open.ensures c.if-not-is_open.false in
    let given : StopsAs c.as_slice.result.now records c.args.from c.args.to job.table c.count_whole.new.table (Wrong c.in-Ok-Wrong.at) =
    subst (StopsAs c.as_slice.result.now records c.args.from c.args.to job.table c.count_whole.new.table) c.in-Ok-Wrong.field-0-is c.in-Ok-Wrong.ensures in
    let stop : StopsAs job.bytes.items records c.args.from c.args.to job.table c.count_whole.new.table (Wrong c.in-Ok-Wrong.at) =
    subst (λ (l : List ℕ). StopsAs l records c.args.from c.args.to job.table c.count_whole.new.table (Wrong c.in-Ok-Wrong.at)) c.as_slice.ensures.value given in
    record {
      same = record { worker_is = c.broken_at.ensures.same.worker_is; number = c.broken_at.ensures.same.number; last = c.broken_at.ensures.same.last };
      counts = λ bytes counts.
          let at : ℕ = c.in-Ok-Wrong.at in
          let far : SoFar bytes records c.args.from c.args.to job.at job.table = subst (IsAsFar bytes records c.args.from c.args.to job) open_ counts.far in
          c.broken_at.ensures.counts bytes records c.args.from c.args.to (record { long = counts.read.long; is = counts.read.is })
          (breaks_here bytes job.is_last records c.args.from c.args.to (job.at + at) c.count_whole.new.table
          (counted_in bytes job.bytes.items job.at counts.read.is records c.args.from c.args.to job.table c.count_whole.new.table at far stop.0)
          (none_in bytes job.bytes.items job.at counts.read.is at stop.0.within stop.2 stop.1)
          (whole_in bytes job.bytes.items job.at counts.read.is at stop.0.within stop.2));
    }

pub returns-in-Err : goal.returns-in-Err
returns-in-Err g c = record {
  same = record { worker_is = refl; number = refl; last = refl };
  counts = λ bytes counts. record { read = record { long = counts.read.long; is = counts.read.is }; far = tt };
}
