-- One job more.
use Rattle.std.proofs.Common.{◌≡◌, ℕ, ◌+◌, ◌<◌, List, drop, length, sym, subst, arith}
use Rattle.std.specs.Prelude.{slice_index_or}
use Rattle.std.proofs.lemmas.List.{drop_more}
use Rattle.log_summary.specs.declared.job.Job.{Job}
use Rattle.log_summary.specs.Jobs.{IsJob, AreJobs}
use Rattle.log_summary.proofs.Rounds.{one_job, new_job_is, none_behind, measured_at}
use Rattle.log_summary.proofs.jobs.next_jobs.Goals as goal

pub loop-worker-preserved : goal.loop-worker-preserved
loop-worker-preserved c =
    let volumes : List (ℕ × ℕ) = c.args.volumes.now in
    let at : ℕ = c.loop-worker.at in
    let v : ℕ × ℕ = slice_index_or volumes at (0, 0) in
    let within : at < length volumes = c.if-at-volumes.false in
    record {
      within = omega (arith, within);
      many = omega (arith, c.in_ok-push.ensures.len, c.loop-worker.invariant.many);
      each = omega (arith, c.in_ok-push.ensures.len, c.loop-worker.invariant.each);
      jobs = λ files records from to measured.
          let worker : c.loop-worker.worker ≡ 0 + length c.loop-worker.jobs.items = omega (arith, c.loop-worker.invariant.each) in
          subst (λ (js : List Job). AreJobs files records from to 0 (drop c.args.index volumes) js (drop (at + 1) volumes)) (sym c.in_ok-push.ensures.items)
          (one_job files records from to 0 (drop c.args.index volumes) c.loop-worker.jobs.items (drop at volumes) v (drop (at + 1) volumes) c.new_job.result
          (c.loop-worker.invariant.jobs files records from to measured) (drop_more volumes at (0, 0) within)
          (subst (λ n. IsJob files records from to n v (drop (at + 1) volumes) c.new_job.result) worker
          (new_job_is files records from to c.loop-worker.worker v (drop (at + 1) volumes) _ c.new_job.result (measured_at files volumes at measured within)
          (none_behind volumes (at + 1) (omega (arith, within))) c.new_job.ensures)));
    }
