-- The volumes of the jobs are behind those so far.
use Rattle.std.proofs.Common.{◌≡◌, ℕ, ◌+◌, inr, ⊎_elim, List, drop, length, vec_len, subst, arith}
use Rattle.pcp_model.specs.Disk.{contents_of}
use Rattle.log_summary.specs.Summaries.{IsSoFar}
use Rattle.log_summary.proofs.Rounds.{all_merged, all_stopped, lack_fault, no_disk_fault, refused_is_no_disk}
use Rattle.log_summary.proofs.summing.sum_some.Goals as goal

pub returns-in-Err-clause-fault : goal.returns-in-Err-clause-fault
returns-in-Err-clause-fault g c = λ tells so_far.
    let files = contents_of (g.D.Disk.held c.args.disk.now) in
    let volumes : List (ℕ × ℕ) = c.args.volumes.now in
    ⊎_elim (λ refused. lack_fault files volumes c.in-Err.fault (inr refused))
    (λ stops. all_stopped files volumes c.args.meta.now c.args.from c.args.to 0 (drop c.args.index volumes) c.in_ok-counted.counted.items (drop (c.args.index + length c.in_ok-counted.counted.items) volumes)
    c.args.total.now c.in-Err.fault (c.in_ok-counted.ensures.jobs tells) stops so_far)
    c.in-Err.ensures.fault

pub returns-in-Err-clause-cause : goal.returns-in-Err-clause-cause
returns-in-Err-clause-cause g c = λ is.
    absurd (⊎_elim (λ refused. refused_is_no_disk c.in-Err.fault refused is)
    (λ stops. no_disk_fault c.in_ok-counted.counted.items c.in-Err.fault stops is) c.in-Err.ensures.fault)

pub returns-in-Ok-clause-summed : goal.returns-in-Ok-clause-summed
returns-in-Ok-clause-summed g c = λ tells so_far.
    let files = contents_of (g.D.Disk.held c.args.disk.now) in
    let volumes : List (ℕ × ℕ) = c.args.volumes.now in
    let same : length c.in_ok-counted.counted.items ≡ vec_len c.args.jobs = omega (arith, c.in_ok-counted.ensures.len) in
    subst (λ n. IsSoFar files volumes c.args.meta.now c.args.from c.args.to (drop (c.args.index + n) volumes) c.merge_all.new.total) same
    (all_merged files volumes c.args.meta.now c.args.from c.args.to 0 (drop c.args.index volumes) c.in_ok-counted.counted.items (drop (c.args.index + length c.in_ok-counted.counted.items) volumes)
    c.args.total.now c.merge_all.new.total (c.in_ok-counted.ensures.jobs tells) c.in-Ok.ensures.merged so_far)
