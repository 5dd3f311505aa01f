-- From no volume on to all.
use Rattle.std.proofs.Common.{◌≡◌, ℕ, ◌+◌, ◌-◌, [], List, drop, length, min, vec_len, refl, rules, sym, ap, ◌∙◌, subst, arith}
use Rattle.std.proofs.lemmas.List.{drop_all}
use Rattle.pcp_model.specs.Disk.{contents_of}
use Rattle.archive_loading.proofs.Looking.{looks_none, looks_on}
use Rattle.log_summary.specs.Jobs.{AreNext}
use Rattle.log_summary.specs.Summaries.{IsSoFar}
use Rattle.log_summary.proofs.Placing.{goes_first}
use Rattle.log_summary.proofs.Rounds.{summed_all}
use Rattle.log_summary.proofs.summing.sum_volumes.Goals as goal

pub loop-index-init : goal.loop-index-init
loop-index-init g c = record {
  within = omega arith;
  looks = looks_none g.D.Disk g.met.D.Disk.only_now c.args.disk.now;
  quiet = refl;
  many = c.in_ok-jobs.ensures.count;
  next = λ tells. c.in_ok-jobs.ensures.jobs (contents_of (g.D.Disk.held c.args.disk.now)) c.args.meta.now c.args.from c.args.to (c.requires.lengths tells);
  so_far = λ tells. record {
    items = [];
    goes = goes_first (contents_of (g.D.Disk.held c.args.disk.now)) c.args.volumes.now;
    is = c.empty-total.ensures;
  };
}

pub sum_some-requires-clause-jobs : goal.sum_some-requires-clause-jobs
sum_some-requires-clause-jobs g c =
    let next : g.D.Disk.tells → AreNext (contents_of (g.D.Disk.held c.loop-index.disk)) c.args.meta.now c.args.from c.args.to c.args.volumes.now c.loop-index.index c.loop-index.jobs.items = λ tells.
    subst (λ h. AreNext (contents_of h) c.args.meta.now c.args.from c.args.to c.args.volumes.now c.loop-index.index c.loop-index.jobs.items) (sym (c.loop-index.invariant.looks.held tells)) (c.loop-index.invariant.next tells) in
    search (rules, next)

pub returns-in_err-jobs-2-clause-looks : goal.returns-in_err-jobs-2-clause-looks
returns-in_err-jobs-2-clause-looks g c = looks_on g.D.Disk c.args.disk.now c.loop-index.disk c.sum_some.new.disk c.loop-index.invariant.looks c.sum_some.ensures.looks

pub loop-index-preserved : goal.loop-index-preserved
loop-index-preserved g c =
    let behind : ℕ = c.loop-index.index + c.len.result in
    let same : behind ≡ c.loop-index.index + vec_len c.loop-index.jobs = ap (λ n. c.loop-index.index + n) c.len.ensures in
    record {
      within = omega (arith, same, c.loop-index.invariant.many, c.loop-index-test.true);
      looks = looks_on g.D.Disk c.args.disk.now c.loop-index.disk c.sum_some.new.disk c.loop-index.invariant.looks c.sum_some.ensures.looks;
      quiet = c.in_ok-jobs-2.ensures.quiet ∙ c.loop-index.invariant.quiet;
      many = c.in_ok-jobs-2.ensures.count ∙ ap (λ n. min c.args.workers (length c.args.volumes.now - n)) (sym same);
      next = λ tells.
          subst (λ n. AreNext (contents_of (g.D.Disk.held c.args.disk.now)) c.args.meta.now c.args.from c.args.to c.args.volumes.now n c.in_ok-jobs-2.jobs.items) (sym same)
          (subst (λ h. AreNext (contents_of h) c.args.meta.now c.args.from c.args.to c.args.volumes.now (c.loop-index.index + vec_len c.loop-index.jobs) c.in_ok-jobs-2.jobs.items) (c.loop-index.invariant.looks.held tells) (c.in_ok-jobs-2.ensures.next tells));
      so_far = λ tells.
          let volumes : List (ℕ × ℕ) = c.args.volumes.now in
          subst (λ n. IsSoFar (contents_of (g.D.Disk.held c.args.disk.now)) volumes c.args.meta.now c.args.from c.args.to (drop n volumes) c.sum_some.new.total) (sym same)
          (subst (λ h. IsSoFar (contents_of h) volumes c.args.meta.now c.args.from c.args.to (drop c.loop-index.index volumes) c.loop-index.total
          → IsSoFar (contents_of h) volumes c.args.meta.now c.args.from c.args.to (drop (c.loop-index.index + vec_len c.loop-index.jobs) volumes) c.sum_some.new.total)
          (c.loop-index.invariant.looks.held tells) (c.in_ok-jobs-2.ensures.summed tells) (c.loop-index.invariant.so_far tells));
    }

pub returns-clause-summed : goal.returns-clause-summed
returns-clause-summed g c = λ tells.
    let volumes : List (ℕ × ℕ) = c.args.volumes.now in
    summed_all (contents_of (g.D.Disk.held c.args.disk.now)) volumes c.args.meta.now c.args.from c.args.to (drop c.loop-index.index volumes) c.loop-index.total
    (drop_all c.loop-index.index volumes c.loop-index-test.false) (c.loop-index.invariant.so_far tells)
