-- More is read and counted of each.
use Rattle.std.proofs.Common.{◌+◌, ◌-◌, length, min, refl, rules, sym, ap, ◌∙◌, subst, vec_len, arith}
use Rattle.pcp_model.specs.Disk.{Files, contents_of}
use Rattle.archive_loading.proofs.Looking.{looks_none, looks_on}
use Rattle.log_summary.specs.Jobs.{AreNext, AreRead, LeadOn}
use Rattle.log_summary.proofs.Rounds.{next_read, next_lead}
use Rattle.log_summary.proofs.jobs.count_next.Goals as goal

pub loop-init : goal.loop-init
loop-init g c = record {
  looks = looks_none g.D.Disk g.met.D.Disk.only_now c.args.disk.now;
  quiet = refl;
  long = refl;
  many = c.in_ok-next.ensures.count ∙ ap (λ n. min c.args.workers (length c.args.volumes.now - (c.args.index + n))) c.len.ensures;
  jobs = c.requires.jobs;
  next = λ tells.
      let files : Files = contents_of (g.D.Disk.held c.args.disk.now) in
      subst (λ n. AreNext files c.args.meta.now c.args.from c.args.to c.args.volumes.now (c.args.index + n) c.in_ok-next.next.items) c.len.ensures
      (c.in_ok-next.ensures.jobs files c.args.meta.now c.args.from c.args.to (c.requires.lengths tells));
}

pub count_round-requires-clause-read : goal.count_round-requires-clause-read
count_round-requires-clause-read g c =
    let read : g.D.Disk.tells → AreRead (contents_of (g.D.Disk.held c.loop.disk)) c.loop.jobs.items = λ tells.
    subst (λ h. AreRead (contents_of h) c.loop.jobs.items) (sym (c.loop.invariant.looks.held tells))
    (next_read (contents_of (g.D.Disk.held c.args.disk.now)) c.args.meta.now c.args.from c.args.to c.args.volumes.now c.args.index c.loop.jobs.items (c.loop.invariant.jobs tells)) in
    search (rules, read)

pub count_round-requires-clause-next : goal.count_round-requires-clause-next
count_round-requires-clause-next g c =
    let read : g.D.Disk.tells → AreRead (contents_of (g.D.Disk.held c.loop.disk)) c.loop.next.items = λ tells.
    subst (λ h. AreRead (contents_of h) c.loop.next.items) (sym (c.loop.invariant.looks.held tells))
    (next_read (contents_of (g.D.Disk.held c.args.disk.now)) c.args.meta.now c.args.from c.args.to c.args.volumes.now (c.args.index + vec_len c.args.jobs) c.loop.next.items (c.loop.invariant.next tells)) in
    search (rules, read)

pub returns-in_err-counted-clause-looks : goal.returns-in_err-counted-clause-looks
returns-in_err-counted-clause-looks g c = looks_on g.D.Disk c.args.disk.now c.loop.disk c.count_round.new.disk c.loop.invariant.looks c.count_round.ensures.looks

pub loop-preserved : goal.loop-preserved
loop-preserved g c = record {
  looks = looks_on g.D.Disk c.args.disk.now c.loop.disk c.count_round.new.disk c.loop.invariant.looks c.count_round.ensures.looks;
  quiet = c.in_ok-counted.ensures.quiet ∙ c.loop.invariant.quiet;
  long = c.in_ok-counted.ensures.len ∙ c.loop.invariant.long;
  many = c.in_ok-counted.ensures.next_len ∙ c.loop.invariant.many;
  jobs = λ tells.
      let files : Files = contents_of (g.D.Disk.held c.args.disk.now) in
      let lead : LeadOn files c.args.meta.now c.args.from c.args.to c.loop.jobs.items c.in_ok-counted.counted.items =
      subst (λ h. LeadOn (contents_of h) c.args.meta.now c.args.from c.args.to c.loop.jobs.items c.in_ok-counted.counted.items) (c.loop.invariant.looks.held tells) (c.in_ok-counted.ensures.on tells) in
      next_lead files c.args.meta.now c.args.from c.args.to c.args.volumes.now c.args.index c.loop.jobs.items c.in_ok-counted.counted.items (omega (arith, c.in_ok-counted.ensures.len)) lead (c.loop.invariant.jobs tells);
  next = λ tells.
      let files : Files = contents_of (g.D.Disk.held c.args.disk.now) in
      let lead : LeadOn files c.args.meta.now c.args.from c.args.to c.loop.next.items c.in_ok-counted.begun.items =
      subst (λ h. LeadOn (contents_of h) c.args.meta.now c.args.from c.args.to c.loop.next.items c.in_ok-counted.begun.items) (c.loop.invariant.looks.held tells) (c.in_ok-counted.ensures.next tells) in
      next_lead files c.args.meta.now c.args.from c.args.to c.args.volumes.now (c.args.index + vec_len c.args.jobs) c.loop.next.items c.in_ok-counted.begun.items (omega (arith, c.in_ok-counted.ensures.next_len)) lead (c.loop.invariant.next tells);
}
