use Rattle.pcp_model.specs.Disk.{contents_of}
use Rattle.archive_check.specs.Marks.{mark_at}
use Rattle.archive_check.proofs.Judging.{by_missing, by_early, by_none}
use Rattle.archive_check.proofs.verdict.entry_fault.Goals as goal

pub returns-in-Some-clause-found : goal.returns-in-Some-clause-found
returns-in-Some-clause-found g c = λ tells d seen.
    by_missing (contents_of (g.D.Disk.held c.args.disk.now)) d c.args.volumes.now c.args.index.now (mark_at c.args.marks.now) seen c.top_of-top.result c.top_of-top.ensures c.first_bad.result c.in-Some.at c.in-Some.entry c.in-Some.is c.first_bad.ensures c.see.result c.see.ensures
    c.in_ok-fault.fault (c.in_ok-fault.ensures.fault tells)

pub returns-in-Some-first_bad-clause-found : goal.returns-in-Some-first_bad-clause-found
returns-in-Some-first_bad-clause-found g c = λ tells d seen.
    by_early (contents_of (g.D.Disk.held c.args.disk.now)) d c.args.volumes.now c.args.index.now (mark_at c.args.marks.now) seen c.top_of-top.result c.top_of-top.ensures c.first_bad.result c.in_default.is c.first_bad.ensures c.first_bad-2.result c.in-Some-first_bad.at
    c.in-Some-first_bad.entry c.in-Some-first_bad.is c.first_bad-2.ensures c.see-seen.result c.see-seen.ensures c.in_ok-fault-2.fault (c.in_ok-fault-2.ensures.fault tells)

pub returns-clause-found : goal.returns-clause-found
returns-clause-found g c = λ tells d seen.
    by_none (contents_of (g.D.Disk.held c.args.disk.now)) d c.args.volumes.now c.args.index.now (mark_at c.args.marks.now) seen c.top_of-top.result c.top_of-top.ensures c.first_bad.result c.in_default.is c.first_bad.ensures c.first_bad-2.result c.in_default-first_bad.is c.first_bad-2.ensures
