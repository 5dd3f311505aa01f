-- More is read of the jobs that are counted, or of those behind them.
use Rattle.std.proofs.Common.{rules, sym, subst}
use Rattle.std.specs.List.{AllByRecursion}
use Rattle.pcp_model.specs.Disk.{Files, contents_of}
use Rattle.log_summary.specs.Jobs.{AreRead, IsWithin}
use Rattle.log_summary.proofs.Rounds.{lead_counted, lead_counted_read, lead_read}
use Rattle.log_summary.proofs.jobs.count_round.Goals as goal

pub count_and_read-requires-after_bounds : goal.count_and_read-requires-after_bounds
count_and_read-requires-after_bounds g c =
    let files : Files = contents_of (g.D.Disk.held c.args.disk.now) in
    let within : g.D.Disk.tells → AllByRecursion (IsWithin files) c.deref-then-not-are_all_read.result.now = λ tells.
    subst (AllByRecursion (IsWithin files)) (sym c.deref-then-not-are_all_read.ensures.value) (c.in_ok-wants.ensures files (subst (AreRead files) (sym c.deref.ensures.value) (c.requires.read tells))) in
    search (rules, within)

pub count_and_read-requires-2-after_bounds : goal.count_and_read-requires-2-after_bounds
count_and_read-requires-2-after_bounds g c =
    let files : Files = contents_of (g.D.Disk.held c.args.disk.now) in
    let within : g.D.Disk.tells → AllByRecursion (IsWithin files) c.deref-4.result.now = λ tells.
    subst (AllByRecursion (IsWithin files)) (sym c.deref-4.ensures.value) (c.in_ok-firsts.ensures files (subst (AreRead files) (sym c.deref-3.ensures.value) (c.requires.next tells))) in
    search (rules, within)

pub returns-then-not-are_all_read-clause-on : goal.returns-then-not-are_all_read-clause-on
returns-then-not-are_all_read-clause-on g c = λ tells.
    let files : Files = contents_of (g.D.Disk.held c.args.disk.now) in
    lead_counted_read files c.args.meta.now c.args.from c.args.to c.args.jobs.items c.in_ok-counted.counted.items c.in_ok-more.more.items c.in_ok-counted.pieces.items c.in_ok-counted.ensures.on
    (λ read stand. c.in_ok-more.ensures.on files read stand) (c.in_ok-counted.ensures.pieces tells)

pub returns-clause-on : goal.returns-clause-on
returns-clause-on g c = λ tells.
    lead_counted (contents_of (g.D.Disk.held c.args.disk.now)) c.args.meta.now c.args.from c.args.to c.args.jobs.items c.in_ok-counted-2.counted.items c.in_ok-counted-2.ensures.on

pub returns-clause-next : goal.returns-clause-next
returns-clause-next g c = λ tells.
    let files : Files = contents_of (g.D.Disk.held c.args.disk.now) in
    lead_read files c.args.meta.now c.args.from c.args.to c.args.next.items c.in_ok-begun.begun.items (c.in_ok-begun.ensures.on files (c.requires.next tells) (c.in_ok-counted-2.ensures.pieces tells))
