-- A file that is cut, or not yet.
use Rattle.pcp_outside.proofs.Crash.{started, after_cut}
use Rattle.archive_recovery.specs.Mending.{MayBeCut}
use Rattle.archive_recovery.proofs.Moments.{uncut_image, cut_image}
use Rattle.archive_recovery.proofs.mending.cut_tail.Goals as goal

pub returns-then-tail-clause-any_moment : goal.returns-then-tail-clause-any_moment
returns-then-tail-clause-any_moment g c = λ tells.
    let d = g.D.Disk in
    started d.moment d.left_since d.held g.met.D.Disk.only_now c.args.disk.now (MayBeCut c.args.file c.args.tail.end (d.held c.args.disk.now)) (uncut_image c.args.file c.args.tail.end (d.held c.args.disk.now))

pub returns-clause-any_moment : goal.returns-clause-any_moment
returns-clause-any_moment g c = λ tells.
    let d = g.D.Disk in
    let good = uncut_image c.args.file c.args.tail.end (d.held c.args.disk.now) in
    after_cut d.moment d.left_since d.held c.args.disk.now c.args.disk.now c.cut.new.self (MayBeCut c.args.file c.args.tail.end (d.held c.args.disk.now)) c.args.file c.args.tail.end c.cut.result
    (started d.moment d.left_since d.held g.met.D.Disk.only_now c.args.disk.now (MayBeCut c.args.file c.args.tail.end (d.held c.args.disk.now)) good)
    c.cut.ensures.time (c.cut.ensures.held tells) good (λ change image left. cut_image c.args.file c.args.tail.end (d.held c.args.disk.now) (d.held c.cut.new.self) change image left)
