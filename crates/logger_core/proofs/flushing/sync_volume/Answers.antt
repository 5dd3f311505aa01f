-- The volume is synced.
use Rattle.pcp_base.specs.declared.file.FileId.TheVariants.{Volume}
use Rattle.std.proofs.Common.{sym, subst}
use Rattle.logger_core.specs.declared.ends.Ends.{Ends}
use Rattle.logger_core.specs.Going.{all_acknowledged}
use Rattle.logger_core.specs.Meant.{IsAt, SurvivesOf}
use Rattle.logger_core.proofs.Calls.{one_sync}
use Rattle.logger_core.proofs.Growing.{grows_sync}
use Rattle.logger_core.proofs.Rests.{image_survives, synced_at}
use Rattle.logger_core.proofs.AtMost.{most_synced}
use Rattle.logger_core.proofs.flushing.sync_volume.Goals as goal

pub returns-in_err-sync-clause-any_moment : goal.returns-in_err-sync-clause-any_moment
returns-in_err-sync-clause-any_moment g c = λ tells m at.
    let d = g.D.Disk in
    let n = c.args.ends.now.volume in
    one_sync d g.met.D.Disk.only_now c.args.disk.now c.sync.new.self (SurvivesOf m) (Volume n) c.sync.result c.sync.ensures.time (c.sync.ensures.held tells) (image_survives m n (d.held c.args.disk.now) at.stands)

pub returns-clause-any_moment : goal.returns-clause-any_moment
returns-clause-any_moment g c = λ tells m at.
    let d = g.D.Disk in
    let n = c.args.ends.now.volume in
    one_sync d g.met.D.Disk.only_now c.args.disk.now c.sync.new.self (SurvivesOf m) (Volume n) c.sync.result c.sync.ensures.time (c.sync.ensures.held tells) (image_survives m n (d.held c.args.disk.now) at.stands)

pub returns-clause-ok : goal.returns-clause-ok
returns-clause-ok g c = λ tells m at.
    let d = g.D.Disk in
    subst (λ (e : Ends). IsAt (all_acknowledged m) e (d.held c.sync.new.self)) (sym c.all_counted.ensures) (synced_at m c.args.ends.now (d.held c.args.disk.now) (d.held c.sync.new.self) at (c.in_ok-sync.ensures.held tells))

pub returns-in_err-sync-clause-grows : goal.returns-in_err-sync-clause-grows
returns-in_err-sync-clause-grows g c = λ tells.
    let d = g.D.Disk in
    grows_sync (Volume c.args.ends.now.volume) (d.held c.args.disk.now) (d.held c.sync.new.self) c.sync.result (c.sync.ensures.held tells)

pub returns-clause-grows : goal.returns-clause-grows
returns-clause-grows g c = λ tells.
    let d = g.D.Disk in
    grows_sync (Volume c.args.ends.now.volume) (d.held c.args.disk.now) (d.held c.sync.new.self) c.sync.result (c.sync.ensures.held tells)

pub returns-in_err-sync-clause-most : goal.returns-in_err-sync-clause-most
returns-in_err-sync-clause-most g c = λ tells files are.
    let d = g.D.Disk in
    most_synced files (d.held c.args.disk.now) (d.held c.sync.new.self) are (Volume c.args.ends.now.volume) c.sync.result (c.sync.ensures.held tells)

pub returns-clause-most : goal.returns-clause-most
returns-clause-most g c = λ tells files are.
    let d = g.D.Disk in
    most_synced files (d.held c.args.disk.now) (d.held c.sync.new.self) are (Volume c.args.ends.now.volume) c.sync.result (c.sync.ensures.held tells)
