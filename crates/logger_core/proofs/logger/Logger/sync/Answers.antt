-- The volume that is written is synced.
use Rattle.logger_core.specs.Meant.{Kept, SurvivesOf}
use Rattle.logger_core.proofs.Calls.{no_call}
use Rattle.logger_core.proofs.Keeping.{synced_for}
use Rattle.logger_core.proofs.Rests.{image_survives}
use Rattle.logger_core.proofs.logger.Logger.sync.Goals as goal

pub returns-then-self-clause-any_moment : goal.returns-then-self-clause-any_moment
returns-then-self-clause-any_moment g c = λ tells m l.
    no_call g.D.Disk g.met.D.Disk.only_now c.args.disk.now (SurvivesOf m) (image_survives m c.args.self.now.ends.volume (g.D.Disk.held c.args.disk.now) l.at.stands)

pub returns-in-Ok-clause-done : goal.returns-in-Ok-clause-done
returns-in-Ok-clause-done g c = λ tells m l.
    let d = g.D.Disk in
    let inside : Kept = record { label = c.self.inside.label; records = c.self.inside.meta; ends = c.self.inside.ends; limit = c.self.inside.limit; closed = c.self.inside.closed } in
    synced_for m c.args.self.now inside c.self.view_is c.in-Ok.ends (d.held c.args.disk.now) (d.held c.sync_volume.new.disk) l (λ at. c.in-Ok.ensures.ok tells m at)
