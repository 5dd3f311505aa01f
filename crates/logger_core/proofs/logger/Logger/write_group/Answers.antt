-- The runs are written, and let go.
use Rattle.logger_core.specs.Grouping.{samples_of}
use Rattle.logger_core.specs.Runs.{SurvivesWith}
use Rattle.logger_core.proofs.Calls.{no_call}
use Rattle.logger_core.proofs.Loggable.{survives_more}
use Rattle.logger_core.proofs.Rests.{image_survives}
use Rattle.logger_core.proofs.logger.Logger.write_group.Goals as goal

pub returns-then-self-clause-any_moment : goal.returns-then-self-clause-any_moment
returns-then-self-clause-any_moment g c = λ tells m limit pending now after at same all enough.
    let d = g.D.Disk in
    no_call d g.met.D.Disk.only_now c.args.disk.now (SurvivesWith m (samples_of pending)) (λ image crash. survives_more m (samples_of pending) image (image_survives m c.args.self.now.ends.volume (d.held c.args.disk.now) at.stands image crash))
