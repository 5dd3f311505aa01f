-- The labels stand, and the logger keeps their archive.
use Rattle.logger_core.specs.Created.{HasNoItem}
use Rattle.logger_core.proofs.Calls.{no_call}
use Rattle.logger_core.proofs.NewArchive.{created_is}
use Rattle.logger_core.proofs.NoItems.{nothing_left}
use Rattle.logger_core.proofs.logger.Logger.create.Goals as goal

pub returns-in_err-copy-clause-any_moment : goal.returns-in_err-copy-clause-any_moment
returns-in_err-copy-clause-any_moment g c = λ tells empty.
    no_call g.D.Disk g.met.D.Disk.only_now c.args.disk.now HasNoItem (nothing_left (g.D.Disk.held c.args.disk.now) empty)

pub returns-in-Ok-clause-created : goal.returns-in-Ok-clause-created
returns-in-Ok-clause-created g c = λ tells empty.
    created_is c.args.label.now c.in_ok-copy.copy c.args.volume c.empty-meta.result c.new_logger.result (g.D.Disk.held c.write_labels.new.disk) c.in_ok-copy.ensures c.write_labels.ensures.range (c.in-Ok.ensures.ok tells empty) c.empty-meta.ensures c.new_logger.ensures
