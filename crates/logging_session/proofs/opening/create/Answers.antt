use Rattle.logger_core.specs.Created.{HasNoItem}
use Rattle.logger_core.proofs.Calls.{no_call}
use Rattle.logger_core.proofs.NoItems.{nothing_left}
use Rattle.logging_session.proofs.opening.create.Goals as goal

pub returns-in_err-label-clause-any_moment : goal.returns-in_err-label-clause-any_moment
returns-in_err-label-clause-any_moment g c = λ tells empty.
    no_call g.D.Disk g.met.D.Disk.only_now c.args.disk.now HasNoItem (nothing_left (g.D.Disk.held c.args.disk.now) empty)
