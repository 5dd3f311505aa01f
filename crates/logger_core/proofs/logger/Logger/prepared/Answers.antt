-- What is made of a result that may be logged.
use Rattle.std.proofs.Common.{subst}
use Rattle.logger_core.specs.Meant.{Kept}
use Rattle.logger_core.specs.Writing.{IsBounded}
use Rattle.logger_core.proofs.Refused.{bounded}
use Rattle.logger_core.proofs.logger.Logger.prepared.Goals as goal

pub returns-clause-bounded : goal.returns-clause-bounded
returns-clause-bounded c =
    subst (λ (k : Kept). IsBounded k.ends c.in_ok-made.made) c.self.view_is
    (bounded c.self.inside.meta c.self.inside.ends c.self.inside.limit c.args.answer.now c.args.facts.now c.in_ok-made.made c.self.invariant.small c.self.invariant.limited c.in_ok-made.ensures.made)
