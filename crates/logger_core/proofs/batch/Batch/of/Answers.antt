-- It holds nothing.
use Rattle.logger_core.specs.Holding.{HeldBack}
use Rattle.logger_core.proofs.Holds.{holds_nothing}
use Rattle.logger_core.proofs.batch.Batch.of.Goals as goal

pub returns-clause-holding : goal.returns-clause-holding
returns-clause-holding c = λ m held l.
    let b : HeldBack = record { kept = c.args.logger; runs = c.empty.result; planned = c.ends-planned.result } in
    holds_nothing m b held l c.empty.ensures c.ends-planned.ensures.value
