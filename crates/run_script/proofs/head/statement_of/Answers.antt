-- Bytes with a fault are no statement.
use Rattle.std.proofs.Common.{subst}
use Rattle.log_schedule.specs.Refusals.{IsRefusal}
use Rattle.run_script.proofs.Statements.{no_group}
use Rattle.run_script.proofs.head.statement_of.Goals as goal

pub returns-in-Err-Grammar : goal.returns-in-Err-Grammar
returns-in-Err-Grammar c =
    no_group c.args.line.now c.in-Err-Grammar.field-0-0 (subst (IsRefusal c.args.line.now) c.in-Err-Grammar.field-0-is c.in-Err-Grammar.ensures.fault)
