-- Each part that is read is in its range, and is what is written of it.
use Rattle.rule_watch.proofs.RulesSpelled.{rules_spelled}
use Rattle.rule_watch.proofs.RulesWritten.{rules_written}
use Rattle.rule_watch.proofs.laws.only_rules_are_read.Goals as goal

pub returns-clause-rules : goal.returns-clause-rules
returns-clause-rules c = rules_written

pub returns-clause-spelling : goal.returns-clause-spelling
returns-clause-spelling c = rules_spelled
