-- Each part is read again, and what it leaves is the next; so is each line.
use Rattle.rule_watch.proofs.RuleTexts.{texts_read}
use Rattle.rule_watch.proofs.RulesRead.{rules_read}
use Rattle.rule_watch.proofs.laws.rules_are_read.Goals as goal

pub returns-clause-rule : goal.returns-clause-rule
returns-clause-rule c = rules_read

pub returns-clause-text : goal.returns-clause-text
returns-clause-text c = texts_read
