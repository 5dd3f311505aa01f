-- The rules of the numbers so far are told, and those left are to come.
use Rattle.std.proofs.Common.{drop}
use Rattle.rule_watch.specs.Shown.{rules_of}
use Rattle.pm_tasks.proofs.Firings.{TellingOn}
use Rattle.pm_tasks.proofs.commands.watch.tell_rules.Given as goal

abbrev pub invariant-loop-number : goal.invariant-loop-number
invariant-loop-number l = TellingOn l.stamp (rules_of l.watch) l.numbers (drop l.number-index l.numbers) l.fn.told l.told
