-- The script of an image keeps the rules.
use Rattle.std.proofs.Common.{sym, subst}
use Rattle.run_script.specs.Rules.{KeepsRules}
use Rattle.pm_runs.proofs.OneImage.{once_is_ruled}
use Rattle.pm_runs.proofs.commands.once.prepare.Goals as goal

pub returns-clause-rules : goal.returns-clause-rules
returns-clause-rules c = subst KeepsRules (sym c.in_ok-script.ensures.script) (once_is_ruled c.args.asked.now.stamp c.args.asked.now.file _ c.requires.named c.in_ok-script.ensures.bound)
