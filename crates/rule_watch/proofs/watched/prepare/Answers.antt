-- The values are those of the condition's group.
use Rattle.std.proofs.Common.{subst}
use Rattle.rule_watch.specs.Groups.{Group}
use Rattle.rule_watch.specs.Watched.{HasWindows}
use Rattle.rule_watch.proofs.Watching.{on_ok}
use Rattle.rule_watch.proofs.watched.prepare.Goals as goal

pub returns-clause-ready : goal.returns-clause-ready
returns-clause-ready c =
    on_ok c.make_windows.result (λ has. record { windows = subst (λ (values : Group). HasWindows c.make_windows.new.windows values) c.values-values.ensures has }) c.make_windows.ensures.windows
