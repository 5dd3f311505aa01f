-- Each push goes on where the one before it ended.
use Rattle.rule_watch.proofs.Pushes.{pushes_tell}
use Rattle.rule_watch.proofs.laws.pushes_tell.Goals as goal

pub returns : goal.returns
returns c = pushes_tell
