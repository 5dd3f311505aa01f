use Rattle.run_script.proofs.Ruled.{scripts_are_ruled}
use Rattle.pm_runs.proofs.commands.replay.read_script.Goals as goal

pub returns-in-Ok-clause-rules : goal.returns-in-Ok-clause-rules
returns-in-Ok-clause-rules c = scripts_are_ruled c.args.input.now c.in-Ok.script c.in-Ok.ensures
