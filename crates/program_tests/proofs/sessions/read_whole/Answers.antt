-- A script that is read keeps the rules.
use Rattle.run_script.proofs.Ruled.{scripts_are_ruled}
use Rattle.program_tests.proofs.sessions.read_whole.Goals as goal

pub returns : goal.returns
returns c = scripts_are_ruled c.args.text.now c.in_ok-script.script c.in_ok-script.ensures
