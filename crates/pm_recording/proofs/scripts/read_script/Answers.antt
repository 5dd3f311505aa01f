-- A script that is read keeps the rules.
use Rattle.run_script.proofs.Ruled.{scripts_are_ruled}
use Rattle.pm_recording.proofs.scripts.read_script.Goals as goal

pub for_record-requires : goal.for_record-requires
for_record-requires c = record { rules = scripts_are_ruled c.args.input.now c.in-Ok.script c.in-Ok.ensures }

pub returns-in-Ok-for_record-clause-rules : goal.returns-in-Ok-for_record-clause-rules
returns-in-Ok-for_record-clause-rules c = scripts_are_ruled c.args.input.now c.in-Ok.script c.in-Ok.ensures
