-- The number of the line behind the last.
use Rattle.std.proofs.Common.{◌≡◌, ◌+◌, ◌-◌, length, sym, arith}
use Rattle.script_runs.specs.Runs.{line_behind}
use Rattle.record_run.proofs.Ran.{behind_is}
use Rattle.record_run.proofs.steps.line_behind.Goals as goal

pub returns-in-Some : goal.returns-in-Some
returns-in-Some c =
    let n = length c.args.steps.now in
    let e : line_behind c.args.steps.now ≡ c.in-Some.field-0.now.0 + 1 = behind_is c.args.steps.now (n - 1) c.in-Some.field-0.now (omega arith) (sym c.in-Some.ensures.value) in
    grind (arith, e)
