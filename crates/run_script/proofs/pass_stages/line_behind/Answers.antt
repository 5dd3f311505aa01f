-- The last step's line.
use Rattle.std.proofs.Common.{◌+◌, ◌-◌, length, ap, ◌∙◌, arith}
use Rattle.run_script.proofs.Stages.{last_line}
use Rattle.run_script.proofs.pass_stages.line_behind.Goals as goal

pub returns-in-Some : goal.returns-in-Some
returns-in-Some c =
    let some = c.in-Some.ensures.item.3.0 in
    ap (λ n. n + 1) c.from.ensures ∙ last_line c.args.steps.now (length c.args.steps.now - 1) c.in-Some.field-0.now (omega arith) c.in-Some.ensures.value
