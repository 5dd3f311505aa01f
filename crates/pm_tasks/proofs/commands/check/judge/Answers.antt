-- The count of a sound archive, or why the check was refused.
use Rattle.std.proofs.Common.{rules}
use Rattle.pm_tasks.proofs.Checked.{check_turned}
use Rattle.pm_tasks.proofs.commands.check.judge.Goals as goal

pub returns-in_err-items-clause-turned : goal.returns-in_err-items-clause-turned
returns-in_err-items-clause-turned g c =
    let away = check_turned g.D.Disk c.args.disk.now c.check.new.disk c.in_err-items.field-0.0 c.in_err-items.ensures.fault c.in_err-items.ensures.cause in
    search (rules, away)

pub returns-clause-said : goal.returns-clause-said
returns-clause-said g c = λ tells. (c.in_ok-items.ensures.unwrapped tells, c.in_ok-items.items, c.in_ok-items.ensures.sound tells, c.in_ok-line.ensures)
