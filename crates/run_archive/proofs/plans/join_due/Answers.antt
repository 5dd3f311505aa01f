-- One group more is joined, and in the end all are.
use Rattle.std.proofs.Common.{◌<◌, ◌≤◌, length, arith}
use Rattle.run_archive.specs.Plans.{plans_of}
use Rattle.script_runs.specs.Groups.{asked_for}
use Rattle.run_archive.proofs.Beside.{join_end, join_step}
use Rattle.run_archive.proofs.plans.join_due.Goals as goal

pub loop-at-preserved : goal.loop-at-preserved
loop-at-preserved c =
    let gs = c.args.groups.now in
    let ts = c.args.timetables.now in
    let ms = c.args.asked.now in
    let low : c.loop-at.at < length gs = omega arith in
    join_step c.args.now gs ts ms c.loop-at.at c.loop-at.all c.index-asked-at.result c.add_if.new.all (asked_for c.args.now (plans_of gs ts ms)) c.is_due-is_due.result c.requires low c.is_due-is_due.ensures c.index-asked-at.is c.in_ok-add_if.ensures c.loop-at.invariant

pub returns : goal.returns
returns c =
    let gs = c.args.groups.now in
    let ts = c.args.timetables.now in
    let ms = c.args.asked.now in
    let high : length gs ≤ c.loop-at.at = omega arith in
    join_end c.args.now gs ts ms c.loop-at.at c.loop-at.all (asked_for c.args.now (plans_of gs ts ms)) high c.loop-at.invariant
