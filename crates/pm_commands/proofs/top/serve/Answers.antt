-- What each command answers, told of the command that was asked for.
use Rattle.std.proofs.Common.{refl}
use Rattle.pcp_outside.specs.Sides.{sink_side}
use Rattle.pm_tasks.specs.commands.mmv_dump as mmv_dump
use Rattle.pm_tasks.specs.commands.mmv_lift as mmv_lift
use Rattle.pm_tasks.specs.commands.mmv_make as mmv_make
use Rattle.pm_tasks.proofs.Converted.{converted}
use Rattle.pm_commands.proofs.Served.{quietly, sending, without_regions}
use Rattle.pm_commands.proofs.top.serve.Goals as goal

pub returns-in-Once : goal.returns-in-Once
returns-in-Once g c = record { meets = quietly g.O.Sink c.args.out.now c.args.failed.now c.requires.fresh c.args.input.now g.D.Disk c.args.disk.now c.once.new.disk c.once.new.opened c.once.result _ c.args.command.now c.in-Once.is c.once.ensures.meets }

pub returns-in-Make : goal.returns-in-Make
returns-in-Make g c = record { meets = quietly g.O.Sink c.args.out.now c.args.failed.now c.requires.fresh c.args.input.now g.D.Disk c.args.disk.now c.make.new.disk c.make.new.opened c.make.result _ c.args.command.now c.in-Make.is (c.make.ensures.meets c.args.input.now) }

pub returns-in-Replay : goal.returns-in-Replay
returns-in-Replay g c = record { meets = sending (sink_side g.O.Sink c.args.out.now c.replay.new.out) c.replay.new.failed c.args.input.now g.D.Disk c.args.disk.now c.replay.new.disk c.replay.new.opened c.replay.new.opened c.replay.result _ c.args.command.now c.in-Replay.is refl c.replay.ensures.meets }

pub returns-in-Dump : goal.returns-in-Dump
returns-in-Dump g c = record { meets = sending (sink_side g.O.Sink c.args.out.now c.dump.new.out) c.dump.new.failed c.args.input.now g.D.Disk c.args.disk.now c.dump.new.disk c.args.opened.now _ c.dump.result _ c.args.command.now c.in-Dump.is c.requires.closed (c.dump.ensures.meets c.args.input.now) }

pub returns-in-Info : goal.returns-in-Info
returns-in-Info g c = record { meets = without_regions g.O.Sink c.args.out.now c.args.failed.now c.requires.fresh c.args.input.now g.D.Disk c.args.disk.now c.info.new.disk c.args.opened.now c.info.result _ c.args.command.now c.in-Info.is c.requires.closed (c.info.ensures.meets c.args.input.now) }

pub returns-in-Check : goal.returns-in-Check
returns-in-Check g c = record { meets = without_regions g.O.Sink c.args.out.now c.args.failed.now c.requires.fresh c.args.input.now g.D.Disk c.args.disk.now c.check.new.disk c.args.opened.now c.check.result _ c.args.command.now c.in-Check.is c.requires.closed (c.check.ensures.meets c.args.input.now) }

pub returns-in-Recover : goal.returns-in-Recover
returns-in-Recover g c = record { meets = without_regions g.O.Sink c.args.out.now c.args.failed.now c.requires.fresh c.args.input.now g.D.Disk c.args.disk.now c.recover.new.disk c.args.opened.now c.recover.result _ c.args.command.now c.in-Recover.is c.requires.closed (c.recover.ensures.meets c.args.input.now) }

pub returns-in-Retire : goal.returns-in-Retire
returns-in-Retire g c = record { meets = without_regions g.O.Sink c.args.out.now c.args.failed.now c.requires.fresh c.args.input.now g.D.Disk c.args.disk.now c.retire.new.disk c.args.opened.now c.retire.result _ c.args.command.now c.in-Retire.is c.requires.closed (c.retire.ensures.meets c.args.input.now) }

pub returns-in-At : goal.returns-in-At
returns-in-At g c = record { meets = without_regions g.O.Sink c.args.out.now c.args.failed.now c.requires.fresh c.args.input.now g.D.Disk c.args.disk.now c.at.new.disk c.args.opened.now c.at.result _ c.args.command.now c.in-At.is c.requires.closed (c.at.ensures.meets c.args.input.now) }

pub returns-in-Range : goal.returns-in-Range
returns-in-Range g c = record { meets = without_regions g.O.Sink c.args.out.now c.args.failed.now c.requires.fresh c.args.input.now g.D.Disk c.args.disk.now c.range.new.disk c.args.opened.now c.range.result _ c.args.command.now c.in-Range.is c.requires.closed (c.range.ensures.meets c.args.input.now) }

pub returns-in-Watch : goal.returns-in-Watch
returns-in-Watch g c = record { meets = sending (sink_side g.O.Sink c.args.out.now c.watch.new.out) c.watch.new.failed c.args.input.now g.D.Disk c.args.disk.now c.watch.new.disk c.args.opened.now _ c.watch.result _ c.args.command.now c.in-Watch.is c.requires.closed c.watch.ensures.meets }

pub returns-in-Value : goal.returns-in-Value
returns-in-Value g c = record { meets = without_regions g.O.Sink c.args.out.now c.args.failed.now c.requires.fresh c.args.input.now g.D.Disk c.args.disk.now c.value.new.disk c.args.opened.now c.value.result _ c.args.command.now c.in-Value.is c.requires.closed (c.value.ensures.meets c.args.input.now) }

pub returns-in-MmvMake : goal.returns-in-MmvMake
returns-in-MmvMake g c = record {
  meets = without_regions g.O.Sink c.args.out.now c.args.failed.now c.requires.fresh c.args.input.now g.D.Disk c.args.disk.now c.args.disk.now c.args.opened.now c.mmv_make.result _ c.args.command.now c.in-MmvMake.is c.requires.closed
      (converted mmv_make.refuses mmv_make.makes c.args.input.now g.D.Disk c.args.disk.now c.mmv_make.result g.met.D.Disk.only_now c.mmv_make.ensures.converts);
}

pub returns-in-MmvDump : goal.returns-in-MmvDump
returns-in-MmvDump g c = record {
  meets = without_regions g.O.Sink c.args.out.now c.args.failed.now c.requires.fresh c.args.input.now g.D.Disk c.args.disk.now c.args.disk.now c.args.opened.now c.mmv_dump.result _ c.args.command.now c.in-MmvDump.is c.requires.closed
      (converted mmv_dump.refuses mmv_dump.makes c.args.input.now g.D.Disk c.args.disk.now c.mmv_dump.result g.met.D.Disk.only_now c.mmv_dump.ensures.converts);
}

pub returns-in-MmvLift : goal.returns-in-MmvLift
returns-in-MmvLift g c = record {
  meets = without_regions g.O.Sink c.args.out.now c.args.failed.now c.requires.fresh c.args.input.now g.D.Disk c.args.disk.now c.args.disk.now c.args.opened.now c.mmv_lift.result _ c.args.command.now c.in-MmvLift.is c.requires.closed
      (converted mmv_lift.refuses mmv_lift.makes c.args.input.now g.D.Disk c.args.disk.now c.mmv_lift.result g.met.D.Disk.only_now c.mmv_lift.ensures.converts);
}
