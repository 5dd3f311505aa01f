-- The command meets its meaning, whatever is called its input.
use Rattle.pcp_outside.specs.Sides.{sink_side}
use Rattle.pm_tasks.proofs.Lookings.{dump_meets}
use Rattle.pm_tasks.proofs.commands.dump.dump.Goals as goal

pub returns : goal.returns
returns g c = record {
  meets = λ input.
      dump_meets g.D.Disk input (sink_side g.O.Sink c.args.out.now c.put_archive.new.out) c.put_archive.new.failed c.args.disk.now c.put_archive.new.disk c.put_archive.result c.put_archive.ensures.looks c.put_archive.ensures.quiet c.put_archive.ensures.said c.put_archive.ensures.stops c.put_archive.ensures.turned;
}
