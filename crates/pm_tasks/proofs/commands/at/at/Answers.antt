-- The command meets its meaning, whatever is called its input.
use Rattle.std.proofs.Common.{refl}
use Rattle.pm_tasks.specs.Archives.{nothing_before}
use Rattle.pm_tasks.specs.Takes.{TookAt}
use Rattle.pm_tasks.specs.commands.at.{IsTurnedAway, IsOutput}
use Rattle.pm_tasks.proofs.Lookings.{at_fits, look_meets}
use Rattle.pm_tasks.proofs.commands.at.at.Goals as goal

pub returns : goal.returns
returns g c = record {
  meets = λ input.
      look_meets (IsTurnedAway c.args.t) (IsOutput c.args.t) nothing_before (TookAt c.args.t) (at_fits c.args.t) g.D.Disk input c.args.disk.now c.find_item.new.disk c.find_item.ensures.looks c.find_item.ensures.taken c.find_item.result c.find_item.ensures.quiet refl c.find_item.ensures.said
      c.find_item.ensures.turned;
}
