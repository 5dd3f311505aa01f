-- The command meets its meaning, whatever is called its input.
use Rattle.std.proofs.Common.{refl}
use Rattle.pm_tasks.specs.Archives.{nothing_before}
use Rattle.pm_tasks.specs.Takes.{TookRange}
use Rattle.pm_tasks.specs.commands.range.{IsTurnedAway, IsOutput}
use Rattle.pm_tasks.proofs.Lookings.{range_fits, look_meets}
use Rattle.pm_tasks.proofs.commands.range.range.Goals as goal

pub returns : goal.returns
returns g c = record {
  meets = λ input.
      look_meets (IsTurnedAway c.args.from c.args.to) (IsOutput c.args.from c.args.to) nothing_before (TookRange c.args.from c.args.to) (range_fits c.args.from c.args.to) g.D.Disk input c.args.disk.now c.find_items.new.disk c.find_items.ensures.looks c.find_items.ensures.taken
      c.find_items.result c.find_items.ensures.quiet refl c.find_items.ensures.said c.find_items.ensures.turned;
}
