-- The command meets its meaning, whatever is called its input.
use Rattle.std.proofs.Common.{refl}
use Rattle.pm_tasks.specs.Archives.{nothing_before, takes_any}
use Rattle.pm_tasks.specs.commands.value.{IsTurnedAway, IsOutput}
use Rattle.pm_tasks.proofs.Lookings.{value_fits, look_meets}
use Rattle.pm_tasks.proofs.commands.value.value.Goals as goal

pub returns : goal.returns
returns g c = record {
  meets = λ input.
      look_meets (IsTurnedAway c.args.asked.now) (IsOutput c.args.asked.now) nothing_before takes_any (value_fits c.args.asked.now) g.D.Disk input c.args.disk.now c.find_values.new.disk c.find_values.ensures.looks (λ tells. tt) c.find_values.result c.find_values.ensures.quiet refl c.find_values.ensures.said
      c.find_values.ensures.turned;
}
