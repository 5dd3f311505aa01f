-- The command meets its meaning, whatever is called its input.
use Rattle.std.proofs.Common.{refl}
use Rattle.pm_tasks.specs.Archives.{nothing_before, takes_any}
use Rattle.pm_tasks.specs.commands.info.{IsTurnedAway, IsOutput}
use Rattle.pm_tasks.proofs.Lookings.{info_fits, look_meets}
use Rattle.pm_tasks.proofs.commands.info.info.Goals as goal

pub returns : goal.returns
returns g c = record {
  meets = λ input.
      look_meets IsTurnedAway IsOutput nothing_before takes_any info_fits g.D.Disk input c.args.disk.now c.find_descriptions.new.disk c.find_descriptions.ensures.looks (λ tells. tt) c.find_descriptions.result c.find_descriptions.ensures.quiet refl c.find_descriptions.ensures.said c.find_descriptions.ensures.turned;
}
