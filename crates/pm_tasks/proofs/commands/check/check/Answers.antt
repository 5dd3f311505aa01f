-- The command meets its meaning, whatever is called its input.
use Rattle.std.proofs.Common.{refl}
use Rattle.pm_tasks.specs.Archives.{nothing_before, takes_any}
use Rattle.pm_tasks.specs.commands.check.{IsTurnedAway, IsOutput}
use Rattle.pm_tasks.proofs.Lookings.{check_fits, look_meets}
use Rattle.pm_tasks.proofs.commands.check.check.Goals as goal

pub returns : goal.returns
returns g c = record {
  meets = λ input.
      look_meets IsTurnedAway IsOutput nothing_before takes_any check_fits g.D.Disk input c.args.disk.now c.judge.new.disk c.judge.ensures.looks (λ tells. tt) c.judge.result c.judge.ensures.quiet refl c.judge.ensures.said c.judge.ensures.turned;
}
