-- What the files come to.
use Rattle.pm_summing.proofs.Coming.{came_to}
use Rattle.pm_summing.proofs.top.sum_up.Goals as goal

pub returns-clause-came : goal.returns-clause-came
returns-clause-came g c =
    let s = c.summarize in
    came_to g.D.Disk c.args.disk.now s.new.disk c.args.asked.now.from c.args.asked.now.to s.result s.ensures.summary s.ensures.unwrapped s.ensures.fault s.ensures.cause s.ensures.quiet
