-- All groups were asked.
use Rattle.std.proofs.Common.{◌∙◌, arith}
use Rattle.run_archive.proofs.Beside.{all_asked}
use Rattle.run_archive.proofs.plans.ask_all.Goals as goal

pub returns-clause-plans : goal.returns-clause-plans
returns-clause-plans c =
    let i = c.loop-at.invariant in
    all_asked c.args.names.now c.args.now c.args.groups.now c.args.timetables.now c.args.asked.now c.loop-at.asked c.requires.timed c.requires.kept (i.many ∙ c.requires.kept) (λ k g t d low. i.done k g t d (omega (arith, low)))
