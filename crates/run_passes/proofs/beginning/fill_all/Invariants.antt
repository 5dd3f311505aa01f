use Rattle.run_passes.proofs.Filling.{Filling}
use Rattle.run_passes.proofs.beginning.fill_all.Given as goal

abbrev pub invariant-loop-list : goal.invariant-loop-list
invariant-loop-list l = Filling l.fn.passes.items l.passes.items l.crews.items

abbrev pub decreases-loop-list : goal.decreases-loop-list
decreases-loop-list l = goal.left-loop-list l
