use Rattle.run_passes.specs.Openings.{AreBare}
use Rattle.run_passes.proofs.beginning.let_go.Given as goal

abbrev pub invariant-loop-room : goal.invariant-loop-room
invariant-loop-room l = AreBare l.rooms.items

abbrev pub decreases-loop-room : goal.decreases-loop-room
decreases-loop-room l = goal.left-loop-room l
