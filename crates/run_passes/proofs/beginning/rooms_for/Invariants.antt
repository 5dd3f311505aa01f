use Rattle.std.proofs.Common.{◌≤◌, length, take, vec_capacity}
use Rattle.run_passes.specs.Openings.{HaveRoomsFor}
use Rattle.run_passes.proofs.beginning.rooms_for.Given as goal

abbrev pub invariant-loop-list : goal.invariant-loop-list
invariant-loop-list l = HaveRoomsFor (take l.list-index l.passes) l.rooms.items × (length l.passes ≤ vec_capacity l.rooms)
