use Rattle.std.proofs.Common.{List, length, ap, ◌∙◌}
use Rattle.run_passes.specs.declared.worker.Worker.{Worker}
use Rattle.run_passes.proofs.Filling.{bare_last, bare_rest}
use Rattle.run_passes.proofs.beginning.let_go.Goals as goal

pub destroy_empty-requires : goal.destroy_empty-requires
destroy_empty-requires c = c.in-Some.room.ok.0 ∙ ap (λ (l : List Worker). length l) (bare_last c.loop-room.rooms.items c.pop.new.self.items c.in-Some.room c.loop-room.invariant c.in-Some.ensures.items)

pub loop-room-preserved : goal.loop-room-preserved
loop-room-preserved c = bare_rest c.loop-room.rooms.items c.pop.new.self.items c.in-Some.room c.loop-room.invariant c.in-Some.ensures.items
