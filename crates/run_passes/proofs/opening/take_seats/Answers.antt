-- The next hand has a pass of each region.
use Rattle.fetch_engine.specs.Servers.{IsSeated}
use Rattle.std.specs.Vec.Iter.{into_iter_items}
use Rattle.run_passes.proofs.OpeningHands.{holds_next_list}
use Rattle.run_passes.proofs.opening.take_seats.Goals as goal

pub seat-requires : goal.seat-requires
seat-requires c =
    holds_next_list (IsSeated c.args.server.now) c.args.hands.items c.loop-hand.yielded (into_iter_items c.loop-hand.hand-iterator) c.in-Some.hand (into_iter_items c.next.new.self)
    c.loop-hand.invariant.1 c.in-Some.ensures.steps.0 c.requires
