-- The passes of one region more are dealt.
use Rattle.std.specs.Vec.Iter.{into_iter_items}
use Rattle.run_passes.specs.Makings.{HasEach, lists_of}
use Rattle.run_passes.proofs.OpeningHands.{even, holds_next, region_dealt, yields_more}
use Rattle.run_passes.proofs.opening.dealing.deal_all.Goals as goal

pub deal-requires : goal.deal-requires
deal-requires c =
    even c.args.seats c.loop-region.hands.items c.in-Some.region c.loop-region.invariant.0.as_many
    (holds_next (HasEach c.args.seats) c.args.made.items c.loop-region.yielded (into_iter_items c.loop-region.region-iterator) c.in-Some.region (into_iter_items c.next.new.self)
    c.loop-region.invariant.1 c.in-Some.ensures.steps.0 c.requires)

pub loop-region-preserved : goal.loop-region-preserved
loop-region-preserved c = (
  region_dealt c.args.seats c.loop-region.yielded c.loop-region.mounted.items c.push.new.self.items c.loop-region.passes.items c.push-in-loop-region.new.self.items
      (lists_of c.loop-region.hands.items) (lists_of c.in_ok-hands-2.hands.items) c.in-Some.region c.loop-region.invariant.0
      (holds_next (HasEach c.args.seats) c.args.made.items c.loop-region.yielded (into_iter_items c.loop-region.region-iterator) c.in-Some.region (into_iter_items c.next.new.self)
      c.loop-region.invariant.1 c.in-Some.ensures.steps.0 c.requires)
      c.in_ok-push.ensures.items c.in_ok-push-2.ensures.items c.in_ok-hands-2.ensures,
  yields_more c.args.made.items c.loop-region.yielded (into_iter_items c.loop-region.region-iterator) c.in-Some.region (into_iter_items c.next.new.self) c.loop-region.invariant.1 c.in-Some.ensures.steps.0,
)
