use Rattle.std.proofs.Common.{◌++◌, ◌∷◌, [], refl}
use Rattle.std.specs.Vec.Iter.{into_iter_items}
use Rattle.record_run.proofs.Joined.{gathers_more, gathers_none, still_all, within_seated}
use Rattle.record_run.proofs.gathering.gather_at.Goals as goal

pub loop-pass-init : goal.loop-pass-init
loop-pass-init c = (c.requires.seated, search, gathers_none c.args.at c.args.seat.now.tokens (within_seated c.args.server.now c.args.seat.now.tokens c.args.at c.requires.seated c.requires.there))

pub loop-pass-preserved : goal.loop-pass-preserved
loop-pass-preserved c =
    (c.gather.ensures.seated, still_all c.args.passes.items c.loop-pass.yielded (into_iter_items c.loop-pass.pass-iterator) (into_iter_items c.next.new.self) c.in-Some.pass c.loop-pass.invariant.1 c.in-Some.ensures.steps.0, gathers_more c.args.at c.args.seat.now.tokens c.loop-pass.seat.tokens c.gather.new.self.tokens c.loop-pass.yielded (c.loop-pass.yielded ++ c.in-Some.pass ∷ []) c.in-Some.pass c.loop-pass.invariant.2 c.gather.ensures.gathers refl)
