use Rattle.std.proofs.Common.{◌≡◌, ◌<◌, length, slice_get, Some, refl, ap, ◌∙◌, arith}
use Rattle.std.specs.Global.{Vec}
use Rattle.region_rule.specs.Seats.{Token}
use Rattle.run_passes.proofs.Turning.{was_there}
use Rattle.record_run.proofs.Joined.{next_here, up_to_all, up_to_next}
use Rattle.record_run.proofs.gathering.gather_all.Goals as goal

pub loop-at-preserved : goal.loop-at-preserved
loop-at-preserved c =
    let g = c.loop-at.invariant.2 in
    let end = c.loop-at.invariant.1 in
    let below : c.loop-at.at < length c.args.passes.now.items = omega (arith, c.loop-at-test.true, end) in
    let inside : c.loop-at.at < length c.loop-at.passes.items = let same = g.as_many in omega arith in
    let there : slice_get c.loop-at.passes.items c.loop-at.at ≡ Some c.replace-list.result = was_there c.loop-at.passes.items c.loop-at.at c.index_mut.result.now c.replace-list.result inside c.index_mut.ensures.value c.replace-list.ensures.value in (
      c.gather_at.ensures.seated,
      end,
      up_to_next c.loop-at.at c.args.passes.now.items c.loop-at.passes.items _ c.replace-list.result c.replace-list.new.dest c.args.seat.now.tokens c.loop-at.seat.tokens c.gather_at.new.seat.tokens g there below (ap (λ (l : Vec Token). l.items) c.replace-list.ensures.after ∙ c.new.ensures.items) refl c.gather_at.ensures.gathers,
    )

pub gather_at-requires-clause-here : goal.gather_at-requires-clause-here
gather_at-requires-clause-here c =
    let g = c.loop-at.invariant.2 in
    let end = c.loop-at.invariant.1 in
    let inside : c.loop-at.at < length c.loop-at.passes.items = let same = g.as_many in let test = c.loop-at-test.true in omega arith in
    next_here c.args.server.now c.args.passes.now.items c.loop-at.passes.items c.loop-at.at c.replace-list.result c.requires.here (g.rest c.loop-at.at (omega arith))
    (was_there c.loop-at.passes.items c.loop-at.at c.index_mut.result.now c.replace-list.result inside c.index_mut.ensures.value c.replace-list.ensures.value)

pub returns-clause-gathers : goal.returns-clause-gathers
returns-clause-gathers c = let end = c.loop-at.invariant.1 in let test = c.loop-at-test.false in
    (up_to_all c.args.server.now c.loop-at.at c.args.passes.now.items c.loop-at.passes.items c.args.seat.now.tokens c.loop-at.seat.tokens (omega arith) c.requires.lists c.loop-at.invariant.2).0

pub returns-clause-used : goal.returns-clause-used
returns-clause-used c = let end = c.loop-at.invariant.1 in let test = c.loop-at-test.false in
    (up_to_all c.args.server.now c.loop-at.at c.args.passes.now.items c.loop-at.passes.items c.args.seat.now.tokens c.loop-at.seat.tokens (omega arith) c.requires.lists c.loop-at.invariant.2).1
