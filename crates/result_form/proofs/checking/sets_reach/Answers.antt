use Rattle.std.proofs.Common.{sym, ◌∙◌}
use Rattle.result_form.proofs.Reaches.{ends_on, ends_fail, sets_on}
use Rattle.result_form.proofs.checking.sets_reach.Goals as goal

pub returns-in_err-span : goal.returns-in_err-span
returns-in_err-span c = absurd (ends_fail c.args.payload.now c.args.count c.loop.counter c.loop.at c.loop-test.true c.in_err-span.field-0.0 c.args.end c.in_err-span.ensures.span c.loop.invariant.ends)

pub loop-preserved : goal.loop-preserved
loop-preserved c =
    let next = c.in_ok-span.span.next in
    record {
      same = sets_on c.args.payload.now c.args.count c.loop.counter c.loop.at c.loop-test.true c.args.end c.loop.reach c.in_ok-reach.reach next _ (c.in_ok-span.ensures.span.1 c.args.end c.loop.reach ∙ sym c.in_ok-reach.ensures) c.in_ok-span.ensures.span.0 c.loop.invariant.same;
      ends = ends_on c.args.payload.now c.args.count c.loop.counter c.loop.at c.loop-test.true next _ c.in_ok-span.ensures.span.0 c.loop.invariant.ends;
    }
