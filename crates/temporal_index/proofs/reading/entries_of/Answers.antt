use Rattle.std.proofs.Common.{arith, sym}
use Rattle.temporal_index.proofs.Fields.{entry_takes}
use Rattle.temporal_index.proofs.Loops.{starts, goes_on, stops, ends}
use Rattle.temporal_index.proofs.reading.entries_of.Goals as goal

pub loop-at-init : goal.loop-at-init
loop-at-init c = rw c.in_ok-entries.ensures (record { within = omega arith; all = starts c.args.bytes.now })

pub returns-in-None : goal.returns-in-None
returns-in-None c = stops c.args.bytes.now c.loop-at.entries c.loop-at.at _ c.loop-at-test.true (sym c.in-None.ensures) c.loop-at.invariant.all

pub loop-at-preserved : goal.loop-at-preserved
loop-at-preserved c = rw c.in_ok-push-in-Some.ensures.ok (record {
  within = (entry_takes c.args.bytes.now c.loop-at.at c.in-Some.entry (λ i. omega (arith, c.type_inv.bytes i)) (sym c.in-Some.ensures)).within;
  all = goes_on c.args.bytes.now c.loop-at.entries c.loop-at.at c.in-Some.entry _ (entry_takes c.args.bytes.now c.loop-at.at c.in-Some.entry (λ i. omega (arith, c.type_inv.bytes i)) (sym c.in-Some.ensures)).within (sym c.in-Some.ensures) c.loop-at.invariant.all;
})

pub returns : goal.returns
returns c = ends c.args.bytes.now c.loop-at.entries c.loop-at.at _ (omega arith) c.loop-at.invariant.all
