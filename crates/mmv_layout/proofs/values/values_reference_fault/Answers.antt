-- The first that is found decides.
use Rattle.std.proofs.Common.{arith}
use Rattle.mmv_layout.specs.Entries.{value_count, value_at}
use Rattle.mmv_layout.specs.Faults.{values_reference_fault, value_reference_fault}
use Rattle.mmv_layout.proofs.Firsts.{found_stops}
use Rattle.mmv_layout.proofs.values.values_reference_fault.Goals as goal

pub returns-in-Some : goal.returns-in-Some
unfolding values_reference_fault
returns-in-Some c = found_stops (value_count c.args.words.now) c.loop-i.i _ (λ i. value_reference_fault c.args.words.now (value_at c.args.words.now i)) (omega arith) c.loop-i.invariant (grind arith)
