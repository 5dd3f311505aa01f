-- The first that is found decides.
use Rattle.std.proofs.Common.{arith}
use Rattle.mmv_layout.specs.Entries.{instance_count, instance_at}
use Rattle.mmv_layout.specs.Faults.{instances_reference_fault, instance_reference_fault}
use Rattle.mmv_layout.proofs.Firsts.{found_stops}
use Rattle.mmv_layout.proofs.instances.instances_reference_fault.Goals as goal

pub returns-in-Some : goal.returns-in-Some
unfolding instances_reference_fault
returns-in-Some c = found_stops (instance_count c.args.words.now) c.loop-i.i _ (λ i. instance_reference_fault c.args.words.now (instance_at c.args.words.now i)) (omega arith) c.loop-i.invariant (grind arith)
