-- The first that is found decides.
use Rattle.std.proofs.Common.{arith}
use Rattle.std.proofs.lemmas.Bool.Decides.{nat_tests}
use Rattle.mmv_layout.specs.EntryFields.{number_offset_in_instance, number_in_instance}
use Rattle.mmv_layout.specs.Entries.{instance_count, instance_at, is_instance_number}
use Rattle.mmv_layout.specs.Faults.{instances_serial_fault}
use Rattle.mmv_layout.proofs.Firsts.{test_stops}
use Rattle.mmv_layout.proofs.instances.instances_serial_fault.Goals as goal

pub returns-then-number_in_instance-ge2147483648 : goal.returns-then-number_in_instance-ge2147483648
unfolding instances_serial_fault
returns-then-number_in_instance-ge2147483648 c = test_stops (instance_count c.args.words.now) c.loop-i.i _ (λ i. is_instance_number (number_in_instance c.args.words.now (instance_at c.args.words.now i))) (λ i. number_offset_in_instance (instance_at c.args.words.now i)) (omega arith) c.loop-i.invariant (grind (arith, nat_tests)) (grind (arith, nat_tests))
