-- The first that is found decides.
use Rattle.std.proofs.Common.{arith}
use Rattle.mmv_layout.specs.Entries.{instance_count, instance_at, has_text}
use Rattle.mmv_layout.specs.EntryFields.{name_offset_in_instance}
use Rattle.mmv_layout.specs.Faults.{instance_name_fault}
use Rattle.mmv_layout.proofs.Firsts.{test_stops}
use Rattle.mmv_layout.proofs.instances.instance_name_fault.Goals as goal

pub returns-then-not-has_text : goal.returns-then-not-has_text
unfolding instance_name_fault
returns-then-not-has_text c = test_stops (instance_count c.args.words.now) c.loop-i.i _ (λ i. has_text c.args.words.now (name_offset_in_instance (instance_at c.args.words.now i))) (λ i. name_offset_in_instance (instance_at c.args.words.now i)) (omega arith) c.loop-i.invariant (grind arith) (grind arith)
