-- The first entry that stood before is the first with a key that stood before.
use Rattle.std.proofs.Common.{arith}
use Rattle.mmv_layout.specs.declared.keys.Key.TheVariants.{Number, InstanceName}
use Rattle.mmv_layout.specs.Entries.{instance_count, instance_at, is_new_instance}
use Rattle.mmv_layout.specs.Faults.{instances_duplicate_fault}
use Rattle.mmv_layout.specs.Keys.{is_new_key}
use Rattle.mmv_layout.proofs.Again.{first_same, first_both, found_at, found_none, instance_keys}
use Rattle.mmv_layout.proofs.instances.instances_duplicate_fault.Goals as goal

pub returns-then-first-count : goal.returns-then-first-count
unfolding instances_duplicate_fault
returns-then-first-count c =
    found_none (instance_count c.args.words.now) _ _ (is_new_instance c.args.words.now) (λ i. instance_at c.args.words.now i)
    (first_same _ _ _ (is_new_instance c.args.words.now) (instance_keys c.args.words.now) (first_both _ _ _ (is_new_key c.args.words.now Number) (is_new_key c.args.words.now InstanceName) c.in_ok-before.ensures c.in_ok-first.ensures)) c.instance_count-count.ensures (omega arith)

pub returns : goal.returns
unfolding instances_duplicate_fault
returns c =
    found_at (instance_count c.args.words.now) _ _ _ (is_new_instance c.args.words.now) (λ i. instance_at c.args.words.now i)
    (first_same _ _ _ (is_new_instance c.args.words.now) (instance_keys c.args.words.now) (first_both _ _ _ (is_new_key c.args.words.now Number) (is_new_key c.args.words.now InstanceName) c.in_ok-before.ensures c.in_ok-first.ensures)) c.instance_count-count.ensures (λ e. absurd (grind arith)) (grind arith)
