-- The first entry that stood before is the first with a key that stood before.
use Rattle.std.proofs.Common.{arith}
use Rattle.mmv_layout.specs.Entries.{value_count, value_at, is_new_value}
use Rattle.mmv_layout.specs.Faults.{values_duplicate_fault}
use Rattle.mmv_layout.proofs.Again.{first_same, found_at, found_none, value_keys}
use Rattle.mmv_layout.proofs.values.values_duplicate_fault.Goals as goal

pub returns-then-first-count : goal.returns-then-first-count
unfolding values_duplicate_fault
returns-then-first-count c =
    found_none (value_count c.args.words.now) _ _ (is_new_value c.args.words.now) (λ i. value_at c.args.words.now i)
    (first_same _ _ _ (is_new_value c.args.words.now) (value_keys c.args.words.now) c.in_ok-first.ensures) c.value_count-count.ensures (omega arith)

pub returns : goal.returns
unfolding values_duplicate_fault
returns c =
    found_at (value_count c.args.words.now) _ _ _ (is_new_value c.args.words.now) (λ i. value_at c.args.words.now i)
    (first_same _ _ _ (is_new_value c.args.words.now) (value_keys c.args.words.now) c.in_ok-first.ensures) c.value_count-count.ensures (λ e. absurd (grind arith)) (grind arith)
