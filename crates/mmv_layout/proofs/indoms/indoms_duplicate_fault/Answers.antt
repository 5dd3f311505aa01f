-- The first entry that stood before is the first with a key that stood before.
use Rattle.std.proofs.Common.{arith}
use Rattle.mmv_layout.specs.Entries.{indom_count, indom_at, is_new_indom}
use Rattle.mmv_layout.specs.Faults.{indoms_duplicate_fault}
use Rattle.mmv_layout.proofs.Again.{first_same, found_at, found_none, indom_keys}
use Rattle.mmv_layout.proofs.indoms.indoms_duplicate_fault.Goals as goal

pub returns-then-first-count : goal.returns-then-first-count
unfolding indoms_duplicate_fault
returns-then-first-count c =
    found_none (indom_count c.args.words.now) _ _ (is_new_indom c.args.words.now) (λ i. indom_at c.args.words.now i)
    (first_same _ _ _ (is_new_indom c.args.words.now) (indom_keys c.args.words.now) c.in_ok-first.ensures) c.indom_count-count.ensures (omega arith)

pub returns : goal.returns
unfolding indoms_duplicate_fault
returns c =
    found_at (indom_count c.args.words.now) _ _ _ (is_new_indom c.args.words.now) (λ i. indom_at c.args.words.now i)
    (first_same _ _ _ (is_new_indom c.args.words.now) (indom_keys c.args.words.now) c.in_ok-first.ensures) c.indom_count-count.ensures (λ e. absurd (grind arith)) (grind arith)
