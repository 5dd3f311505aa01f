-- The first that is found decides.
use Rattle.std.proofs.Common.{arith}
use Rattle.mmv_layout.specs.Contents.{contents_in, is_aligned, offset_field_in}
use Rattle.mmv_layout.specs.Faults.{offset_fault}
use Rattle.mmv_layout.proofs.Firsts.{test_stops}
use Rattle.mmv_layout.proofs.sections.offset_fault.Goals as goal

pub returns-then-not-is_aligned : goal.returns-then-not-is_aligned
unfolding offset_fault
returns-then-not-is_aligned c = test_stops (contents_in c.args.words.now) c.loop-i.i _ (λ i. is_aligned c.args.words.now i) (λ i. offset_field_in i) (omega arith) c.loop-i.invariant (grind arith) (grind arith)
