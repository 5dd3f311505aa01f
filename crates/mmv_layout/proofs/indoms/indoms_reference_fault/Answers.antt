-- The first that is found decides.
use Rattle.std.proofs.Common.{arith}
use Rattle.mmv_layout.specs.Entries.{indom_count, indom_at}
use Rattle.mmv_layout.specs.Faults.{indoms_reference_fault, indom_reference_fault}
use Rattle.mmv_layout.proofs.Firsts.{found_stops}
use Rattle.mmv_layout.proofs.indoms.indoms_reference_fault.Goals as goal

pub returns-in-Some : goal.returns-in-Some
unfolding indoms_reference_fault
returns-in-Some c = found_stops (indom_count c.args.words.now) c.loop-i.i _ (λ i. indom_reference_fault c.args.words.now (indom_at c.args.words.now i)) (omega arith) c.loop-i.invariant (grind arith)
