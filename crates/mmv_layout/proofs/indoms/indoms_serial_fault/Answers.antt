-- The first that is found decides.
use Rattle.std.proofs.Common.{arith}
use Rattle.std.proofs.lemmas.Bool.Decides.{nat_tests}
use Rattle.mmv_layout.specs.Fields.{number32}
use Rattle.mmv_layout.specs.Entries.{indom_count, indom_at, is_serial}
use Rattle.mmv_layout.specs.Faults.{indoms_serial_fault}
use Rattle.mmv_layout.proofs.Firsts.{test_stops}
use Rattle.mmv_layout.proofs.indoms.indoms_serial_fault.Goals as goal

pub returns-then-serial-lt1 : goal.returns-then-serial-lt1
unfolding indoms_serial_fault
returns-then-serial-lt1 c = test_stops (indom_count c.args.words.now) c.loop-i.i _ (λ i. is_serial (number32 c.args.words.now (indom_at c.args.words.now i))) (λ i. indom_at c.args.words.now i) (omega arith) c.loop-i.invariant (grind (arith, nat_tests)) (grind (arith, nat_tests))
