-- The first that is found decides.
use Rattle.std.proofs.Common.{arith}
use Rattle.mmv_layout.specs.Entries.{string_count, string_at, is_good_string}
use Rattle.mmv_layout.specs.Faults.{string_fault}
use Rattle.mmv_layout.proofs.Firsts.{test_stops}
use Rattle.mmv_layout.proofs.instances.string_fault.Goals as goal

pub returns-then-not-is_good_string : goal.returns-then-not-is_good_string
unfolding string_fault
returns-then-not-is_good_string c = test_stops (string_count c.args.words.now) c.loop-i.i _ (λ i. is_good_string c.args.words.now i) (λ i. string_at c.args.words.now i) (omega arith) c.loop-i.invariant (grind arith) (grind arith)
