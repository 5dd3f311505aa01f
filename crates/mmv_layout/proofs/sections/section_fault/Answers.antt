-- The first that is found decides.
use Rattle.std.proofs.Common.{arith}
use Rattle.mmv_layout.specs.Contents.{contents_in, has_good_section}
use Rattle.mmv_layout.specs.Faults.{section_fault, bad_type}
use Rattle.mmv_layout.proofs.Firsts.{test_stops}
use Rattle.mmv_layout.proofs.sections.section_fault.Goals as goal

pub returns-then-not-has_good_section : goal.returns-then-not-has_good_section
unfolding section_fault
returns-then-not-has_good_section c = test_stops (contents_in c.args.words.now) c.loop-i.i _ (λ i. has_good_section c.args.words.now i) (λ i. bad_type c.args.words.now i) (omega arith) c.loop-i.invariant (grind arith) (grind arith)
