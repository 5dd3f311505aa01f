-- One that fails decides.
use Rattle.std.proofs.Common.{sym, arith}
use Rattle.mmv_layout.specs.Contents.{are_apart, is_first_of_type}
use Rattle.mmv_layout.proofs.Below.{all_fails}
use Rattle.mmv_layout.proofs.sections.is_first_of_type.Goals as goal

pub returns-then-not-are_apart : goal.returns-then-not-are_apart
unfolding is_first_of_type
returns-then-not-are_apart c = sym (all_fails c.args.i c.loop-j.j (λ j. are_apart c.args.words.now j c.args.i) (omega arith) (grind arith))
