-- The earlier entries so far differ in type and are apart.
use Rattle.std.proofs.Common.{◌≡◌, true}
use Rattle.mmv_layout.specs.Below.{all_below}
use Rattle.mmv_layout.specs.Contents.{are_apart}
use Rattle.mmv_layout.proofs.sections.is_first_of_type.Given as goal

abbrev pub invariant-loop-j : goal.invariant-loop-j
invariant-loop-j l = all_below l.j (λ j. are_apart l.words j l.i) ≡ true
