-- The section found is that among the entries so far.
use Rattle.std.proofs.Common.{◌≡◌}
use Rattle.mmv_layout.specs.Contents.{find_section}
use Rattle.mmv_layout.proofs.contents.section_of.Given as goal

abbrev pub invariant-loop-i : goal.invariant-loop-i
invariant-loop-i l = l.found ≡ find_section l.words l.kind l.i
