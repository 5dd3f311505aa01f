-- The map has the kinds of the metrics that the loop has passed.
use Rattle.std.proofs.Common.{take}
use Rattle.text_lines.specs.Whole.{AreKinds}
use Rattle.text_lines.proofs.kinds.kinds_of.Given as goal

abbrev pub invariant-loop-row : goal.invariant-loop-row
invariant-loop-row l = AreKinds l.kinds (take l.row-index l.metrics)
