-- The parts so far.
use Rattle.std.proofs.Common.{take}
use Rattle.profile_filter.specs.Lists.{HasParts}
use Rattle.profile_filter.proofs.choices.table_of.Given as goal

abbrev pub invariant-loop-part : goal.invariant-loop-part
invariant-loop-part l = HasParts l.table (take l.part-index l.parts)
