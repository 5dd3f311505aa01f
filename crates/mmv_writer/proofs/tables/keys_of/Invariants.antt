-- Texts alone are in the map.
use Rattle.std.proofs.Common.{[]}
use Rattle.mmv_writer.specs.Tables.{IsIndex}
use Rattle.mmv_writer.proofs.tables.keys_of.Given as goal

abbrev pub invariant-loop-text : goal.invariant-loop-text
invariant-loop-text l = IsIndex l.firsts []
