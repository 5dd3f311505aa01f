-- The strings that the loop has passed.
use Rattle.std.proofs.Common.{◌≡◌, take}
use Rattle.mmv_writer.specs.Tables.{texts_behind}
use Rattle.mmv_writer.proofs.tables.references_of.Given as goal

abbrev pub invariant-loop-text : goal.invariant-loop-text
invariant-loop-text l = texts_behind l.references ≡ take l.text-index l.strings
