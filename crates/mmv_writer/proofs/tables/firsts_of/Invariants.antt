-- The strings that the loop has passed are told.
use Rattle.std.proofs.Common.{◌≡◌, take}
use Rattle.mmv_writer.specs.Tables.{IsIndex}
use Rattle.mmv_writer.proofs.tables.firsts_of.Given as goal

abbrev pub invariant-loop-text : goal.invariant-loop-text
invariant-loop-text l = record { index : IsIndex l.firsts (take l.text-index l.strings); at : l.at ≡ l.text-index }
