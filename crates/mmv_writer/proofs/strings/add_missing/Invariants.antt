-- The texts that the loop has passed stand.
use Rattle.std.proofs.Common.{◌≡◌, take}
use Rattle.mmv_writer.specs.Spelling.{with_missing}
use Rattle.mmv_writer.specs.Tables.{texts_behind}
use Rattle.mmv_writer.proofs.strings.add_missing.Given as goal

abbrev pub invariant-loop-text : goal.invariant-loop-text
invariant-loop-text l = l.strings ≡ with_missing l.initial.strings (texts_behind (take l.text-index l.texts))
