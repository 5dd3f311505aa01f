-- The texts of the rows that the loop has passed stand.
use Rattle.std.proofs.Common.{◌≡◌, ◌++◌, take}
use Rattle.std.specs.List.{flat_map}
use Rattle.mmv_writer.specs.Spelling.{texts_of_domain}
use Rattle.mmv_writer.specs.Tables.{texts_behind}
use Rattle.mmv_writer.proofs.strings.push_of_domains.Given as goal

abbrev pub invariant-loop-row : goal.invariant-loop-row
invariant-loop-row l = texts_behind l.texts.items ≡ texts_behind l.initial.texts.items ++ flat_map texts_of_domain (take l.row-index l.rows)
