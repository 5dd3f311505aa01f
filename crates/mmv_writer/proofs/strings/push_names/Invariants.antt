-- The names of the instances that the loop has passed stand.
use Rattle.std.proofs.Common.{◌≡◌, ◌++◌, take}
use Rattle.std.specs.List.{flat_map}
use Rattle.mmv_writer.specs.Spelling.{texts_of_name}
use Rattle.mmv_writer.specs.Tables.{texts_behind}
use Rattle.mmv_writer.proofs.strings.push_names.Given as goal

abbrev pub invariant-loop-instance : goal.invariant-loop-instance
invariant-loop-instance l = texts_behind l.texts.items ≡ texts_behind l.initial.texts.items ++ flat_map (λ instance. texts_of_name l.version instance.1) (take l.instance-index l.instances)
