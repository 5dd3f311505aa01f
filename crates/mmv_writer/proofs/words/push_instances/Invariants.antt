-- The entries of the rows that the loop has passed are written.
use Rattle.std.proofs.Common.{◌≡◌, ◌++◌, take}
use Rattle.std.specs.List.{flat_map}
use Rattle.mmv_writer.specs.Spelling.{domain_offset, instance_words}
use Rattle.mmv_writer.proofs.words.push_instances.Given as goal

abbrev pub invariant-loop-row : goal.invariant-loop-row
invariant-loop-row l = l.out.items ≡ l.initial.out.items ++ flat_map (λ row. flat_map (λ instance. instance_words l.offsets l.strings (domain_offset l.offsets l.indoms row.serial) instance) row.instances) (take l.row-index l.indoms)
