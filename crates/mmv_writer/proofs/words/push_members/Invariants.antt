-- The entries of the rows that the loop has passed are written.
use Rattle.std.proofs.Common.{◌≡◌, ◌++◌, take}
use Rattle.std.specs.List.{flat_map}
use Rattle.mmv_writer.specs.Spelling.{instance_words}
use Rattle.mmv_writer.proofs.words.push_members.Given as goal

abbrev pub invariant-loop-instance : goal.invariant-loop-instance
invariant-loop-instance l = l.out.items ≡ l.initial.out.items ++ flat_map (λ instance. instance_words l.offsets l.strings l.domain instance) (take l.instance-index l.instances)
