-- The entries of the rows that the loop has passed are written.
use Rattle.std.proofs.Common.{◌≡◌, ◌++◌, take}
use Rattle.std.specs.List.{flat_map}
use Rattle.mmv_writer.specs.Spelling.{domain_words}
use Rattle.mmv_writer.proofs.words.push_domains.Given as goal

abbrev pub invariant-loop-row : goal.invariant-loop-row
invariant-loop-row l = l.out.items ≡ l.initial.out.items ++ flat_map (λ row. domain_words l.offsets l.strings l.indoms row) (take l.row-index l.indoms)
