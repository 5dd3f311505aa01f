-- The words so far and those of the bytes behind are all.
use Rattle.std.proofs.Common.{◌≡◌, ◌*◌, ◌-◌, ◌++◌, drop}
use Rattle.mmv_layout.specs.Fields.{first_words}
use Rattle.mmv_writer.proofs.words.push_text.Given as goal

abbrev pub invariant-loop-k : goal.invariant-loop-k
invariant-loop-k l = l.out.items ++ first_words (l.count - l.k) (drop (8 * l.k) l.bytes) ≡ l.initial.out.items ++ first_words l.count l.bytes
