-- The words so far and those of the bytes behind are all.
use Rattle.std.proofs.Common.{◌≡◌, ◌*◌, ◌-◌, ◌++◌, drop}
use Rattle.mmv_layout.specs.Fields.{first_words}
use Rattle.mmv_layout.proofs.fields.words_of.Given as goal

abbrev pub invariant-loop-i : goal.invariant-loop-i
invariant-loop-i l = l.words.items ++ first_words (l.count - l.i) (drop (8 * l.i) l.bytes) ≡ first_words l.count l.bytes
