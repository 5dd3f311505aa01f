-- The entries of the texts that the loop has passed are written.
use Rattle.std.proofs.Common.{◌≡◌, ◌++◌, take}
use Rattle.std.specs.List.{flat_map}
use Rattle.mmv_layout.specs.Fields.{first_words}
use Rattle.mmv_writer.specs.Offsets.{string_length}
use Rattle.mmv_writer.proofs.words.push_texts.Given as goal

abbrev pub invariant-loop-text : goal.invariant-loop-text
invariant-loop-text l = l.out.items ≡ l.initial.out.items ++ flat_map (λ text. first_words string_length text.now) (take l.text-index l.texts)
