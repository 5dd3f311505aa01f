-- The texts of the names so far.
use Rattle.std.specs.Prelude.{◌≡◌, map, take, string_bytes}
use Rattle.pm_words.proofs.names.texts_of.Given as goal

abbrev pub invariant-loop-name : goal.invariant-loop-name
invariant-loop-name l = l.texts.items ≡ map string_bytes (take l.name-index l.names)
