-- The words that the loop has passed are written.
use Rattle.std.proofs.Common.{◌≡◌, take}
use Rattle.pm_print.specs.Bytes.{bytes_of}
use Rattle.pm_print.proofs.images.bytes_of.Given as goal

abbrev pub invariant-loop-word : goal.invariant-loop-word
invariant-loop-word l = l.bytes.items ≡ bytes_of (take l.word-index l.words)
