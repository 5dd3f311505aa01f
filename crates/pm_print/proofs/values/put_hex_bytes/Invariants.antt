-- What is written and the digits of what is left are the whole.
use Rattle.std.proofs.Common.{◌≡◌, ◌++◌, drop}
use Rattle.pm_print.specs.Values.{hex_bytes}
use Rattle.pm_print.proofs.values.put_hex_bytes.Given as goal

abbrev pub invariant-loop-byte : goal.invariant-loop-byte
invariant-loop-byte l = l.initial.out.items ++ hex_bytes l.bytes ≡ l.out.items ++ hex_bytes (drop l.byte-index l.bytes)
