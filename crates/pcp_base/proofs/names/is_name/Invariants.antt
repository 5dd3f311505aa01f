-- What is left to walk over decides.
use Rattle.std.proofs.Common.{◌≡◌, true, drop}
use Rattle.pcp_base.specs.Names.{spells}
use Rattle.pcp_base.proofs.names.is_name.Given as goal

abbrev pub invariant-loop-byte : goal.invariant-loop-byte
invariant-loop-byte l = spells l.is_first (drop l.byte-index l.bytes) ≡ spells true l.bytes
