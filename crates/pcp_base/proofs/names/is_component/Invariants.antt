-- What is left to walk over decides.
use Rattle.std.proofs.Common.{◌≡◌, true, drop}
use Rattle.pcp_base.proofs.Spelling.{walk_one}
use Rattle.pcp_base.proofs.names.is_component.Given as goal

abbrev pub invariant-loop-byte : goal.invariant-loop-byte
invariant-loop-byte l = walk_one l.is_first (drop l.byte-index l.bytes) ≡ walk_one true l.bytes
