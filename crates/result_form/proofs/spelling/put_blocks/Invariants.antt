use Rattle.std.proofs.Common.{◌≡◌, ◌+◌, ◌++◌, drop, length}
use Rattle.pcp_model.specs.Payload.{blocks_bytes, blocks_of, blocks_length}
use Rattle.result_form.proofs.spelling.put_blocks.Given as goal

abbrev pub invariant-loop-set : goal.invariant-loop-set
invariant-loop-set l = let rest = drop l.set-index l.sets in record {
  whole : l.out.items ++ blocks_bytes (blocks_of rest) ≡ l.initial.out.items ++ blocks_bytes (blocks_of l.sets);
  long : length l.out.items + blocks_length (blocks_of rest) ≡ length l.initial.out.items + blocks_length (blocks_of l.sets);
}
