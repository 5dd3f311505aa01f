use Rattle.std.proofs.Common.{◌≡◌, ◌+◌, ◌++◌, drop, length}
use Rattle.pcp_model.specs.Payload.{blocks_bytes, pair_blocks, blocks_length}
use Rattle.result_form.proofs.spelling.put_pair_blocks.Given as goal

abbrev pub invariant-loop-value : goal.invariant-loop-value
invariant-loop-value l = let rest = drop l.value-index l.pairs in record {
  whole : l.out.items ++ blocks_bytes (pair_blocks rest) ≡ l.initial.out.items ++ blocks_bytes (pair_blocks l.pairs);
  long : length l.out.items + blocks_length (pair_blocks rest) ≡ length l.initial.out.items + blocks_length (pair_blocks l.pairs);
}
