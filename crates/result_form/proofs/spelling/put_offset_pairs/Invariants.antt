-- What is written and what is left make the whole, and so do the offsets.
use Rattle.std.proofs.Common.{◌≡◌, ◌++◌, ◌+◌, ◌*◌, drop, length}
use Rattle.std.specs.Prelude.{◌↔◌}
use Rattle.std.specs.List.{AllByRecursion}
use Rattle.pcp_model.specs.Payload.{offset_pairs, offsets_from, pair_blocks, blocks_length}
use Rattle.result_form.specs.Ranges.{IsBlockPair}
use Rattle.result_form.proofs.spelling.put_offset_pairs.Given as goal

abbrev pub invariant-loop-instance : goal.invariant-loop-instance
invariant-loop-instance l = let rest = drop l.instance-index l.pairs in record {
  whole : l.out.items ++ offset_pairs (offsets_from l.offset (pair_blocks rest)) rest ≡ l.initial.out.items ++ offset_pairs (offsets_from l.initial.offset (pair_blocks l.pairs)) l.pairs;
  long : length l.out.items ≡ length l.initial.out.items + 8 * l.instance-index;
  offsets : l.offset + blocks_length (pair_blocks rest) ≡ l.initial.offset + blocks_length (pair_blocks l.pairs);
  range : AllByRecursion IsBlockPair (drop l.instance-index l.pairs) ↔ AllByRecursion IsBlockPair l.pairs;
}
