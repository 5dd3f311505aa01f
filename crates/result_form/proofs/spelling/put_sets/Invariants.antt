use Rattle.std.proofs.Common.{◌≡◌, ◌+◌, ◌++◌, ◌≤◌, drop, length}
use Rattle.std.specs.Prelude.{◌↔◌}
use Rattle.std.specs.List.{AllByRecursion}
use Rattle.pcp_model.specs.Payload.{set_words, offsets_from, blocks_of, blocks_length, sets_length}
use Rattle.result_form.specs.Ranges.{HasNumbers}
use Rattle.result_form.proofs.spelling.put_sets.Given as goal

abbrev pub invariant-loop-set : goal.invariant-loop-set
invariant-loop-set l = let rest = drop l.set-index l.sets in record {
  whole : l.out.items ++ set_words (offsets_from l.offset (blocks_of rest)) rest ≡ l.initial.out.items ++ set_words (offsets_from l.initial.offset (blocks_of l.sets)) l.sets;
  offsets : l.offset + blocks_length (blocks_of rest) ≡ l.initial.offset + blocks_length (blocks_of l.sets);
  long : length l.out.items + sets_length rest ≡ length l.initial.out.items + sets_length l.sets;
  few : sets_length rest ≤ 16777216;
  range : AllByRecursion HasNumbers rest ↔ AllByRecursion HasNumbers l.sets;
}
