-- What is written and what is left make the whole.
use Rattle.std.proofs.Common.{◌≡◌, ◌++◌, ◌+◌, ◌*◌, drop, length}
use Rattle.std.specs.Prelude.{◌↔◌}
use Rattle.std.specs.List.{AllByRecursion}
use Rattle.pcp_model.specs.Payload.{value_pairs}
use Rattle.result_form.specs.Ranges.{IsPair}
use Rattle.result_form.proofs.spelling.put_value_pairs.Given as goal

abbrev pub invariant-loop-instance : goal.invariant-loop-instance
invariant-loop-instance l = record {
  whole : l.out.items ++ value_pairs (drop l.instance-index l.pairs) ≡ l.initial.out.items ++ value_pairs l.pairs;
  long : length l.out.items ≡ length l.initial.out.items + 8 * l.instance-index;
  range : AllByRecursion IsPair (drop l.instance-index l.pairs) ↔ AllByRecursion IsPair l.pairs;
}
