-- What is written and what is left make the whole.
use Rattle.std.proofs.Common.{◌≡◌, ◌++◌, ◌+◌, ◌*◌, drop, length}
use Rattle.std.specs.Prelude.{◌↔◌, FitsSigned}
use Rattle.std.specs.Int.{w32}
use Rattle.std.specs.List.{AllByRecursion}
use Rattle.pcp_model.specs.Words.{signed_word}
use Rattle.pdu_codec.specs.Spelling.{all_bytes}
use Rattle.pdu_codec.proofs.parts.put_instances.Given as goal

abbrev pub invariant-loop-instance : goal.invariant-loop-instance
invariant-loop-instance l = record {
  whole : l.out.items ++ all_bytes signed_word (drop l.instance-index l.instances) ≡ l.initial.out.items ++ all_bytes signed_word l.instances;
  long : length l.out.items ≡ length l.initial.out.items + 4 * l.instance-index;
  range : AllByRecursion (FitsSigned w32) (drop l.instance-index l.instances) ↔ AllByRecursion (FitsSigned w32) l.instances;
}
