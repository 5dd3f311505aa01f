-- What is written and what is left make the whole.
use Rattle.std.proofs.Common.{◌≡◌, ◌++◌, ◌+◌, ◌*◌, drop, length}
use Rattle.std.specs.Prelude.{◌↔◌}
use Rattle.std.specs.List.{AllByRecursion}
use Rattle.pcp_model.specs.Words.{word}
use Rattle.pdu_codec.specs.Spelling.{all_bytes, IsWord}
use Rattle.pdu_codec.proofs.parts.put_pmids.Given as goal

abbrev pub invariant-loop-pmid : goal.invariant-loop-pmid
invariant-loop-pmid l = record {
  whole : l.out.items ++ all_bytes word (drop l.pmid-index l.pmids) ≡ l.initial.out.items ++ all_bytes word l.pmids;
  long : length l.out.items ≡ length l.initial.out.items + 4 * l.pmid-index;
  range : AllByRecursion IsWord (drop l.pmid-index l.pmids) ↔ AllByRecursion IsWord l.pmids;
}
