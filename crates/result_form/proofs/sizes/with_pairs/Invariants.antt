use Rattle.std.proofs.Common.{◌≡◌, ◌+◌, ◌≤◌, drop}
use Rattle.std.specs.Prelude.{min}
use Rattle.pcp_model.specs.Payload.{blocks_length, pair_blocks}
use Rattle.result_form.proofs.sizes.with_pairs.Given as goal

abbrev pub invariant-loop-block : goal.invariant-loop-block
invariant-loop-block l = record {
  same : min (l.total + blocks_length (pair_blocks (drop l.block-index l.pairs))) 18446744073709551615 ≡ min (l.initial.total + blocks_length (pair_blocks l.pairs)) 18446744073709551615;
  few : l.total ≤ 18446744073709551615;
}
