use Rattle.std.proofs.Common.{◌≡◌, ◌+◌, ◌≤◌, drop}
use Rattle.std.specs.Prelude.{min}
use Rattle.pcp_model.specs.Payload.{blocks_length, blocks_of, sets_length}
use Rattle.result_form.proofs.sizes.length.Given as goal

abbrev pub invariant-loop-set : goal.invariant-loop-set
invariant-loop-set l = let rest = drop l.set-index l.set-items in record {
  same : min (l.total + sets_length rest + blocks_length (blocks_of rest)) 18446744073709551615 ≡ min (12 + sets_length l.set-items + blocks_length (blocks_of l.set-items)) 18446744073709551615;
  few : l.total ≤ 18446744073709551615;
}
