use Rattle.std.proofs.Common.{◌≡◌, ◌+◌, drop}
use Rattle.pcp_model.specs.Payload.{sets_length}
use Rattle.result_form.proofs.spelling.head_size.Given as goal

abbrev pub invariant-loop-set : goal.invariant-loop-set
invariant-loop-set l = l.size + sets_length (drop l.set-index l.set-items) ≡ 12 + sets_length l.set-items
