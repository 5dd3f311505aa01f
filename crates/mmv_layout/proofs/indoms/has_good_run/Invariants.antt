-- The run so far is good.
use Rattle.std.proofs.Common.{◌≡◌, true}
use Rattle.mmv_layout.specs.Below.{all_below}
use Rattle.mmv_layout.specs.Entries.{run_at, is_instance_of}
use Rattle.mmv_layout.proofs.indoms.has_good_run.Given as goal

abbrev pub invariant-loop-k : goal.invariant-loop-k
invariant-loop-k l = all_below l.k (λ k. is_instance_of l.words l.domain (run_at l.words l.domain k)) ≡ true
