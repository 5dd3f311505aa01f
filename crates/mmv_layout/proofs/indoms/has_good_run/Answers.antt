-- One that fails decides.
use Rattle.std.proofs.Common.{sym, arith}
use Rattle.mmv_layout.specs.EntryFields.{count_in_indom}
use Rattle.mmv_layout.specs.Entries.{run_at, is_instance_of, has_good_run}
use Rattle.mmv_layout.proofs.Below.{all_fails}
use Rattle.mmv_layout.proofs.indoms.has_good_run.Goals as goal

pub returns-then-not-is_instance_of : goal.returns-then-not-is_instance_of
unfolding has_good_run
returns-then-not-is_instance_of c = sym (all_fails (count_in_indom c.args.words.now c.args.domain) c.loop-k.k (λ k. is_instance_of c.args.words.now c.args.domain (run_at c.args.words.now c.args.domain k)) (omega arith) (grind arith))
