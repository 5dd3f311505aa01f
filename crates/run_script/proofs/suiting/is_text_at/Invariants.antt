-- The bytes so far are equal.
use Rattle.run_script.proofs.TextBytes.{Agrees}
use Rattle.run_script.proofs.suiting.is_text_at.Given as goal

abbrev pub invariant-loop-k : goal.invariant-loop-k
invariant-loop-k l = Agrees l.words l.place l.text l.k l.rest
