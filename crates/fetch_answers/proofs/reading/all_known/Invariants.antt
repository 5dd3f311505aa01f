-- The regions so far.
use Rattle.std.proofs.Common.{◌≡◌, take}
use Rattle.fetch_answers.proofs.reading.all_known.Given as goal

abbrev pub invariant-loop-shot : goal.invariant-loop-shot
invariant-loop-shot l = l.known ≡ take l.shot-index l.shots
