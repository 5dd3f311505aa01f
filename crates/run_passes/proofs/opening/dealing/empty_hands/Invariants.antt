-- So many hands so far.
use Rattle.run_passes.specs.Makings.{AreEmpty}
use Rattle.run_passes.proofs.opening.dealing.empty_hands.Given as goal

abbrev pub invariant-loop : goal.invariant-loop
invariant-loop l = AreEmpty l.counter l.hands.items
