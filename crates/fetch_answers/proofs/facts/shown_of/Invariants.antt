-- The metrics so far.
use Rattle.std.proofs.Common.{◌≡◌, take}
use Rattle.fetch_answers.specs.Answers.{shown_of}
use Rattle.fetch_answers.proofs.facts.shown_of.Given as goal

abbrev pub invariant-loop-set : goal.invariant-loop-set
invariant-loop-set l = l.pmids.keys ≡ shown_of (take l.set-index l.sets)
