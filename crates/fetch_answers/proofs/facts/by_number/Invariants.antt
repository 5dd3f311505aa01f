-- The instances so far.
use Rattle.std.proofs.Common.{◌≡◌, take}
use Rattle.fetch_answers.specs.Answers.{ascending}
use Rattle.fetch_answers.proofs.facts.by_number.Given as goal

abbrev pub invariant-loop-number : goal.invariant-loop-number
invariant-loop-number l = l.table.entries ≡ ascending (take l.number-index l.instances)
