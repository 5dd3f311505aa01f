-- What is found and what is still to be taken are what was found and all that is to be taken.
use Rattle.std.proofs.Common.{◌≡◌, ◌++◌}
use Rattle.pmns_core.proofs.Ranges.{taken, AreTexts}
use Rattle.pmns_core.proofs.below.push_all.Given as goal

abbrev pub invariant-loop-key : goal.invariant-loop-key
invariant-loop-key l =
    (goal.iterator-loop-key).can_next l.rest × (goal.iterator-loop-key).is_finite l.rest
    × AreTexts l.rest
    × (l.found ++ taken l.front.items l.rest ≡ l.initial.found ++ taken l.initial.front.items l.initial.rest)
