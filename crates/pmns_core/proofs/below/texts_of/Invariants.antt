-- What is found and what is left are all components.
use Rattle.std.proofs.Common.{◌≡◌, ◌++◌, map}
use Rattle.pmns_core.specs.Tables.{AreTextParts}
use Rattle.pmns_core.proofs.Parts.{part}
use Rattle.pmns_core.proofs.below.texts_of.Given as goal

abbrev pub invariant-loop-key : goal.invariant-loop-key
invariant-loop-key l =
    (goal.iterator-loop-key).can_next l.rest × (goal.iterator-loop-key).is_finite l.rest
    × AreTextParts (map part l.rest)
    × (l.found ++ map part l.rest ≡ map part l.initial.rest)
