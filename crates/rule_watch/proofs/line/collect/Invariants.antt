-- The conditions so far and what is left of the line lead where all of it leads.
use Rattle.std.proofs.Common.{◌≡◌, [], ◌∷◌}
use Rattle.rule_watch.specs.Lines.{collect}
use Rattle.rule_watch.proofs.line.collect.Given as goal

abbrev pub invariant-loop-alloc : goal.invariant-loop-alloc
invariant-loop-alloc l = collect 7 l.joint (l.fn.first ∷ []) l.initial.rest ≡ collect l.left l.joint l.conditions l.rest

abbrev pub decreases-loop-alloc : goal.decreases-loop-alloc
decreases-loop-alloc l = l.left
