use Rattle.std.proofs.Common.{◌≡◌}
use Rattle.region_rule.specs.Changes.{left_of}
use Rattle.region_rule.proofs.Finishing.{Continues}
use Rattle.region_rule.proofs.change.Change.finish.Given as goal

abbrev pub invariant-loop-change : goal.invariant-loop-change
invariant-loop-change g l = (l.change.token.region ≡ l.initial.change.token.region) × (l.change.token.view.number ≡ l.initial.change.token.view.number)
    × (l.change.generation ≡ l.initial.change.generation) × Continues g.S.Shape.shaping l.initial.change l.change

abbrev pub decreases-loop-change : goal.decreases-loop-change
decreases-loop-change g l = left_of l.change
