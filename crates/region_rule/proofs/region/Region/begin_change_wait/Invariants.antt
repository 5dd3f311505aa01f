use Rattle.std.proofs.Common.{◌≡◌, ◌≤◌, ◌⊎◌, ℕ, length}
use Rattle.region_rule.specs.Waits.{BusyTimes}
use Rattle.region_rule.proofs.region.Region.begin_change_wait.Given as goal

abbrev pub invariant-loop : goal.invariant-loop
invariant-loop g l =
    (goal.iterator-loop g).can_next l.iterator' × (goal.iterator-loop g).is_finite l.iterator'
    × (l.waiting.region ≡ l.initial.waiting.region) × (l.waiting.view.number ≡ l.initial.waiting.view.number) × (l.kept.items ≡ l.initial.kept.items)
    × ((n : ℕ) × BusyTimes g.S.Shape.shaping n l.initial.waiting.view l.waiting.view × ((n ≡ 0) ⊎ (length l.initial.kept.items ≤ length l.self.words)))
