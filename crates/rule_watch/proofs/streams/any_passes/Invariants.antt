-- No instance before the index passes.
use Rattle.std.proofs.Common.{◌≡◌, false, take}
use Rattle.std.specs.List.{list_any}
use Rattle.rule_watch.specs.Holding.{passes}
use Rattle.rule_watch.specs.Watched.{kept}
use Rattle.rule_watch.proofs.streams.any_passes.Given as goal

abbrev pub invariant-loop-value : goal.invariant-loop-value
invariant-loop-value l = list_any (λ v. passes l.condition (kept l.windows v.0)) (take l.value-index l.values) ≡ false
