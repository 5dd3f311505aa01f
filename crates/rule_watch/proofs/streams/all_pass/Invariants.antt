-- All instances before the index pass.
use Rattle.std.proofs.Common.{◌≡◌, true, take}
use Rattle.std.specs.List.{list_all}
use Rattle.rule_watch.specs.Holding.{passes}
use Rattle.rule_watch.specs.Watched.{kept}
use Rattle.rule_watch.proofs.streams.all_pass.Given as goal

abbrev pub invariant-loop-value : goal.invariant-loop-value
invariant-loop-value l = list_all (λ v. passes l.condition (kept l.windows v.0)) (take l.value-index l.values) ≡ true
