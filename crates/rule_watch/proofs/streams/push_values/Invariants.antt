-- The values before the index stand in their windows, and the others have one.
use Rattle.std.proofs.Common.{◌≡◌, ℤ, ◌++◌, take}
use Rattle.rule_watch.specs.Groups.{numbers_of}
use Rattle.rule_watch.specs.Watched.{AreOf, HasWindows, kept}
use Rattle.rule_watch.specs.Windows.{last}
use Rattle.rule_watch.proofs.streams.push_values.Given as goal

abbrev pub invariant-loop-value : goal.invariant-loop-value
invariant-loop-value l = record {
  serve : AreOf l.condition l.windows;
  windows : HasWindows l.windows l.values;
  values : (q : ℤ) → kept l.windows q ≡ last l.condition.size (kept l.initial.windows q ++ numbers_of q (take l.value-index l.values));
}
