-- The values before the index have their windows, and no value has changed.
use Rattle.std.proofs.Common.{◌≡◌, ℤ, take}
use Rattle.rule_watch.specs.Watched.{AreOf, HasWindows, kept}
use Rattle.rule_watch.proofs.streams.make_windows.Given as goal

abbrev pub invariant-loop-value : goal.invariant-loop-value
invariant-loop-value l = record {
  serve : AreOf l.condition l.windows;
  same : (q : ℤ) → kept l.windows q ≡ kept l.initial.windows q;
  windows : HasWindows l.windows (take l.value-index l.values);
}
