-- The pairs that are left are what was added.
use Rattle.std.proofs.Common.{◌≡◌, ◌≤◌, List, length, take, Ok}
use Rattle.pmns_core.specs.Pairs.{Pair}
use Rattle.pmns_core.specs.Adding.{after_adding}
use Rattle.pmns_core.specs.Tables.{pairs_of}
use Rattle.pmns_core.proofs.table.take_back.Given as goal

abbrev pub invariant-loop-left : goal.invariant-loop-left
invariant-loop-left l = record {
  within : l.left ≤ length l.pairs;
  left : (before : List Pair) → after_adding l.pairs before ≡ Ok (pairs_of l.initial.table) → after_adding (take l.left l.pairs) before ≡ Ok (pairs_of l.table);
}

abbrev pub decreases-loop-left : goal.decreases-loop-left
decreases-loop-left l = l.left
