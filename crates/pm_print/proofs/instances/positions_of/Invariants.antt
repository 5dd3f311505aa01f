-- The numbers from here on are noted.
use Rattle.std.proofs.Common.{◌≡◌, ◌≤◌, ℤ, length, drop}
use Rattle.std.specs.Ordering.{int_eq}
use Rattle.indexmap.specs.IndexMap.{get}
use Rattle.pm_print.specs.Sets.{position_in}
use Rattle.pm_print.proofs.instances.positions_of.Given as goal

abbrev pub invariant-loop-at : goal.invariant-loop-at
invariant-loop-at l = record {
  noted : (n : ℤ) → get int_eq l.positions n ≡ position_in l.at (drop l.at l.listed) n;
  within : l.at ≤ length l.listed;
}

abbrev pub decreases-loop-at : goal.decreases-loop-at
decreases-loop-at l = l.at
