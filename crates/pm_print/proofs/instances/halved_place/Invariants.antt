-- The instance isn't before the lower position, nor from the upper one on.
use Rattle.std.proofs.Common.{◌≡◌, ◌-◌, ◌≤◌, None, length, drop}
use Rattle.pm_print.specs.Sets.{position_in}
use Rattle.pm_print.proofs.instances.halved_place.Given as goal

abbrev pub invariant-loop-low : goal.invariant-loop-low
invariant-loop-low l = record {
  behind : position_in 0 l.listed l.number ≡ position_in l.low (drop l.low l.listed) l.number;
  before : position_in l.high (drop l.high l.listed) l.number ≡ None;
  ordered : l.low ≤ l.high;
  within : l.high ≤ length l.listed;
}

abbrev pub decreases-loop-low : goal.decreases-loop-low
decreases-loop-low l = l.high - l.low
