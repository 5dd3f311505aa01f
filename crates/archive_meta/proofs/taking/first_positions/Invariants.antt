-- The keys from here on are noted.
use Rattle.std.proofs.Common.{◌≡◌, ℕ, ◌≤◌, nat_eq, length, drop}
use Rattle.indexmap.specs.IndexMap.{get}
use Rattle.archive_meta.specs.Missing.{position_from}
use Rattle.archive_meta.proofs.taking.first_positions.Given as goal

abbrev pub invariant-loop-at : goal.invariant-loop-at
invariant-loop-at l = record {
  noted : (q : ℕ) → get nat_eq l.positions q ≡ position_from l.at (drop l.at l.table) q;
  within : l.at ≤ length l.table;
}

abbrev pub decreases-loop-at : goal.decreases-loop-at
decreases-loop-at l = l.at
