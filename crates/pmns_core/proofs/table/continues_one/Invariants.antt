-- No front of the name that ends before a `.` the loop has passed is there.
use Rattle.std.proofs.Common.{◌≡◌, ℕ, ◌<◌, get_or, take, false}
use Rattle.pmns_core.specs.Adding.{is_there}
use Rattle.pmns_core.specs.Tables.{pairs_of}
use Rattle.pmns_core.proofs.table.continues_one.Given as goal

abbrev pub invariant-loop-at : goal.invariant-loop-at
invariant-loop-at l = (k : ℕ) → k < l.at → get_or l.name k 0 ≡ 46 → is_there (pairs_of l.table) (take k l.name) ≡ false
