-- The items so far are counted.
use Rattle.log_summary.specs.Pieces.{IsWalked}
use Rattle.log_summary.proofs.walking.count_whole.Given as goal

abbrev pub invariant-loop : goal.invariant-loop
invariant-loop l = IsWalked l.bytes l.meta l.from l.to l.initial.table l.table l.at
