-- No instance so far has the number.
use Rattle.std.proofs.Common.{◌≡◌, drop}
use Rattle.pm_print.specs.Sets.{name_in}
use Rattle.log_summary.proofs.lines.name_in.Given as goal

abbrev pub invariant-loop-at : goal.invariant-loop-at
invariant-loop-at l = name_in (drop l.at l.listed) l.number ≡ name_in l.listed l.number
