-- What is written and the lines of what is left are the whole.
use Rattle.std.proofs.Common.{◌≡◌, ◌++◌, map}
use Rattle.pm_print.specs.Infos.{rows_text}
use Rattle.pm_print.specs.Rows.{row}
use Rattle.pm_print.proofs.infos.put_rows.Given as goal

abbrev pub invariant-loop-key : goal.invariant-loop-key
invariant-loop-key l =
    (goal.iterator-loop-key).can_next l.rest × (goal.iterator-loop-key).is_finite l.rest
    × (l.initial.out.items ++ rows_text (map row l.initial.rest) ≡ l.out.items ++ rows_text (map row l.rest))
