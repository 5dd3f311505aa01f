-- The rows so far, with the names that are left, are the rows with all names.
use Rattle.std.proofs.Common.{◌≡◌, drop, fold}
use Rattle.pm_print.specs.Infos.{with_name}
use Rattle.pm_print.specs.Rows.{listed_rows}
use Rattle.pm_print.proofs.infos.add_names.Given as goal

abbrev pub invariant-loop-name : goal.invariant-loop-name
invariant-loop-name l = fold (with_name l.desc) (listed_rows l.rows) (drop l.name-index l.names) ≡ fold (with_name l.desc) (listed_rows l.initial.rows) l.names
