-- The sets so far are put, and those left are to come.
use Rattle.std.proofs.Common.{drop}
use Rattle.rule_watch.specs.Rules.{is_watched}
use Rattle.rule_watch.specs.Shown.{rules_of}
use Rattle.rule_watch.specs.Watched.{AreValues}
use Rattle.pm_tasks.proofs.Entries.{PuttingSets}
use Rattle.pm_tasks.proofs.rows.row_of.Given as goal

abbrev pub invariant-loop-set : goal.invariant-loop-set
invariant-loop-set l = record {
  putting : PuttingSets (is_watched (rules_of l.watch)) l.meta l.sets (drop l.set-index l.sets) l.names l.row;
  values : AreValues l.row;
}
