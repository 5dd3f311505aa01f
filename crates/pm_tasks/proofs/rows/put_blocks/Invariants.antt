-- The numbers of the values so far are put, and those left are to come.
use Rattle.std.proofs.Common.{drop}
use Rattle.rule_watch.specs.Watched.{AreValues}
use Rattle.pm_tasks.specs.Rows.{block_pair}
use Rattle.pm_tasks.proofs.Entries.{Putting}
use Rattle.pm_tasks.proofs.rows.put_blocks.Given as goal

abbrev pub invariant-loop-value : goal.invariant-loop-value
invariant-loop-value l = record {
  putting : Putting (block_pair l.code) l.fn.row l.name l.values (drop l.value-index l.values) l.seen.keys l.row;
  values : AreValues l.row;
}
