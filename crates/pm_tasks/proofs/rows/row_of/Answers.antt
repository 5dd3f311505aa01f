-- One more set is put.
use Rattle.std.proofs.Common.{arith}
use Rattle.rule_watch.specs.Rules.{is_watched}
use Rattle.rule_watch.specs.Shown.{rules_of}
use Rattle.pm_tasks.proofs.Entries.{sets_end, sets_on}
use Rattle.pm_tasks.proofs.rows.row_of.Goals as goal

pub loop-set-preserved : goal.loop-set-preserved
loop-set-preserved c = record {
  putting = sets_on (is_watched (rules_of c.args.watch.now)) c.args.meta.now c.args.sets.now c.loop-set.set-index c.set-item.result c.loop-set.names c.put_set.new.names c.loop-set.row c.put_set.new.row (omega arith) c.set-item.is
      c.in_ok-put_set.ensures.names c.in_ok-put_set.ensures.row c.loop-set.invariant.putting;
  values = c.in_ok-put_set.ensures.values;
}

pub returns-clause-row : goal.returns-clause-row
returns-clause-row c = sets_end (is_watched (rules_of c.args.watch.now)) c.args.meta.now c.args.sets.now c.loop-set.set-index c.loop-set.names c.loop-set.row (omega arith) c.loop-set.invariant.putting
