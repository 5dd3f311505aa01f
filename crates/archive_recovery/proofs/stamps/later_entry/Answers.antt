use Rattle.std.proofs.Common.{List, subst, sym, arith, take}
use Rattle.std.specs.Prelude.{option_to_list}
use Rattle.std.proofs.lemmas.List.{take_all}
use Rattle.pcp_base.specs.Time.{Moment}
use Rattle.pcp_model.specs.declared.records.Entry.{Entry}
use Rattle.archive_recovery.specs.Stamps.{entry_stamps, IsLatestOn}
use Rattle.archive_recovery.proofs.Latest.{latest_then}
use Rattle.archive_recovery.proofs.stamps.later_entry.Goals as goal

pub loop-at-preserved : goal.loop-at-preserved
loop-at-preserved c = subst (λ (ms : List Moment). IsLatestOn c.args.last ms c.later_by-latest.result) (sym c.stamp_at.ensures)
    (latest_then c.args.last c.loop-at.latest c.later_by-latest.result (entry_stamps (take c.loop-at.at c.args.index.now)) (option_to_list c.stamp_at.result) c.loop-at.invariant c.later_by-latest.ensures)

pub returns : goal.returns
returns c = subst (λ (es : List Entry). IsLatestOn c.args.last (entry_stamps es) c.loop-at.latest) (take_all c.loop-at.at c.args.index.now (omega (arith, c.loop-at-test.false, c.len-at-end.ensures))) c.loop-at.invariant
