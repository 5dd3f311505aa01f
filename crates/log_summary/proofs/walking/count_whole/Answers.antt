-- One item more, or the place where the whole records end.
use Rattle.std.proofs.Common.{subst}
use Rattle.archive_volume.specs.Items.{item_of}
use Rattle.log_summary.specs.Pieces.{IsFound}
use Rattle.log_summary.proofs.Walked.{walked_none, walked_on}
use Rattle.log_summary.proofs.walking.count_whole.Goals as goal

pub loop-init : goal.loop-init
loop-init c = walked_none c.args.bytes.now c.args.meta.now c.args.from c.args.to c.args.table.now

pub next_in-requires : goal.next_in-requires
next_in-requires c = c.loop.invariant.within

pub returns-in-End : goal.returns-in-End
returns-in-End c = (c.loop.invariant, subst (IsFound c.args.bytes.now c.loop.at) c.in-End.is c.next_in.ensures)

pub returns-in-Bad : goal.returns-in-Bad
returns-in-Bad c =
    let bad = subst (IsFound c.args.bytes.now c.loop.at) c.in-Bad.is c.next_in.ensures in
    (c.loop.invariant, bad.0, bad.1)

pub loop-preserved : goal.loop-preserved
loop-preserved c =
    walked_on c.args.bytes.now c.args.meta.now c.args.from c.args.to c.args.table.now c.loop.table c.count_between.new.table c.loop.at c.in-Whole.next (item_of c.in-Whole.read) c.loop.invariant
    (subst (IsFound c.args.bytes.now c.loop.at) c.in-Whole.is c.next_in.ensures) c.in_ok-count_between-in-Whole.ensures
