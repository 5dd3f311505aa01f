use Rattle.std.proofs.Common.{subst}
use Rattle.archive_merge.specs.Facts.{HasNumbers, both_lists}
use Rattle.archive_merge.proofs.Lookups.{others_kept}
use Rattle.archive_merge.proofs.lists.push_others.Goals as goal

pub loop-at-preserved : goal.loop-at-preserved
loop-at-preserved c =
    others_kept c.in_ok-numbers.numbers c.args.made.now (subst (HasNumbers c.in_ok-numbers.numbers) c.as_slice.ensures c.in_ok-numbers.ensures) c.loop-at.made c.push_other.new.made (both_lists c.args.made.now c.args.pairs.now) c.args.pairs.now c.loop-at.at
    c.loop-at.invariant c.in_ok-push_other.ensures
