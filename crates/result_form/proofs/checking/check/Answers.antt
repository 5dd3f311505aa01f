use Rattle.std.proofs.Common.{sym}
use Rattle.result_form.proofs.Checked.{is_whole}
use Rattle.result_form.proofs.checking.check.Goals as goal

pub returns : goal.returns
returns c = is_whole c.args.payload.now c.in_ok-stamp.stamp (sym c.in_ok-stamp.ensures) c.in_ok-count.count (sym c.in_ok-count.ensures) c.in_ok-end.end (sym c.in_ok-end.ensures.end) c.in_ok-reach.reach (sym c.in_ok-reach.ensures) c.if-reach-payload.false
