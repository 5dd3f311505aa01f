use Rattle.std.proofs.Common.{◌-◌, length, arith}
use Rattle.archive_check.proofs.Surveyed.{top_last, no_top}
use Rattle.archive_check.proofs.pointing.top_of.Goals as goal

pub returns-then-count-eq0 : goal.returns-then-count-eq0
returns-then-count-eq0 c = no_top c.args.volumes.now c.if-count-eq0.true

pub returns : goal.returns
returns c = top_last c.args.volumes.now (length c.args.volumes.now - 1) (0, 0) (omega (arith, c.if-count-eq0.false))
