use Rattle.std.proofs.Common.{◌-◌, vec_len}
use Rattle.pcp_outside.specs.Sides.{source_side}
use Rattle.pmcd_client.proofs.Filling.{IsFilled}
use Rattle.pmcd_client.proofs.receiving.fill.Given as goal

abbrev pub invariant-loop-piece : goal.invariant-loop-piece
invariant-loop-piece g l = IsFilled (source_side g.I.Source l.fn.input l.input) l.goal l.fn.bytes.items l.bytes.items

abbrev pub decreases-loop-piece : goal.decreases-loop-piece
decreases-loop-piece g l = l.goal - vec_len l.bytes
