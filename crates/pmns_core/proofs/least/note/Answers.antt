-- A slot that is written stays, and so do the others.
use Rattle.std.proofs.Common.{Some}
use Rattle.pmns_core.proofs.Slots.{some_cond}
use Rattle.pmns_core.proofs.least.note.Goals as goal

pub returns-then-is_less-clause-slots : goal.returns-then-is_less-clause-slots
returns-then-is_less-clause-slots c q had =
    let u = (c.get_mut.follows.holds (Some c.args.name)).3 c.requires in
    rw (u.0 q) (some_cond _ (Some c.args.name) _ had)

pub returns-else-is_less-clause-slots : goal.returns-else-is_less-clause-slots
returns-else-is_less-clause-slots c q had =
    let u = (c.get_mut.follows.holds c.match-slot.slot).3 c.requires in
    rw (u.0 q) (some_cond _ c.match-slot.slot _ had)
