-- Two values of one metric and one instance are one.
use Rattle.mmv_layout.proofs.SlotsOnce.{one_slot_each}
use Rattle.mmv_layout.proofs.laws.one_slot_each.Goals as goal

pub returns : goal.returns
returns c = one_slot_each
