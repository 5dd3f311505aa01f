-- One slot more was kept.
use Rattle.std.proofs.Common.{arith, refl}
use Rattle.mmv_layout.proofs.SlotTables.{slots_step}
use Rattle.mmv_layout.proofs.slot_table.table_of.Goals as goal

pub loop-slot-preserved : goal.loop-slot-preserved
loop-slot-preserved c = slots_step c.loop-slot.table c.keep.new.slots c.args.slots.now c.loop-slot.slot-index _ _ (omega arith) refl c.loop-slot.invariant c.in_ok-keep.ensures
