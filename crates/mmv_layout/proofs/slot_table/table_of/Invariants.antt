-- The slots so far.
use Rattle.std.proofs.Common.{take}
use Rattle.mmv_layout.specs.SlotTables.{HasSlots}
use Rattle.mmv_layout.proofs.slot_table.table_of.Given as goal

abbrev pub invariant-loop-slot : goal.invariant-loop-slot
invariant-loop-slot l = HasSlots l.table (take l.slot-index l.slots)
