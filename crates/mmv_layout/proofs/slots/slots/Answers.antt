-- A value lies among the first 65,536 words.
use Rattle.std.proofs.Common.{◌<◌, sym, subst, arith}
use Rattle.mmv_layout.proofs.EntryOffsets.{value_near}
use Rattle.mmv_layout.proofs.slots.slots.Goals as goal

pub slot_at-requires : goal.slot_at-requires
slot_at-requires c = subst (λ offset. offset < 1048576) (sym c.value_at.ensures.offset) (value_near c.args.words.now c.loop-i.i c.requires (omega arith))
