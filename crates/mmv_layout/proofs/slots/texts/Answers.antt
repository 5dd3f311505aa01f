-- A string lies among the first 65,536 words.
use Rattle.std.proofs.Common.{◌<◌, sym, subst, arith}
use Rattle.mmv_layout.proofs.EntryOffsets.{string_near}
use Rattle.mmv_layout.proofs.slots.texts.Goals as goal

pub overflow_cast-offset : goal.overflow_cast-offset
overflow_cast-offset c =
    let near : c.string_at-offset.result < 1048576 = subst (λ offset. offset < 1048576) (sym c.string_at-offset.ensures.offset) (string_near c.args.words.now c.loop-i.i c.requires (omega arith)) in
    omega arith
