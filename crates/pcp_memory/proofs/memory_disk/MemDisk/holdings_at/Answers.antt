use Rattle.std.proofs.Common.{◌≡◌, ◌+◌, ◌++◌, ◌∷◌, [], List, take, sym, ◌∙◌, ap, subst}
use Rattle.std.proofs.lemmas.List.{take_more}
use Rattle.pcp_model.specs.Disk.{Held, nothing_held}
use Rattle.pcp_memory.specs.Record.{IsHeld, held_after}
use Rattle.pcp_memory.specs.declared.memory_disk.DiskChange.{DiskChange}
use Rattle.pcp_memory.proofs.Moments.{held_from-push}
use Rattle.pcp_memory.proofs.memory_disk.MemDisk.holdings_at.Goals as goal

pub loop-call-preserved : goal.loop-call-preserved
loop-call-preserved c =
    let items : List DiskChange = take c.args.moment c.as_slice.result.now in
    let i = c.loop-call.call-index in
    let done : List DiskChange = take i items in
    let x = c.call-item.result in
    let more : take (i + 1) items ≡ done ++ x ∷ [] = take_more items i x c.loop-call-test.true ∙ ap (λ (y : DiskChange). done ++ y ∷ []) (sym c.call-item.is) in
    subst (λ (l : List DiskChange). IsHeld (held_after l c.args.file) c.in_ok-sure.sure c.replay.new.bytes.items) (sym more) (
    subst (λ (h : Held). IsHeld h c.in_ok-sure.sure c.replay.new.bytes.items) (sym (held_from-push c.args.file nothing_held done x)) (
    c.in_ok-sure.ensures (held_after done c.args.file) c.loop-call.invariant))
