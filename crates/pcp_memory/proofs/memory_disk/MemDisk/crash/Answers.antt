use Rattle.std.proofs.Common.{◌≡◌, List, sym, ◌∙◌, ap, arith}
use Rattle.pcp_base.specs.declared.file.FileId.TheVariants.{Volume}
use Rattle.pcp_model.specs.Disk.{bytes_of}
use Rattle.pcp_memory.specs.Record.{DiskState, held_after, kept_of}
use Rattle.pcp_memory.specs.declared.memory_disk.DiskChange.{DiskChange}
use Rattle.pcp_memory.proofs.Left.{image_kept, kept_nothing, laid_all}
use Rattle.pcp_memory.proofs.memory_disk.MemDisk.crash.Goals as goal

pub returns-clause-image : goal.returns-clause-image
returns-clause-image c =
    let keep = c.args.keep.now in
    let held = held_after c.args.self.now.calls in
    let laid = held_after c.loop-number.image.calls in
    let same : c.self.inside.calls ≡ c.args.self.now.calls = ap (λ (d : DiskState). d.calls) c.self.view_is in
    image_kept keep held laid c.requires (laid_all c.loop-number.number (kept_of keep held) laid c.loop-number.invariant.laid (λ k le. kept_nothing keep held (Volume k) (
    sym (ap (λ (l : List DiskChange). bytes_of (held_after l (Volume k))) same)
    ∙ sym (c.self.invariant (Volume k))
    ∙ c.volumes-number-end.ensures.past k (omega (arith, le, c.loop-number-test.false)))))
