use Rattle.std.proofs.Common.{◌≡◌, ◌++◌, ◌∷◌, [], ℕ, List, take, ◌∙◌, ap, length}
use Rattle.pcp_base.specs.declared.file.FileId.{FileId}
use Rattle.pcp_model.specs.Disk.{Held}
use Rattle.pcp_outside.specs.Devices.{Becomes}
use Rattle.pcp_memory.specs.Record.{DiskState, held_after, kept_length, kept_of}
use Rattle.pcp_memory.specs.declared.memory_disk.DiskChange.TheVariants.{Append, Sync}
use Rattle.pcp_memory.proofs.Left.{becomes_kept, kept_fits, kept_lies}
use Rattle.pcp_outside.proofs.Results.{on_ok}
use Rattle.pcp_memory.proofs.memory_disk.MemDisk.leave.Goals as goal

pub slice_bounds-lay-end : goal.slice_bounds-lay-end
slice_bounds-lay-end c =
    let keep = c.args.keep.now in
    let file = c.args.file in
    let h : Held = held_after c.args.self.now.calls file in
    kept_fits h (kept_length keep file (length h.sure)) c.count_kept-count.result c.as_slice-2.result.now
    (c.as_slice-2.ensures ∙ c.in_ok-sure.ensures.all_bytes)
    (c.count_kept-count.ensures ∙ ap (λ (k : List (FileId × ℕ)). kept_length k file c.in_ok-sure.sure) c.as_slice.ensures ∙ ap (kept_length keep file) c.in_ok-sure.ensures.sure_bytes)
    (kept_lies keep (held_after c.args.self.now.calls) file c.requires.may)

pub returns-clause-laid : goal.returns-clause-laid
returns-clause-laid c =
    let keep = c.args.keep.now in
    let file = c.args.file in
    let held = held_after c.args.self.now.calls in
    let old = c.args.image.now in
    let new = c.lay.new.self in
    let slice = c.as_slice-2.result.now in
    let count : ℕ = c.count_kept-count.result in
    let laid = (old.calls ++ Append file (take count slice) ∷ []) ++ Sync file ∷ [] in
    on_ok c.lay.result (new ≡ record old { calls = laid }) (Becomes file (kept_of keep held file) (held_after old.calls) (held_after new.calls))
    (λ is. becomes_kept keep held file old.calls new.calls count slice
    (c.as_slice-2.ensures ∙ c.in_ok-sure.ensures.all_bytes)
    (c.count_kept-count.ensures ∙ ap (λ (k : List (FileId × ℕ)). kept_length k file c.in_ok-sure.sure) c.as_slice.ensures ∙ ap (kept_length keep file) c.in_ok-sure.ensures.sure_bytes)
    c.requires.fresh
    (ap (λ (d : DiskState). d.calls) is))
    c.lay.ensures
