use Rattle.std.proofs.Common.{◌≡◌, ◌++◌, ◌∷◌, [], List, ◌∙◌, ap, subst}
use Rattle.pcp_memory.specs.Record.{DiskState, DoesPart}
use Rattle.pcp_memory.specs.declared.memory_disk.DiskChange.{DiskChange}
use Rattle.pcp_memory.specs.declared.memory_disk.DiskChange.TheVariants.{Append}
use Rattle.pcp_memory.proofs.Moments.{becomes_push, elapses_push, elapses_same}
use Rattle.pcp_memory.proofs.Planned.{appends_part, elapses_part}
use Rattle.pcp_memory.proofs.memory_disk.MemDiskDisk.append.Goals as goal

pub returns-in-Err-clause-time : goal.returns-in-Err-clause-time
returns-in-Err-clause-time c = elapses_same c.args.self.now.calls c.self.inside.calls (ap (λ (d : DiskState). d.calls) c.self.view_is)

pub returns-in-Ok-clause-held : goal.returns-in-Ok-clause-held
returns-in-Ok-clause-held c =
    let same : c.self.inside.calls ≡ c.args.self.now.calls = ap (λ (d : DiskState). d.calls) c.self.view_is in
    becomes_push c.args.self.now.calls c.append_part.new.calls (Append c.args.file c.args.bytes.now) (c.in-Ok.ensures.ok ∙ ap (λ (l : List DiskChange). l ++ (Append c.args.file c.args.bytes.now) ∷ []) same)

pub returns-in-Ok-clause-time : goal.returns-in-Ok-clause-time
returns-in-Ok-clause-time c =
    let same : c.self.inside.calls ≡ c.args.self.now.calls = ap (λ (d : DiskState). d.calls) c.self.view_is in
    elapses_push c.args.self.now.calls c.append_part.new.calls (Append c.args.file c.args.bytes.now) (c.in-Ok.ensures.ok ∙ ap (λ (l : List DiskChange). l ++ (Append c.args.file c.args.bytes.now) ∷ []) same)

pub returns-in-Err-append_part-clause-held : goal.returns-in-Err-append_part-clause-held
returns-in-Err-append_part-clause-held c =
    let same : c.self.inside.calls ≡ c.args.self.now.calls = ap (λ (d : DiskState). d.calls) c.self.view_is in
    appends_part c.ask-fault.result c.args.self.now.calls c.append_part.new.calls c.args.file c.args.bytes.now (subst (λ (l : List DiskChange). DoesPart c.ask-fault.result (Append c.args.file c.args.bytes.now) l c.append_part.new.calls) same c.in-Err-append_part.ensures.err)

pub returns-in-Err-append_part-clause-time : goal.returns-in-Err-append_part-clause-time
returns-in-Err-append_part-clause-time c =
    let same : c.self.inside.calls ≡ c.args.self.now.calls = ap (λ (d : DiskState). d.calls) c.self.view_is in
    elapses_part c.ask-fault.result (Append c.args.file c.args.bytes.now) c.args.self.now.calls c.append_part.new.calls (subst (λ (l : List DiskChange). DoesPart c.ask-fault.result (Append c.args.file c.args.bytes.now) l c.append_part.new.calls) same c.in-Err-append_part.ensures.err)
