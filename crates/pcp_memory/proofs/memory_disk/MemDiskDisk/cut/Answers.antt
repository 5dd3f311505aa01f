use Rattle.std.proofs.Common.{◌≡◌, ◌++◌, ◌∷◌, [], List, ◌∙◌, ap, subst}
use Rattle.pcp_memory.specs.Record.{DiskState, DoesPart}
use Rattle.pcp_memory.specs.declared.memory_disk.DiskChange.{DiskChange}
use Rattle.pcp_memory.specs.declared.memory_disk.DiskChange.TheVariants.{Cut}
use Rattle.pcp_memory.proofs.Moments.{becomes_push, elapses_push, elapses_same}
use Rattle.pcp_memory.proofs.Planned.{cuts_part, elapses_part}
use Rattle.pcp_memory.proofs.memory_disk.MemDiskDisk.cut.Goals as goal

pub returns-in-Err-clause-time : goal.returns-in-Err-clause-time
returns-in-Err-clause-time c = elapses_same c.args.self.now.calls c.self.inside.calls (ap (λ (d : DiskState). d.calls) c.self.view_is)

pub returns-in-Ok-clause-held : goal.returns-in-Ok-clause-held
returns-in-Ok-clause-held c =
    let same : c.self.inside.calls ≡ c.args.self.now.calls = ap (λ (d : DiskState). d.calls) c.self.view_is in
    becomes_push c.args.self.now.calls c.cut_part.new.calls (Cut c.args.file c.args.len) (c.in-Ok.ensures.ok ∙ ap (λ (l : List DiskChange). l ++ (Cut c.args.file c.args.len) ∷ []) same)

pub returns-in-Ok-clause-time : goal.returns-in-Ok-clause-time
returns-in-Ok-clause-time c =
    let same : c.self.inside.calls ≡ c.args.self.now.calls = ap (λ (d : DiskState). d.calls) c.self.view_is in
    elapses_push c.args.self.now.calls c.cut_part.new.calls (Cut c.args.file c.args.len) (c.in-Ok.ensures.ok ∙ ap (λ (l : List DiskChange). l ++ (Cut c.args.file c.args.len) ∷ []) same)

pub returns-in-Err-cut_part-clause-held : goal.returns-in-Err-cut_part-clause-held
returns-in-Err-cut_part-clause-held c =
    let same : c.self.inside.calls ≡ c.args.self.now.calls = ap (λ (d : DiskState). d.calls) c.self.view_is in
    cuts_part c.ask-fault.result c.args.self.now.calls c.cut_part.new.calls c.args.file c.args.len (subst (λ (l : List DiskChange). DoesPart c.ask-fault.result (Cut c.args.file c.args.len) l c.cut_part.new.calls) same c.in-Err-cut_part.ensures.err)

pub returns-in-Err-cut_part-clause-time : goal.returns-in-Err-cut_part-clause-time
returns-in-Err-cut_part-clause-time c =
    let same : c.self.inside.calls ≡ c.args.self.now.calls = ap (λ (d : DiskState). d.calls) c.self.view_is in
    elapses_part c.ask-fault.result (Cut c.args.file c.args.len) c.args.self.now.calls c.cut_part.new.calls (subst (λ (l : List DiskChange). DoesPart c.ask-fault.result (Cut c.args.file c.args.len) l c.cut_part.new.calls) same c.in-Err-cut_part.ensures.err)
