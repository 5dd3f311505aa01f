use Rattle.std.proofs.Common.{◌<◌, ◌≤◌, ℕ, List, length, sym, subst}
use Rattle.std.specs.Prelude.{IfSome, IfErr}
use Rattle.pcp_base.specs.declared.file.FileId.TheVariants.{Volume}
use Rattle.pcp_model.specs.Disk.{contents_of}
use Rattle.archive_reader.specs.Asked.{back_end, IsBackFault}
use Rattle.archive_reader.specs.Lasts.{IsLastOn}
use Rattle.archive_reader.specs.Walks.{volumes_from}
use Rattle.archive_reader.proofs.Backs.{back_numbered, back_within, none_faults}
use Rattle.archive_reader.proofs.lasts.at_on.Goals as goal

pub item_before-requires-clause-numbered : goal.item_before-requires-clause-numbered
item_before-requires-clause-numbered g c = subst (λ o. IfSome o (λ v. v.0 < 4294967295)) (sym c.back_end.ensures) (back_numbered c.args.volumes.now c.args.number c.args.offset c.requires.numbered)

pub item_before-requires-clause-within : goal.item_before-requires-clause-within
item_before-requires-clause-within g c = λ tells.
    let files = contents_of (g.D.Disk.held c.args.disk.now) in
    subst (λ h. IfSome c.back_end.result (λ v. v.1 ≤ length (contents_of h (Volume v.0)))) (sym (c.last_on.ensures.looks.held tells))
    (subst (λ o. IfSome o (λ v. v.1 ≤ length (files (Volume v.0)))) (sym c.back_end.ensures)
    (back_within files c.args.volumes.now c.args.number c.args.offset (c.requires.lengths tells) c.requires.begins))

pub returns-in-None-clause-fault : goal.returns-in-None-clause-fault
returns-in-None-clause-fault g c = λ tells.
    let files = contents_of (g.D.Disk.held c.args.disk.now) in
    let volumes : List (ℕ × ℕ) = c.args.volumes.now in
    let found = subst (IsLastOn files (volumes_from c.args.number volumes) c.args.offset c.args.t) c.in-None.is
    (subst (λ vs. IsLastOn files vs c.args.offset c.args.t c.in_ok-item.field-0) c.first_from-index.ensures.volumes (c.in_ok-item.ensures.found tells)) in
    let fault = subst (λ o. IfErr c.item_before.result (IsBackFault files o)) c.back_end.ensures
    (subst (λ h. IfErr c.item_before.result (IsBackFault (contents_of h) c.back_end.result)) (c.last_on.ensures.looks.held tells) (c.item_before.ensures.fault tells)) in
    none_faults files (volumes_from c.args.number volumes) c.args.offset (back_end volumes c.args.number c.args.offset) c.args.t c.item_before.result found fault
