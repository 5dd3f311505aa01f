use Rattle.std.proofs.Common.{ℕ, true, List, refl, subst, inr}
use Rattle.pcp_base.specs.declared.file.FileId.TheVariants.{Volume}
use Rattle.pcp_model.specs.Disk.{contents_of}
use Rattle.archive_loading.proofs.Looking.{looks_on}
use Rattle.archive_loading.specs.Volumes.{IsVolumePart}
use Rattle.archive_recovery.specs.Volumes.{IsItemsRead}
use Rattle.archive_recovery.proofs.OneVolume.{begun_here, label_here, volume_stands, volume_breaks}
use Rattle.archive_recovery.proofs.counting.read_volume.Goals as goal

pub returns-then-length-lt132-clause-read : goal.returns-then-length-lt132-clause-read
returns-then-length-lt132-clause-read g c = λ tells.
    let files = contents_of (g.D.Disk.held c.args.disk.now) in
    let part = subst (IsVolumePart files c.args.label.now c.args.number true) c.in-Headed.is (c.in_ok-load_volume.ensures.volume tells) in
    (part.0, part.1, begun_here files c.args.label.now c.args.number c.in-Headed.length c.if-length-lt132.true part, refl)

pub returns-in_err-end-clause-looks : goal.returns-in_err-end-clause-looks
returns-in_err-end-clause-looks g c = looks_on g.D.Disk c.args.disk.now c.load_volume.new.disk c.read_items.new.disk c.load_volume.ensures.looks c.read_items.ensures.looks

pub returns-in-Whole-clause-read : goal.returns-in-Whole-clause-read
returns-in-Whole-clause-read g c = λ tells.
    let files = contents_of (g.D.Disk.held c.args.disk.now) in
    let bytes : List ℕ = files (Volume c.args.number) in
    let part = subst (IsVolumePart files c.args.label.now c.args.number true) c.in-Headed.is (c.in_ok-load_volume.ensures.volume tells) in
    let read = subst (λ h. IsItemsRead (contents_of h (Volume c.args.number)) c.args.tally.now c.read_items.new.tally c.in_ok-end.field-0) (c.load_volume.ensures.looks.held tells) (c.in_ok-end.ensures.read tells) in
    volume_stands files c.args.label.now c.args.number c.in-Whole.end c.in-Headed.length c.args.tally.now c.read_items.new.tally part.0
    (label_here files c.args.label.now c.args.number c.in-Headed.length c.if-length-lt132.false part) (subst (IsItemsRead bytes c.args.tally.now c.read_items.new.tally) c.in-Whole.is read)

pub returns-in-Whole-clause-looks : goal.returns-in-Whole-clause-looks
returns-in-Whole-clause-looks g c = looks_on g.D.Disk c.args.disk.now c.load_volume.new.disk c.read_items.new.disk c.load_volume.ensures.looks c.read_items.ensures.looks

pub returns-in-Stops-2-clause-read : goal.returns-in-Stops-2-clause-read
returns-in-Stops-2-clause-read g c = λ tells.
    let files = contents_of (g.D.Disk.held c.args.disk.now) in
    let bytes : List ℕ = files (Volume c.args.number) in
    let part = subst (IsVolumePart files c.args.label.now c.args.number true) c.in-Headed.is (c.in_ok-load_volume.ensures.volume tells) in
    let read = subst (λ h. IsItemsRead (contents_of h (Volume c.args.number)) c.args.tally.now c.read_items.new.tally c.in_ok-end.field-0) (c.load_volume.ensures.looks.held tells) (c.in_ok-end.ensures.read tells) in
    inr (volume_breaks files c.args.label.now c.args.number c.in-Stops-2.at (label_here files c.args.label.now c.args.number c.in-Headed.length c.if-length-lt132.false part)
    (subst (IsItemsRead bytes c.args.tally.now c.read_items.new.tally) c.in-Stops-2.is read))

pub returns-in-Stops-2-clause-looks : goal.returns-in-Stops-2-clause-looks
returns-in-Stops-2-clause-looks g c = looks_on g.D.Disk c.args.disk.now c.load_volume.new.disk c.read_items.new.disk c.load_volume.ensures.looks c.read_items.ensures.looks
