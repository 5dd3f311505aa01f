use Rattle.std.proofs.Common.{◌≡◌, ◌⊎◌, [], subst}
use Rattle.pcp_model.specs.Disk.{contents_of}
use Rattle.archive_loading.specs.Loaded.{HasLong, AllShort}
use Rattle.archive_loading.specs.Volumes.{IsVolumesPart}
use Rattle.archive_loading.proofs.Loads.{beside_fault, whole_archive}
use Rattle.archive_reader.proofs.reader.load_behind.Goals as goal

pub returns-then-not-is_beside-clause-fault : goal.returns-then-not-is_beside-clause-fault
returns-then-not-is_beside-clause-fault g c = λ tells.
    let files = contents_of (g.D.Disk.held c.args.disk.now) in
    let part = subst (IsVolumesPart files c.args.label) c.in-Headed.is (c.in_ok-volumes.ensures.volumes tells) in
    let why = c.if-not-is_beside.ensures in
    beside_fault files c.args.label c.args.meta c.args.index c.in-Headed.volumes (c.requires tells) part (why.0, subst AllShort c.as_slice.ensures why.1)

pub returns-clause-loaded : goal.returns-clause-loaded
returns-clause-loaded g c = λ tells.
    let files = contents_of (g.D.Disk.held c.args.disk.now) in
    let part = subst (IsVolumesPart files c.args.label) c.in-Headed.is (c.in_ok-volumes.ensures.volumes tells) in
    whole_archive files c.args.label c.args.meta c.args.index c.in-Headed.volumes (c.requires tells) part (subst (λ vs. (c.args.index ≡ []) ⊎ HasLong vs) c.as_slice.ensures c.if-not-is_beside.ensures)
