use Rattle.std.proofs.Common.{◌-◌, ℕ, subst}
use Rattle.pcp_model.specs.Disk.{contents_of}
use Rattle.archive_loading.proofs.Looking.{looks_on}
use Rattle.archive_recovery.specs.Volumes.{IsEarlier}
use Rattle.archive_recovery.proofs.reading.read_volumes.Goals as goal

pub returns-in-Whole-clause-looks : goal.returns-in-Whole-clause-looks
returns-in-Whole-clause-looks g c = looks_on g.D.Disk c.args.disk.now c.read_earlier.new.disk c.read_last.new.disk
    (looks_on g.D.Disk c.args.disk.now c.count_volumes.new.disk c.read_earlier.new.disk c.count_volumes.ensures.looks c.read_earlier.ensures.looks) c.read_last.ensures.looks

pub returns-in-Stops-clause-read : goal.returns-in-Stops-clause-read
returns-in-Stops-clause-read g c = λ tells.
    let l = c.args.label.now in
    let n : ℕ = c.in_ok-count.count - 1 in
    let read = subst (λ h. IsEarlier (contents_of h) l n c.args.tally.now c.read_earlier.new.tally c.in_ok-top.field-0) (c.count_volumes.ensures.looks.held tells) (c.in_ok-top.ensures.read tells) in
    subst (IsEarlier (contents_of (g.D.Disk.held c.args.disk.now)) l n c.args.tally.now c.read_earlier.new.tally) c.in-Stops.is read
