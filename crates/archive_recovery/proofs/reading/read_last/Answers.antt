use Rattle.std.proofs.Common.{ℕ, [], refl, sym, subst}
use Rattle.pcp_base.specs.declared.file.FileId.TheVariants.{Volume}
use Rattle.pcp_model.specs.Disk.{contents_of}
use Rattle.archive_recovery.specs.Counts.{CountsMore}
use Rattle.archive_recovery.specs.Volumes.{IsVolumeRead, VolumeStands}
use Rattle.archive_recovery.proofs.AllVolumes.{whole_below, stop_refused, whole_last, begun_last}
use Rattle.archive_recovery.proofs.Latest.{counted_none}
use Rattle.archive_recovery.proofs.reading.read_last.Goals as goal

pub returns-in-Stops-clause-read : goal.returns-in-Stops-clause-read
returns-in-Stops-clause-read g c = λ tells before e past.
    let files = contents_of (g.D.Disk.held c.args.disk.now) in
    let l = c.args.label.now in
    let n : ℕ = c.args.number in (
      whole_below files l n before c.args.tally.now c.args.top e,
      stop_refused files l n c.in-Stops.at c.args.tally.now c.read_volume.new.tally (subst (IsVolumeRead (files (Volume n)) l n c.args.tally.now c.read_volume.new.tally) c.in-Stops.is (c.in_ok-read_volume.ensures.read tells)),
    )

pub returns-in-Begun-clause-read : goal.returns-in-Begun-clause-read
returns-in-Begun-clause-read g c = λ tells before e past.
    let files = contents_of (g.D.Disk.held c.args.disk.now) in
    let l = c.args.label.now in
    let n : ℕ = c.args.number in
    let b = subst (IsVolumeRead (files (Volume n)) l n c.args.tally.now c.read_volume.new.tally) c.in-Begun.is (c.in_ok-read_volume.ensures.read tells) in
    begun_last files l n before c.args.tally.now c.read_volume.new.tally c.args.top e past [] (subst (CountsMore c.args.tally.now []) (sym b.3) (counted_none c.args.tally.now)) c.in-Begun.length refl b.0 b.1 b.2

pub returns-in-Whole-clause-read : goal.returns-in-Whole-clause-read
returns-in-Whole-clause-read g c = λ tells before e past.
    let files = contents_of (g.D.Disk.held c.args.disk.now) in
    let l = c.args.label.now in
    let n : ℕ = c.args.number in
    let s : VolumeStands (files (Volume n)) l n c.in-Whole.end c.in-Whole.length c.args.tally.now c.read_volume.new.tally =
    subst (IsVolumeRead (files (Volume n)) l n c.args.tally.now c.read_volume.new.tally) c.in-Whole.is (c.in_ok-read_volume.ensures.read tells) in
    whole_last files l n before c.args.tally.now c.read_volume.new.tally c.args.top e past s.items s.counted c.in-Whole.end c.in-Whole.length s.holds s.low s.within s.is_size s.torn
