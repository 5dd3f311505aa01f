use Rattle.std.proofs.Common.{◌∙◌, ◌+◌, ℕ, sym, subst}
use Rattle.pcp_base.specs.declared.file.FileId.TheVariants.{Volume}
use Rattle.pcp_model.specs.Disk.{contents_of}
use Rattle.archive_loading.proofs.Looking.{looks_on}
use Rattle.archive_recovery.specs.Volumes.{IsVolumeRead, EarlierStand}
use Rattle.archive_recovery.proofs.AllVolumes.{whole_below, is_followed, begun_refused, torn_refused, stop_refused, empty_more, volume_more}
use Rattle.archive_recovery.proofs.reading.read_earlier.Goals.{in-Empty, in-Whole+else-end-length}
use Rattle.archive_recovery.proofs.reading.read_earlier.Goals as goal

pub returns-in-Begun-clause-read : goal.returns-in-Begun-clause-read
returns-in-Begun-clause-read g c = λ tells.
    let files = contents_of (g.D.Disk.held c.args.disk.now) in
    let l = c.args.label.now in
    let n : ℕ = c.loop-number.number in
    let read = subst (λ h. IsVolumeRead (contents_of h (Volume n)) l n c.loop-number.tally c.read_volume.new.tally c.in_ok-read_volume.field-0) (c.loop-number.invariant.looks.held tells) (c.in_ok-read_volume.ensures.read tells) in
    let b = subst (IsVolumeRead (files (Volume n)) l n c.loop-number.tally c.read_volume.new.tally) c.in-Begun.is read in (
      whole_below files l n c.args.tally.now c.loop-number.tally c.loop-number.top (c.loop-number.invariant.so_far tells),
      begun_refused files l n c.in-Begun.at (is_followed files l n c.args.count c.loop-number-test.true (c.requires.followed tells)) b.0 b.1 b.2,
    )

pub returns-in-Stops-clause-read : goal.returns-in-Stops-clause-read
returns-in-Stops-clause-read g c = λ tells.
    let files = contents_of (g.D.Disk.held c.args.disk.now) in
    let l = c.args.label.now in
    let n : ℕ = c.loop-number.number in
    let read = subst (λ h. IsVolumeRead (contents_of h (Volume n)) l n c.loop-number.tally c.read_volume.new.tally c.in_ok-read_volume.field-0) (c.loop-number.invariant.looks.held tells) (c.in_ok-read_volume.ensures.read tells) in (
      whole_below files l n c.args.tally.now c.loop-number.tally c.loop-number.top (c.loop-number.invariant.so_far tells),
      stop_refused files l n c.in-Stops.at c.loop-number.tally c.read_volume.new.tally (subst (IsVolumeRead (files (Volume n)) l n c.loop-number.tally c.read_volume.new.tally) c.in-Stops.is read),
    )

pub returns-then-end-length-clause-read : goal.returns-then-end-length-clause-read
returns-then-end-length-clause-read g c = λ tells.
    let files = contents_of (g.D.Disk.held c.args.disk.now) in
    let l = c.args.label.now in
    let n : ℕ = c.loop-number.number in
    let read = subst (λ h. IsVolumeRead (contents_of h (Volume n)) l n c.loop-number.tally c.read_volume.new.tally c.in_ok-read_volume.field-0) (c.loop-number.invariant.looks.held tells) (c.in_ok-read_volume.ensures.read tells) in (
      whole_below files l n c.args.tally.now c.loop-number.tally c.loop-number.top (c.loop-number.invariant.so_far tells),
      torn_refused files l n c.in-Whole.end c.in-Whole.length c.loop-number.tally c.read_volume.new.tally (is_followed files l n c.args.count c.loop-number-test.true (c.requires.followed tells))
          (subst (IsVolumeRead (files (Volume n)) l n c.loop-number.tally c.read_volume.new.tally) c.in-Whole.is read) c.if-end-length.true,
    )

pub loop-number-preserved : goal.loop-number-preserved
loop-number-preserved g c =
    let files = contents_of (g.D.Disk.held c.args.disk.now) in
    let l = c.args.label.now in
    let n : ℕ = c.loop-number.number in
    record {
      looks = looks_on g.D.Disk c.args.disk.now c.loop-number.disk c.read_volume.new.disk c.loop-number.invariant.looks c.read_volume.ensures.looks;
      quiet = c.in_ok-read_volume.ensures.quiet ∙ c.loop-number.invariant.quiet;
      so_far = λ tells.
          let read = subst (λ h. IsVolumeRead (contents_of h (Volume n)) l n c.loop-number.tally c.read_volume.new.tally c.in_ok-read_volume.field-0) (c.loop-number.invariant.looks.held tells) (c.in_ok-read_volume.ensures.read tells) in
          elim c.match-branch-2.branch [
            | in-Empty w ↦
                let none = subst (IsVolumeRead (files (Volume n)) l n c.loop-number.tally c.read_volume.new.tally) w.in-Empty.is read in
                subst (EarlierStand files l (n + 1) c.args.tally.now c.read_volume.new.tally) (sym w.top-is)
                (empty_more files l n c.args.tally.now c.loop-number.tally c.read_volume.new.tally c.loop-number.top none.0 none.1 (c.loop-number.invariant.so_far tells))
            | in-Whole+else-end-length w ↦
                subst (EarlierStand files l (n + 1) c.args.tally.now c.read_volume.new.tally) (sym w.top-is)
                (volume_more files l n w.in-Whole.end w.in-Whole.length c.args.tally.now c.loop-number.tally c.read_volume.new.tally c.loop-number.top
                (subst (IsVolumeRead (files (Volume n)) l n c.loop-number.tally c.read_volume.new.tally) w.in-Whole.is read) w.if-end-length.false (c.loop-number.invariant.so_far tells))
          ];
    }
