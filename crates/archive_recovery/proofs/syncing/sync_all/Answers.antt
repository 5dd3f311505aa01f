-- The volumes are counted, and then Meta, the index and they are synced.
use Rattle.pcp_base.specs.declared.file.FileId.TheVariants.{Meta, Index}
use Rattle.archive_recovery.proofs.Sures.{looked, then_run, same_image, sync_image, all_sure_after}
use Rattle.archive_recovery.proofs.syncing.sync_all.Goals as goal

pub returns-in_err-count-clause-any_moment : goal.returns-in_err-count-clause-any_moment
returns-in_err-count-clause-any_moment g c = λ tells. looked g.D.Disk g.met.D.Disk.only_now c.args.disk.now c.volumes.new.self (c.volumes.ensures.held tells) c.volumes.ensures.time

pub returns-in_err-sync_filled-clause-any_moment :
    goal.returns-in_err-sync_filled-clause-any_moment
returns-in_err-sync_filled-clause-any_moment g c = λ tells.
    let d = g.D.Disk in
    then_run d g.met.D.Disk.only_now c.args.disk.now c.volumes.new.self c.sync_filled.new.disk
    (looked d g.met.D.Disk.only_now c.args.disk.now c.volumes.new.self (c.volumes.ensures.held tells) c.volumes.ensures.time)
    (c.sync_filled.ensures.any_moment tells) (same_image (d.held c.args.disk.now) (d.held c.volumes.new.self) (c.volumes.ensures.held tells))

pub returns-in_err-sync_filled-2-clause-any_moment :
    goal.returns-in_err-sync_filled-2-clause-any_moment
returns-in_err-sync_filled-2-clause-any_moment g c = λ tells.
    let d = g.D.Disk in
    let old = d.held c.args.disk.now in
    let same = same_image old (d.held c.volumes.new.self) (c.volumes.ensures.held tells) in
    then_run d g.met.D.Disk.only_now c.args.disk.now c.sync_filled.new.disk c.sync_filled-2.new.disk
    (then_run d g.met.D.Disk.only_now c.args.disk.now c.volumes.new.self c.sync_filled.new.disk
    (looked d g.met.D.Disk.only_now c.args.disk.now c.volumes.new.self (c.volumes.ensures.held tells) c.volumes.ensures.time)
    (c.sync_filled.ensures.any_moment tells) same)
    (c.sync_filled-2.ensures.any_moment tells)
    (sync_image Meta old (d.held c.volumes.new.self) (d.held c.sync_filled.new.disk) (c.in_ok-sync_filled.ensures.held tells) same)

pub returns-clause-held : goal.returns-clause-held
returns-clause-held g c = λ tells.
    let d = g.D.Disk in
    all_sure_after c.in_ok-count.count (d.held c.args.disk.now) (d.held c.volumes.new.self) (d.held c.sync_filled.new.disk) (d.held c.sync_filled-2.new.disk) (d.held c.sync_volumes.new.disk) c.sync_volumes.result
    (c.in_ok-count.ensures.count tells) (c.volumes.ensures.held tells) (c.in_ok-sync_filled.ensures.held tells) (c.in_ok-sync_filled-2.ensures.held tells) (c.sync_volumes.ensures.held tells)

pub returns-clause-any_moment : goal.returns-clause-any_moment
returns-clause-any_moment g c = λ tells.
    let d = g.D.Disk in
    let old = d.held c.args.disk.now in
    let same = same_image old (d.held c.volumes.new.self) (c.volumes.ensures.held tells) in
    let first = sync_image Meta old (d.held c.volumes.new.self) (d.held c.sync_filled.new.disk) (c.in_ok-sync_filled.ensures.held tells) same in
    then_run d g.met.D.Disk.only_now c.args.disk.now c.sync_filled-2.new.disk c.sync_volumes.new.disk
    (then_run d g.met.D.Disk.only_now c.args.disk.now c.sync_filled.new.disk c.sync_filled-2.new.disk
    (then_run d g.met.D.Disk.only_now c.args.disk.now c.volumes.new.self c.sync_filled.new.disk
    (looked d g.met.D.Disk.only_now c.args.disk.now c.volumes.new.self (c.volumes.ensures.held tells) c.volumes.ensures.time)
    (c.sync_filled.ensures.any_moment tells) same)
    (c.sync_filled-2.ensures.any_moment tells) first)
    (c.sync_volumes.ensures.any_moment tells)
    (sync_image Index old (d.held c.sync_filled.new.disk) (d.held c.sync_filled-2.new.disk) (c.in_ok-sync_filled-2.ensures.held tells) first)
