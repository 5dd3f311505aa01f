-- Meta, the index and the volumes are mended one after another, and all is synced.
use Rattle.pcp_base.specs.declared.file.FileId.TheVariants.{Meta}
use Rattle.pcp_model.specs.Disk.{CrashImage}
use Rattle.pcp_outside.specs.Devices.{LeavesOnly}
use Rattle.pcp_outside.proofs.Crash.{joined, weaker}
use Rattle.archive_recovery.specs.Damage.{MayBeMended}
use Rattle.archive_recovery.specs.Mending.{MayBeCut, IndexMayBe, VolumesMayBe}
use Rattle.archive_recovery.proofs.Steps.{first_step, second_step, third_step, last_step, all_mended_ok}
use Rattle.archive_recovery.proofs.whole.mend.Goals as goal

pub returns-in_err-cut_tail-clause-any_moment : goal.returns-in_err-cut_tail-clause-any_moment
returns-in_err-cut_tail-clause-any_moment g c = λ tells.
    let d = g.D.Disk in
    let old = d.held c.args.disk.now in
    weaker d.moment d.left_since d.held c.args.disk.now c.cut_tail.new.disk (MayBeCut Meta c.args.damage.meta.end old) (MayBeMended c.args.damage c.args.index_label.now c.args.volume_label.now old) (c.cut_tail.ensures.any_moment tells)
    (λ image may settled a found. first_step old a c.args.damage c.args.index_label.now c.args.volume_label.now found settled image may)

pub returns-in_err-mend_index-clause-any_moment : goal.returns-in_err-mend_index-clause-any_moment
returns-in_err-mend_index-clause-any_moment g c = λ tells.
    let d = g.D.Disk in
    let old = d.held c.args.disk.now in
    let first : LeavesOnly d.moment d.left_since c.args.disk.now c.cut_tail.new.disk (MayBeMended c.args.damage c.args.index_label.now c.args.volume_label.now old) =
    weaker d.moment d.left_since d.held c.args.disk.now c.cut_tail.new.disk (MayBeCut Meta c.args.damage.meta.end old) (MayBeMended c.args.damage c.args.index_label.now c.args.volume_label.now old) (c.cut_tail.ensures.any_moment tells)
    (λ image may settled a found. first_step old a c.args.damage c.args.index_label.now c.args.volume_label.now found settled image may) in
    joined d.moment d.left_since d.held c.args.disk.now c.cut_tail.new.disk c.mend_index.new.disk (MayBeMended c.args.damage c.args.index_label.now c.args.volume_label.now old) first
    (weaker d.moment d.left_since d.held c.cut_tail.new.disk c.mend_index.new.disk (IndexMayBe c.args.damage.index c.args.index_label.now (d.held c.cut_tail.new.disk)) (MayBeMended c.args.damage c.args.index_label.now c.args.volume_label.now old) (c.mend_index.ensures.any_moment tells)
    (λ image may settled a found. second_step old a c.args.damage c.args.index_label.now c.args.volume_label.now found settled (d.held c.cut_tail.new.disk) (c.in_ok-cut_tail.ensures.held tells) image may))

pub returns-in_err-mend_volumes-clause-any_moment :
    goal.returns-in_err-mend_volumes-clause-any_moment
returns-in_err-mend_volumes-clause-any_moment g c = λ tells.
    let d = g.D.Disk in
    let old = d.held c.args.disk.now in
    let first : LeavesOnly d.moment d.left_since c.args.disk.now c.cut_tail.new.disk (MayBeMended c.args.damage c.args.index_label.now c.args.volume_label.now old) =
    weaker d.moment d.left_since d.held c.args.disk.now c.cut_tail.new.disk (MayBeCut Meta c.args.damage.meta.end old) (MayBeMended c.args.damage c.args.index_label.now c.args.volume_label.now old) (c.cut_tail.ensures.any_moment tells)
    (λ image may settled a found. first_step old a c.args.damage c.args.index_label.now c.args.volume_label.now found settled image may) in
    let second : LeavesOnly d.moment d.left_since c.args.disk.now c.mend_index.new.disk (MayBeMended c.args.damage c.args.index_label.now c.args.volume_label.now old) =
    joined d.moment d.left_since d.held c.args.disk.now c.cut_tail.new.disk c.mend_index.new.disk (MayBeMended c.args.damage c.args.index_label.now c.args.volume_label.now old) first
    (weaker d.moment d.left_since d.held c.cut_tail.new.disk c.mend_index.new.disk (IndexMayBe c.args.damage.index c.args.index_label.now (d.held c.cut_tail.new.disk)) (MayBeMended c.args.damage c.args.index_label.now c.args.volume_label.now old) (c.mend_index.ensures.any_moment tells)
    (λ image may settled a found. second_step old a c.args.damage c.args.index_label.now c.args.volume_label.now found settled (d.held c.cut_tail.new.disk) (c.in_ok-cut_tail.ensures.held tells) image may)) in
    joined d.moment d.left_since d.held c.args.disk.now c.mend_index.new.disk c.mend_volumes.new.disk (MayBeMended c.args.damage c.args.index_label.now c.args.volume_label.now old) second
    (weaker d.moment d.left_since d.held c.mend_index.new.disk c.mend_volumes.new.disk (VolumesMayBe c.args.damage.last c.args.damage.bare c.args.volume_label.now (d.held c.mend_index.new.disk)) (MayBeMended c.args.damage c.args.index_label.now c.args.volume_label.now old) (c.mend_volumes.ensures.any_moment tells)
    (λ image may settled a found. third_step old a c.args.damage c.args.index_label.now c.args.volume_label.now found settled (d.held c.cut_tail.new.disk) (c.in_ok-cut_tail.ensures.held tells) (d.held c.mend_index.new.disk) (c.in_ok-mend_index.ensures.held tells) image may))

pub returns-clause-recovered : goal.returns-clause-recovered
returns-clause-recovered g c = λ tells a found.
    let d = g.D.Disk in
    all_mended_ok (d.held c.args.disk.now) a c.args.damage c.args.index_label.now c.args.volume_label.now found (d.held c.cut_tail.new.disk) (d.held c.mend_index.new.disk) (d.held c.mend_volumes.new.disk) (d.held c.sync_all.new.disk) c.sync_all.result
    (c.in_ok-cut_tail.ensures.held tells) (c.in_ok-mend_index.ensures.held tells) (c.in_ok-mend_volumes.ensures.held tells) (c.sync_all.ensures.held tells)

pub returns-clause-any_moment : goal.returns-clause-any_moment
returns-clause-any_moment g c = λ tells.
    let d = g.D.Disk in
    let old = d.held c.args.disk.now in
    let first : LeavesOnly d.moment d.left_since c.args.disk.now c.cut_tail.new.disk (MayBeMended c.args.damage c.args.index_label.now c.args.volume_label.now old) =
    weaker d.moment d.left_since d.held c.args.disk.now c.cut_tail.new.disk (MayBeCut Meta c.args.damage.meta.end old) (MayBeMended c.args.damage c.args.index_label.now c.args.volume_label.now old) (c.cut_tail.ensures.any_moment tells)
    (λ image may settled a found. first_step old a c.args.damage c.args.index_label.now c.args.volume_label.now found settled image may) in
    let second : LeavesOnly d.moment d.left_since c.args.disk.now c.mend_index.new.disk (MayBeMended c.args.damage c.args.index_label.now c.args.volume_label.now old) =
    joined d.moment d.left_since d.held c.args.disk.now c.cut_tail.new.disk c.mend_index.new.disk (MayBeMended c.args.damage c.args.index_label.now c.args.volume_label.now old) first
    (weaker d.moment d.left_since d.held c.cut_tail.new.disk c.mend_index.new.disk (IndexMayBe c.args.damage.index c.args.index_label.now (d.held c.cut_tail.new.disk)) (MayBeMended c.args.damage c.args.index_label.now c.args.volume_label.now old) (c.mend_index.ensures.any_moment tells)
    (λ image may settled a found. second_step old a c.args.damage c.args.index_label.now c.args.volume_label.now found settled (d.held c.cut_tail.new.disk) (c.in_ok-cut_tail.ensures.held tells) image may)) in
    let third : LeavesOnly d.moment d.left_since c.args.disk.now c.mend_volumes.new.disk (MayBeMended c.args.damage c.args.index_label.now c.args.volume_label.now old) =
    joined d.moment d.left_since d.held c.args.disk.now c.mend_index.new.disk c.mend_volumes.new.disk (MayBeMended c.args.damage c.args.index_label.now c.args.volume_label.now old) second
    (weaker d.moment d.left_since d.held c.mend_index.new.disk c.mend_volumes.new.disk (VolumesMayBe c.args.damage.last c.args.damage.bare c.args.volume_label.now (d.held c.mend_index.new.disk)) (MayBeMended c.args.damage c.args.index_label.now c.args.volume_label.now old) (c.mend_volumes.ensures.any_moment tells)
    (λ image may settled a found. third_step old a c.args.damage c.args.index_label.now c.args.volume_label.now found settled (d.held c.cut_tail.new.disk) (c.in_ok-cut_tail.ensures.held tells) (d.held c.mend_index.new.disk) (c.in_ok-mend_index.ensures.held tells) image may)) in
    joined d.moment d.left_since d.held c.args.disk.now c.mend_volumes.new.disk c.sync_all.new.disk (MayBeMended c.args.damage c.args.index_label.now c.args.volume_label.now old) third
    (weaker d.moment d.left_since d.held c.mend_volumes.new.disk c.sync_all.new.disk (CrashImage (d.held c.mend_volumes.new.disk)) (MayBeMended c.args.damage c.args.index_label.now c.args.volume_label.now old) (c.sync_all.ensures.any_moment tells)
    (λ image may settled a found. last_step old a c.args.damage c.args.index_label.now c.args.volume_label.now found settled (d.held c.cut_tail.new.disk) (c.in_ok-cut_tail.ensures.held tells) (d.held c.mend_index.new.disk) (c.in_ok-mend_index.ensures.held tells) (d.held c.mend_volumes.new.disk) (c.in_ok-mend_volumes.ensures.held tells) image may))
