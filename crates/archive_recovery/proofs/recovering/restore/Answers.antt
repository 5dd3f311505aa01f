use Rattle.pcp_model.specs.Disk.{contents_of}
use Rattle.pcp_outside.proofs.Crash.{weaker}
use Rattle.archive_recovery.specs.Damage.{MayBeMended}
use Rattle.archive_recovery.specs.Halfway.{MayBeHalfway}
use Rattle.archive_recovery.proofs.Telling.{c as contents, relabelled, was_recovered, as_read}
use Rattle.archive_recovery.proofs.recovering.restore.Goals as goal

pub returns-clause-recovered : goal.returns-clause-recovered
returns-clause-recovered g c = λ tells.
    let files = contents_of (g.D.Disk.held c.args.disk.now) in
    let s = c.args.sighted in
    let is = c.requires.is tells in
    was_recovered files s is (contents_of (g.D.Disk.held c.mend.new.disk))
    (c.in_ok-mend.ensures.recovered tells (contents files s is) (relabelled files (contents files s is) s.damage c.label_bytes-index_label.result c.label_bytes-volume_label.result c.label_bytes-index_label.ensures.bytes c.label_bytes-volume_label.ensures.bytes is.found))

pub returns-clause-any_moment : goal.returns-clause-any_moment
returns-clause-any_moment g c = λ tells.
    let d = g.D.Disk in
    let files = contents_of (d.held c.args.disk.now) in
    let s = c.args.sighted in
    let is = c.requires.is tells in
    weaker d.moment d.left_since d.held c.args.disk.now c.mend.new.disk (MayBeMended s.damage c.label_bytes-index_label.result c.label_bytes-volume_label.result (d.held c.args.disk.now)) (MayBeHalfway (d.held c.args.disk.now)) (c.mend.ensures.any_moment tells)
    (λ image may settled r reads. as_read files s is r reads image (may settled (contents files s is)
    (relabelled files (contents files s is) s.damage c.label_bytes-index_label.result c.label_bytes-volume_label.result c.label_bytes-index_label.ensures.bytes c.label_bytes-volume_label.ensures.bytes is.found)))

pub returns-in_err-mend-clause-any_moment : goal.returns-in_err-mend-clause-any_moment
returns-in_err-mend-clause-any_moment g c = λ tells.
    let d = g.D.Disk in
    let files = contents_of (d.held c.args.disk.now) in
    let s = c.args.sighted in
    let is = c.requires.is tells in
    weaker d.moment d.left_since d.held c.args.disk.now c.mend.new.disk (MayBeMended s.damage c.label_bytes-index_label.result c.label_bytes-volume_label.result (d.held c.args.disk.now)) (MayBeHalfway (d.held c.args.disk.now)) (c.mend.ensures.any_moment tells)
    (λ image may settled r reads. as_read files s is r reads image (may settled (contents files s is)
    (relabelled files (contents files s is) s.damage c.label_bytes-index_label.result c.label_bytes-volume_label.result c.label_bytes-index_label.ensures.bytes c.label_bytes-volume_label.ensures.bytes is.found)))
