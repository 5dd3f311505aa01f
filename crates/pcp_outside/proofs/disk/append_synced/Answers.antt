use Rattle.pcp_model.specs.Disk.{CrashImage}
use Rattle.pcp_outside.specs.Devices.{holdings_after_append}
use Rattle.pcp_outside.proofs.Crash.{started, after_append, after_sync, image_appends}
use Rattle.pcp_outside.proofs.Images.{image_before, sync_after}
use Rattle.pcp_outside.proofs.disk.append_synced.Goals as goal

pub returns-in_err-append-clause-any_moment : goal.returns-in_err-append-clause-any_moment
returns-in_err-append-clause-any_moment g c = λ tells.
    let d = g.D.Disk in
    let old = c.args.disk.now in
    let P = CrashImage (holdings_after_append c.args.file c.args.bytes.now (d.held old)) in
    let start = started d.moment d.left_since d.held g.met.D.Disk.only_now old P (image_before c.args.file c.args.bytes.now (d.held old)) in
    after_append d.moment d.left_since d.held old old c.append.new.self P c.args.file c.args.bytes.now c.append.result start c.append.ensures.time (c.append.ensures.held tells) (λ image left. left)

pub returns-clause-held : goal.returns-clause-held
returns-clause-held g c = λ tells.
    let d = g.D.Disk in
    sync_after c.args.file c.args.bytes.now (d.held c.args.disk.now) (d.held c.append.new.self) (d.held c.sync.new.self) c.sync.result (c.in_ok-append.ensures.held tells) (c.sync.ensures.held tells)

pub returns-clause-any_moment : goal.returns-clause-any_moment
returns-clause-any_moment g c = λ tells.
    let d = g.D.Disk in
    let old = c.args.disk.now in
    let mid = c.append.new.self in
    let P = CrashImage (holdings_after_append c.args.file c.args.bytes.now (d.held old)) in
    let start = started d.moment d.left_since d.held g.met.D.Disk.only_now old P (image_before c.args.file c.args.bytes.now (d.held old)) in
    let first = after_append d.moment d.left_since d.held old old mid P c.args.file c.args.bytes.now c.append.result start c.append.ensures.time (c.append.ensures.held tells) (λ image left. left) in
    after_sync d.moment d.left_since d.held old mid c.sync.new.self P c.args.file c.sync.result first c.sync.ensures.time (c.sync.ensures.held tells) (λ image left. image_appends c.args.file c.args.bytes.now (d.held old) (d.held mid) c.append.result image (c.append.ensures.held tells) left)
