-- Each label is appended and synced, and a crash meanwhile leaves no item.
use Rattle.pcp_base.specs.declared.file.FileId.TheVariants.{Meta, Index, Volume}
use Rattle.pcp_model.specs.Disk.{CrashImage}
use Rattle.pcp_outside.specs.Devices.{holdings_after_append}
use Rattle.logger_core.specs.Created.{HasNoItem}
use Rattle.logger_core.proofs.Calls.{run_as, run_then}
use Rattle.logger_core.proofs.NoItems.{meta_left, with_meta, index_left, with_index, volume_left, labels_after}
use Rattle.logger_core.proofs.creating.write_labels.Goals as goal

pub returns-in_err-append_synced-clause-any_moment :
    goal.returns-in_err-append_synced-clause-any_moment
returns-in_err-append_synced-clause-any_moment g c = λ tells empty.
    let d = g.D.Disk in
    run_as d g.met.D.Disk.only_now c.args.disk.now c.append_synced.new.disk HasNoItem (CrashImage (holdings_after_append Meta c.label_bytes-meta.result (d.held c.args.disk.now)))
    (c.append_synced.ensures.any_moment tells) (meta_left c.args.label.now c.label_bytes-volume.ensures.range (d.held c.args.disk.now) c.label_bytes-meta.result c.label_bytes-meta.ensures.bytes empty)

pub returns-in_err-append_synced-2-clause-any_moment :
    goal.returns-in_err-append_synced-2-clause-any_moment
returns-in_err-append_synced-2-clause-any_moment g c = λ tells empty.
    let d = g.D.Disk in
    let l = c.args.label.now in
    let r = c.label_bytes-volume.ensures.range in
    let old = d.held c.args.disk.now in
    let mid = d.held c.append_synced.new.disk in
    run_then d g.met.D.Disk.only_now c.args.disk.now c.append_synced.new.disk c.append_synced-2.new.disk HasNoItem (CrashImage (holdings_after_append Meta c.label_bytes-meta.result old)) (CrashImage (holdings_after_append Index c.label_bytes-index.result mid))
    (c.append_synced.ensures.any_moment tells) (c.append_synced-2.ensures.any_moment tells)
    (meta_left l r old c.label_bytes-meta.result c.label_bytes-meta.ensures.bytes empty)
    (index_left l r mid c.label_bytes-index.result c.label_bytes-index.ensures.bytes (with_meta l r old mid c.label_bytes-meta.result c.label_bytes-meta.ensures.bytes empty (c.in_ok-append_synced.ensures.held tells)))

pub returns-clause-any_moment : goal.returns-clause-any_moment
returns-clause-any_moment g c = λ tells empty.
    let d = g.D.Disk in
    let l = c.args.label.now in
    let r = c.label_bytes-volume.ensures.range in
    let old = d.held c.args.disk.now in
    let mid = d.held c.append_synced.new.disk in
    let mid2 = d.held c.append_synced-2.new.disk in
    let first = with_meta l r old mid c.label_bytes-meta.result c.label_bytes-meta.ensures.bytes empty (c.in_ok-append_synced.ensures.held tells) in
    let second = with_index l r mid mid2 c.label_bytes-index.result c.label_bytes-index.ensures.bytes first (c.in_ok-append_synced-2.ensures.held tells) in
    run_then d g.met.D.Disk.only_now c.args.disk.now c.append_synced-2.new.disk c.append_synced-3.new.disk HasNoItem HasNoItem (CrashImage (holdings_after_append (Volume 0) c.label_bytes-volume.result mid2))
    (run_then d g.met.D.Disk.only_now c.args.disk.now c.append_synced.new.disk c.append_synced-2.new.disk HasNoItem (CrashImage (holdings_after_append Meta c.label_bytes-meta.result old)) (CrashImage (holdings_after_append Index c.label_bytes-index.result mid))
    (c.append_synced.ensures.any_moment tells) (c.append_synced-2.ensures.any_moment tells)
    (meta_left l r old c.label_bytes-meta.result c.label_bytes-meta.ensures.bytes empty) (index_left l r mid c.label_bytes-index.result c.label_bytes-index.ensures.bytes first))
    (c.append_synced-3.ensures.any_moment tells) (λ image good. good) (volume_left l r mid2 c.label_bytes-volume.result c.label_bytes-volume.ensures.bytes second)

pub returns-clause-ok : goal.returns-clause-ok
returns-clause-ok g c = λ tells empty.
    let d = g.D.Disk in
    let l = c.args.label.now in
    let r = c.label_bytes-volume.ensures.range in
    let old = d.held c.args.disk.now in
    let mid = d.held c.append_synced.new.disk in
    let mid2 = d.held c.append_synced-2.new.disk in
    let first = with_meta l r old mid c.label_bytes-meta.result c.label_bytes-meta.ensures.bytes empty (c.in_ok-append_synced.ensures.held tells) in
    let second = with_index l r mid mid2 c.label_bytes-index.result c.label_bytes-index.ensures.bytes first (c.in_ok-append_synced-2.ensures.held tells) in
    labels_after l r mid2 (d.held c.append_synced-3.new.disk) c.label_bytes-volume.result c.append_synced-3.result c.label_bytes-volume.ensures.bytes second (c.append_synced-3.ensures.held tells)
