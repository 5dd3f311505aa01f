-- The label of the next volume is appended and synced.
use Rattle.std.proofs.Common.{[], ◌+◌, ◌∙◌, sym, subst}
use Rattle.pcp_base.specs.declared.file.FileId.TheVariants.{Volume}
use Rattle.pcp_model.specs.Disk.{CrashImage}
use Rattle.pcp_outside.specs.Devices.{holdings_after_append}
use Rattle.logger_core.specs.declared.ends.Ends.{Ends}
use Rattle.logger_core.specs.Going.{GrownTo, HoldsNoMore}
use Rattle.logger_core.specs.LogSteps.{with_new_volume}
use Rattle.logger_core.specs.Meant.{SurvivesOf}
use Rattle.logger_core.proofs.Calls.{run_as}
use Rattle.logger_core.proofs.Growing.{grows_append_synced}
use Rattle.logger_core.proofs.Opened.{label_survives, label_grown, label_number_is, range_number_is}
use Rattle.pcp_model.specs.Written.{with_added}
use Rattle.logger_core.proofs.AtMost.{most_append_synced}
use Rattle.logger_core.proofs.switching.open_next.Goals as goal

pub returns-in_err-append_synced-clause-any_moment :
    goal.returns-in_err-append_synced-clause-any_moment
returns-in_err-append_synced-clause-any_moment g c = λ tells m at sure all same.
    let d = g.D.Disk in
    let e = c.args.ends.now in
    run_as d g.met.D.Disk.only_now c.args.disk.now c.append_synced.new.disk (SurvivesOf m) (CrashImage (holdings_after_append (Volume (e.volume + 1)) c.label_bytes-bytes.result (d.held c.args.disk.now))) (c.append_synced.ensures.any_moment tells)
    (label_survives m e (d.held c.args.disk.now) c.args.label.now c.label_bytes-bytes.result at sure all same (c.label_bytes-bytes.ensures.bytes ∙ label_number_is c.args.label.now (c.args.ends.now.volume + 1) c.requires.next) (range_number_is c.args.label.now (c.args.ends.now.volume + 1) c.requires.next c.label_bytes-bytes.ensures.range))

pub returns-clause-any_moment : goal.returns-clause-any_moment
returns-clause-any_moment g c = λ tells m at sure all same.
    let d = g.D.Disk in
    let e = c.args.ends.now in
    run_as d g.met.D.Disk.only_now c.args.disk.now c.append_synced.new.disk (SurvivesOf m) (CrashImage (holdings_after_append (Volume (e.volume + 1)) c.label_bytes-bytes.result (d.held c.args.disk.now))) (c.append_synced.ensures.any_moment tells)
    (label_survives m e (d.held c.args.disk.now) c.args.label.now c.label_bytes-bytes.result at sure all same (c.label_bytes-bytes.ensures.bytes ∙ label_number_is c.args.label.now (c.args.ends.now.volume + 1) c.requires.next) (range_number_is c.args.label.now (c.args.ends.now.volume + 1) c.requires.next c.label_bytes-bytes.ensures.range))

pub returns-clause-ok : goal.returns-clause-ok
returns-clause-ok g c = λ tells m at sure all same.
    let d = g.D.Disk in
    let e = c.args.ends.now in
    subst (λ (x : Ends). GrownTo m [] [] [] (with_new_volume c.args.label.now (e.volume + 1) m.files) x (d.held c.append_synced.new.disk)) (sym c.opened_ends.ensures)
    (label_grown m e (d.held c.args.disk.now) c.args.label.now c.label_bytes-bytes.result at sure all same (c.label_bytes-bytes.ensures.bytes ∙ label_number_is c.args.label.now (c.args.ends.now.volume + 1) c.requires.next) (range_number_is c.args.label.now (c.args.ends.now.volume + 1) c.requires.next c.label_bytes-bytes.ensures.range) (d.held c.append_synced.new.disk) (c.in_ok-append_synced.ensures.held tells))

pub returns-in_err-append_synced-clause-grows :
    goal.returns-in_err-append_synced-clause-grows
returns-in_err-append_synced-clause-grows g c = λ tells.
    let d = g.D.Disk in
    grows_append_synced (Volume (c.args.ends.now.volume + 1)) c.label_bytes-bytes.result (d.held c.args.disk.now) (d.held c.append_synced.new.disk) c.append_synced.result (c.append_synced.ensures.held tells)

pub returns-clause-grows : goal.returns-clause-grows
returns-clause-grows g c = λ tells.
    let d = g.D.Disk in
    grows_append_synced (Volume (c.args.ends.now.volume + 1)) c.label_bytes-bytes.result (d.held c.args.disk.now) (d.held c.append_synced.new.disk) c.append_synced.result (c.append_synced.ensures.held tells)

pub returns-in_err-append_synced-clause-most : goal.returns-in_err-append_synced-clause-most
returns-in_err-append_synced-clause-most g c = λ tells files are.
    let d = g.D.Disk in
    let n = c.args.ends.now.volume in
    subst (λ t. HoldsNoMore (with_added (Volume (n + 1)) t files) (d.held c.append_synced.new.disk)) (c.label_bytes-bytes.ensures.bytes ∙ label_number_is c.args.label.now (n + 1) c.requires.next)
    (most_append_synced files (d.held c.args.disk.now) (d.held c.append_synced.new.disk) are (Volume (n + 1)) c.label_bytes-bytes.result c.append_synced.result (c.append_synced.ensures.held tells))

pub returns-clause-most : goal.returns-clause-most
returns-clause-most g c = λ tells files are.
    let d = g.D.Disk in
    let n = c.args.ends.now.volume in
    subst (λ t. HoldsNoMore (with_added (Volume (n + 1)) t files) (d.held c.append_synced.new.disk)) (c.label_bytes-bytes.ensures.bytes ∙ label_number_is c.args.label.now (n + 1) c.requires.next)
    (most_append_synced files (d.held c.args.disk.now) (d.held c.append_synced.new.disk) are (Volume (n + 1)) c.label_bytes-bytes.result c.append_synced.result (c.append_synced.ensures.held tells))
