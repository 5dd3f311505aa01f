-- A flush, the label, the entry.
use Rattle.std.proofs.Common.{◌∙◌, ◌+◌, length, true, Option, subst}
use Rattle.logger_core.specs.Meant.{IsAt, SurvivesOf, stood_in}
use Rattle.logger_core.proofs.Calls.{run_then}
use Rattle.logger_core.proofs.Growing.{grows_then}
use Rattle.logger_core.proofs.Turned.{all_flushed, flushed_survives, grown_survives, switch_found_room, switch_found_leads, switch_ok, opened_files, switched_base}
use Rattle.pcp_base.specs.declared.file.FileId.TheVariants.{Meta, Index}
use Rattle.pcp_model.specs.declared.records.Entry.{Entry}
use Rattle.logger_core.specs.Going.{HoldsNoMore}
use Rattle.logger_core.specs.LogSteps.{base_files, switch_entry, with_new_volume}
use Rattle.logger_core.specs.Planning.{switch_at}
use Rattle.logger_core.specs.Steps.{due_in, with_entry}
use Rattle.logger_core.proofs.AtMost.{entry_longer, most_as, most_longer, next_longer}
use Rattle.logger_core.proofs.switching.switch.Goals as goal

pub add_entry-requires-clause-room : goal.add_entry-requires-clause-room
add_entry-requires-clause-room g c = switch_found_room c.in_ok-opened.opened c.switch_entry-entry.result c.switch_entry-entry.ensures

pub returns-in_err-opened-clause-any_moment : goal.returns-in_err-opened-clause-any_moment
returns-in_err-opened-clause-any_moment g c = λ tells m at same.
    let d = g.D.Disk in
    let e = c.args.ends.now in
    let old = d.held c.args.disk.now in
    let mid = d.held c.flush_files.new.disk in
    let flushed = c.in_ok-flushed.flushed in
    let f = c.in_ok-flushed.ensures.ok tells m at in
    run_then d g.met.D.Disk.only_now c.args.disk.now c.flush_files.new.disk c.open_next.new.disk (SurvivesOf m) (SurvivesOf m) (SurvivesOf f.new)
    (c.flush_files.ensures.any_moment tells m at) (c.open_next.ensures.any_moment tells f.new f.at (c.in_ok-flushed.ensures.sure tells) (all_flushed m e flushed mid f) (f.label_same ∙ same))
    (λ image good. good) (flushed_survives m e flushed old mid at f)

pub returns-clause-any_moment : goal.returns-clause-any_moment
returns-clause-any_moment g c = λ tells m at same.
    let d = g.D.Disk in
    let e = c.args.ends.now in
    let old = d.held c.args.disk.now in
    let mid = d.held c.flush_files.new.disk in
    let mid2 = d.held c.open_next.new.disk in
    let flushed = c.in_ok-flushed.flushed in
    let open_ = c.in_ok-opened.opened in
    let f = c.in_ok-flushed.ensures.ok tells m at in
    let sure = c.in_ok-flushed.ensures.sure tells in
    let o = c.in_ok-opened.ensures.ok tells f.new f.at sure (all_flushed m e flushed mid f) (f.label_same ∙ same) in
    let o_at : IsAt o.0.new open_ mid2 = record { stands = o.0.stands; ends = o.1 } in
    let lead = switch_found_leads o.0.new open_ mid2 c.switch_entry-entry.result c.switch_entry-entry.ensures o_at (c.in_ok-opened.ensures.sure tells f.new f.at) c.in_ok-opened.ensures.same.4 in
    run_then d g.met.D.Disk.only_now c.args.disk.now c.open_next.new.disk c.add_entry.new.disk (SurvivesOf m) (SurvivesOf m) (SurvivesOf o.0.new)
    (run_then d g.met.D.Disk.only_now c.args.disk.now c.flush_files.new.disk c.open_next.new.disk (SurvivesOf m) (SurvivesOf m) (SurvivesOf f.new)
    (c.flush_files.ensures.any_moment tells m at) (c.open_next.ensures.any_moment tells f.new f.at sure (all_flushed m e flushed mid f) (f.label_same ∙ same)) (λ image good. good) (flushed_survives m e flushed old mid at f))
    (c.add_entry.ensures.any_moment tells o.0.new o_at lead) (λ image good. good)
    (λ image w. flushed_survives m e flushed old mid at f image (grown_survives f.new _ open_.volume mid2 o.0 image w))

pub returns-clause-ok : goal.returns-clause-ok
returns-clause-ok g c = λ tells m at same.
    let d = g.D.Disk in
    let e = c.args.ends.now in
    let old = d.held c.args.disk.now in
    let mid = d.held c.flush_files.new.disk in
    let mid2 = d.held c.open_next.new.disk in
    let flushed = c.in_ok-flushed.flushed in
    let open_ = c.in_ok-opened.opened in
    let f = c.in_ok-flushed.ensures.ok tells m at in
    let sure = c.in_ok-flushed.ensures.sure tells in
    let o = c.in_ok-opened.ensures.ok tells f.new f.at sure (all_flushed m e flushed mid f) (f.label_same ∙ same) in
    let o_at : IsAt o.0.new open_ mid2 = record { stands = o.0.stands; ends = o.1 } in
    let lead = switch_found_leads o.0.new open_ mid2 c.switch_entry-entry.result c.switch_entry-entry.ensures o_at (c.in_ok-opened.ensures.sure tells f.new f.at) c.in_ok-opened.ensures.same.4 in
    switch_ok m c.args.label.now e flushed open_ old mid mid2 (d.held c.add_entry.new.disk) c.switch_entry-entry.result c.add_entry.result at same f o
    c.in_ok-flushed.ensures.same.0 c.in_ok-opened.ensures.same.0 c.in_ok-opened.ensures.same.1 c.switch_entry-entry.ensures (c.add_entry.ensures.ok tells o.0.new o_at lead) c.add_entry.ensures.same

pub returns-in_err-opened-clause-grows : goal.returns-in_err-opened-clause-grows
returns-in_err-opened-clause-grows g c = λ tells.
    let d = g.D.Disk in
    grows_then (d.held c.args.disk.now) (d.held c.flush_files.new.disk) (d.held c.open_next.new.disk) (c.flush_files.ensures.grows tells) (c.open_next.ensures.grows tells)

pub returns-clause-grows : goal.returns-clause-grows
returns-clause-grows g c = λ tells.
    let d = g.D.Disk in
    grows_then (d.held c.args.disk.now) (d.held c.open_next.new.disk) (d.held c.add_entry.new.disk)
    (grows_then (d.held c.args.disk.now) (d.held c.flush_files.new.disk) (d.held c.open_next.new.disk) (c.flush_files.ensures.grows tells) (c.open_next.ensures.grows tells)) (c.add_entry.ensures.grows tells)

pub returns-in_err-flushed-clause-most : goal.returns-in_err-flushed-clause-most
returns-in_err-flushed-clause-most g c = λ tells m at same.
    let d = g.D.Disk in
    let e = c.args.ends.now in
    let files = with_entry (due_in m.files m.contents e.volume m.greatest (stood_in m)) m.files in
    most_longer files (base_files true m.files m.contents e.volume m.greatest (stood_in m)) (d.held c.flush_files.new.disk) (next_longer m.contents.label (e.volume + 1) m.greatest files) (c.flush_files.ensures.most tells m at)

pub returns-in_err-opened-clause-most : goal.returns-in_err-opened-clause-most
returns-in_err-opened-clause-most g c = λ tells m at same.
    let d = g.D.Disk in
    let e = c.args.ends.now in
    let l = c.args.label.now in
    let mid = d.held c.flush_files.new.disk in
    let mid2 = d.held c.open_next.new.disk in
    let flushed = c.in_ok-flushed.flushed in
    let f = c.in_ok-flushed.ensures.ok tells m at in
    let files = with_entry (due_in m.files m.contents e.volume m.greatest (stood_in m)) m.files in
    let new = with_new_volume m.contents.label (e.volume + 1) files in
    most_longer new (base_files true m.files m.contents e.volume m.greatest (stood_in m)) mid2 (entry_longer (switch_entry m.greatest (length (files Index)) (e.volume + 1) (length (files Meta))) new)
    (most_as (with_new_volume l (flushed.volume + 1) f.new.files) new mid2 (opened_files m l e flushed mid same f c.in_ok-flushed.ensures.same.0) (c.open_next.ensures.most tells f.new.files f.at.stands.written))

pub returns-clause-most : goal.returns-clause-most
returns-clause-most g c = λ tells m at same.
    let d = g.D.Disk in
    let e = c.args.ends.now in
    let l = c.args.label.now in
    let mid = d.held c.flush_files.new.disk in
    let mid2 = d.held c.open_next.new.disk in
    let new = d.held c.add_entry.new.disk in
    let flushed = c.in_ok-flushed.flushed in
    let open_ = c.in_ok-opened.opened in
    let f = c.in_ok-flushed.ensures.ok tells m at in
    let o = c.in_ok-opened.ensures.ok tells f.new f.at (c.in_ok-flushed.ensures.sure tells) (all_flushed m e flushed mid f) (f.label_same ∙ same) in
    most_as (with_entry (switch_at open_) o.0.new.files) (base_files true m.files m.contents e.volume m.greatest (stood_in m)) new
    (switched_base m l e flushed mid same f c.in_ok-flushed.ensures.same.0 open_ mid2 o c.in_ok-opened.ensures.same.0 c.in_ok-opened.ensures.same.1)
    (subst (λ (x : Option Entry). HoldsNoMore (with_entry x o.0.new.files) new) c.switch_entry-entry.ensures (c.add_entry.ensures.most tells o.0.new.files o.0.stands.written))
