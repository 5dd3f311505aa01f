-- The volume is synced, and the entry put that is then due.
use Rattle.logger_core.specs.Meant.{SurvivesOf, stood_in}
use Rattle.logger_core.specs.Going.{all_acknowledged, HoldsNoMore}
use Rattle.logger_core.proofs.Calls.{run_then}
use Rattle.logger_core.proofs.Growing.{grows_then}
use Rattle.logger_core.proofs.Rests.{fewer_acknowledged}
use Rattle.logger_core.proofs.Turned.{found_room, found_leads, flush_ok, due_same}
use Rattle.std.proofs.Common.{ℕ, Option, ap, ◌∙◌, subst}
use Rattle.pcp_model.specs.declared.records.Entry.{Entry}
use Rattle.logger_core.specs.Steps.{due_in, with_entry}
use Rattle.logger_core.proofs.AtMost.{entry_longer, most_longer}
use Rattle.logger_core.proofs.flushing.flush_files.Goals as goal

pub add_entry-requires-clause-room : goal.add_entry-requires-clause-room
add_entry-requires-clause-room g c = found_room c.in_ok-synced.synced c.due-entry.result c.due-entry.ensures

pub returns-clause-any_moment : goal.returns-clause-any_moment
returns-clause-any_moment g c = λ tells m at.
    let d = g.D.Disk in
    let s = c.in_ok-synced.synced in
    let mid = d.held c.sync_volume.new.disk in
    let now = c.in_ok-synced.ensures.ok tells m at in
    let lead = found_leads (all_acknowledged m) s mid c.due-entry.result c.due-entry.ensures now (c.in_ok-synced.ensures.sure tells) in
    run_then d g.met.D.Disk.only_now c.args.disk.now c.sync_volume.new.disk c.add_entry.new.disk (SurvivesOf m) (SurvivesOf m) (SurvivesOf (all_acknowledged m))
    (c.sync_volume.ensures.any_moment tells m at) (c.add_entry.ensures.any_moment tells (all_acknowledged m) now lead) (λ image good. good) (fewer_acknowledged m c.args.ends.now.volume (d.held c.args.disk.now) at.stands)

pub returns-clause-ok : goal.returns-clause-ok
returns-clause-ok g c = λ tells m at.
    let d = g.D.Disk in
    let s = c.in_ok-synced.synced in
    let mid = d.held c.sync_volume.new.disk in
    let now = c.in_ok-synced.ensures.ok tells m at in
    let lead = found_leads (all_acknowledged m) s mid c.due-entry.result c.due-entry.ensures now (c.in_ok-synced.ensures.sure tells) in
    flush_ok m c.args.ends.now s (d.held c.args.disk.now) (d.held c.add_entry.new.disk) c.due-entry.result c.add_entry.result c.due-entry.ensures at c.in_ok-synced.ensures.same.0 now.ends
    c.add_entry.ensures.same (c.add_entry.ensures.ok tells (all_acknowledged m) now lead)

pub returns-clause-grows : goal.returns-clause-grows
returns-clause-grows g c = λ tells.
    let d = g.D.Disk in
    grows_then (d.held c.args.disk.now) (d.held c.sync_volume.new.disk) (d.held c.add_entry.new.disk) (c.sync_volume.ensures.grows tells) (c.add_entry.ensures.grows tells)

pub returns-in_err-synced-clause-most : goal.returns-in_err-synced-clause-most
returns-in_err-synced-clause-most g c = λ tells m at.
    let d = g.D.Disk in
    let e = c.args.ends.now in
    let due = due_in m.files m.contents e.volume m.greatest (stood_in m) in
    most_longer m.files (with_entry due m.files) (d.held c.sync_volume.new.disk) (entry_longer due m.files) (c.sync_volume.ensures.most tells m.files at.stands.written)

pub returns-clause-most : goal.returns-clause-most
returns-clause-most g c = λ tells m at.
    let d = g.D.Disk in
    let e = c.args.ends.now in
    let s = c.in_ok-synced.synced in
    let now = c.in_ok-synced.ensures.ok tells m at in
    let same = c.due-entry.ensures ∙ due_same (all_acknowledged m) s now.ends ∙ ap (λ (n : ℕ). due_in m.files m.contents n m.greatest (stood_in m)) c.in_ok-synced.ensures.same.0 in
    subst (λ (o : Option Entry). HoldsNoMore (with_entry o m.files) (d.held c.add_entry.new.disk)) same (c.add_entry.ensures.most tells m.files now.stands.written)
