-- The entry is appended.
use Rattle.pcp_base.specs.declared.file.FileId.TheVariants.{Index}
use Rattle.std.proofs.Common.{Some, [], ◌∷◌, sym, subst}
use Rattle.logger_core.specs.declared.ends.Ends.{Ends}
use Rattle.logger_core.specs.Going.{GrownTo, HoldsNoMore}
use Rattle.logger_core.specs.Meant.{SurvivesOf}
use Rattle.logger_core.specs.Steps.{with_entry}
use Rattle.logger_core.proofs.Calls.{one_append}
use Rattle.logger_core.proofs.EntryPut.{entry_survives, entry_fits, entry_appended}
use Rattle.logger_core.proofs.Growing.{grows_append}
use Rattle.logger_core.proofs.Rests.{image_survives}
use Rattle.pcp_model.specs.Written.{with_added}
use Rattle.logger_core.proofs.AtMost.{most_appended}
use Rattle.logger_core.proofs.flushing.put_entry.Goals as goal

pub returns-in_err-append-clause-any_moment : goal.returns-in_err-append-clause-any_moment
returns-in_err-append-clause-any_moment g c = λ tells m at leads.
    let d = g.D.Disk in
    let e = c.args.ends.now in
    let old = d.held c.args.disk.now in
    let fits = entry_fits m e old c.args.entry leads c.requires.small c.requires.room c.entry_bytes-bytes.ensures.range in
    one_append d g.met.D.Disk.only_now c.args.disk.now c.append.new.self (SurvivesOf m) Index c.entry_bytes-bytes.result c.append.result c.append.ensures.time (c.append.ensures.held tells)
    (image_survives m e.volume old at.stands) (entry_survives m e old c.args.entry at fits leads c.entry_bytes-bytes.result c.entry_bytes-bytes.ensures.bytes)

pub returns-clause-any_moment : goal.returns-clause-any_moment
returns-clause-any_moment g c = λ tells m at leads.
    let d = g.D.Disk in
    let e = c.args.ends.now in
    let old = d.held c.args.disk.now in
    let fits = entry_fits m e old c.args.entry leads c.requires.small c.requires.room c.entry_bytes-bytes.ensures.range in
    one_append d g.met.D.Disk.only_now c.args.disk.now c.append.new.self (SurvivesOf m) Index c.entry_bytes-bytes.result c.append.result c.append.ensures.time (c.append.ensures.held tells)
    (image_survives m e.volume old at.stands) (entry_survives m e old c.args.entry at fits leads c.entry_bytes-bytes.result c.entry_bytes-bytes.ensures.bytes)

pub returns-clause-ok : goal.returns-clause-ok
returns-clause-ok g c = λ tells m at leads.
    let d = g.D.Disk in
    let e = c.args.ends.now in
    let old = d.held c.args.disk.now in
    let fits = entry_fits m e old c.args.entry leads c.requires.small c.requires.room c.entry_bytes-bytes.ensures.range in
    subst (λ (x : Ends). GrownTo m [] (c.args.entry ∷ []) [] (with_entry (Some c.args.entry) m.files) x (d.held c.append.new.self)) (sym c.with_put.ensures)
    (entry_appended m e old c.args.entry at fits leads c.entry_bytes-bytes.result (d.held c.append.new.self) c.entry_bytes-bytes.ensures.bytes (c.in_ok-append.ensures.held tells))

pub returns-in_err-append-clause-grows : goal.returns-in_err-append-clause-grows
returns-in_err-append-clause-grows g c = λ tells.
    let d = g.D.Disk in
    grows_append Index c.entry_bytes-bytes.result (d.held c.args.disk.now) (d.held c.append.new.self) c.append.result (c.append.ensures.held tells)

pub returns-clause-grows : goal.returns-clause-grows
returns-clause-grows g c = λ tells.
    let d = g.D.Disk in
    grows_append Index c.entry_bytes-bytes.result (d.held c.args.disk.now) (d.held c.append.new.self) c.append.result (c.append.ensures.held tells)

pub returns-in_err-append-clause-most : goal.returns-in_err-append-clause-most
returns-in_err-append-clause-most g c = λ tells files are.
    let d = g.D.Disk in
    subst (λ t. HoldsNoMore (with_added Index t files) (d.held c.append.new.self)) c.entry_bytes-bytes.ensures.bytes
    (most_appended files (d.held c.args.disk.now) (d.held c.append.new.self) are Index c.entry_bytes-bytes.result c.append.result (c.append.ensures.held tells))

pub returns-clause-most : goal.returns-clause-most
returns-clause-most g c = λ tells files are.
    let d = g.D.Disk in
    subst (λ t. HoldsNoMore (with_added Index t files) (d.held c.append.new.self)) c.entry_bytes-bytes.ensures.bytes
    (most_appended files (d.held c.args.disk.now) (d.held c.append.new.self) are Index c.entry_bytes-bytes.result c.append.result (c.append.ensures.held tells))
