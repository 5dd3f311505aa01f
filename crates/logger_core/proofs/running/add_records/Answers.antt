-- Nothing, or an append that is synced.
use Rattle.pcp_base.specs.declared.file.FileId.TheVariants.{Meta}
use Rattle.pcp_model.specs.Disk.{CrashImage}
use Rattle.pcp_outside.specs.Devices.{holdings_after_append}
use Rattle.logger_core.specs.Meant.{SurvivesOf}
use Rattle.std.proofs.Common.{length, sym, ◌∙◌, eqb-true}
use Rattle.std.proofs.lemmas.List.{nil_from_length}
use Rattle.logger_core.proofs.Calls.{no_call, run_as}
use Rattle.logger_core.proofs.Growing.{grows_not, grows_append_synced}
use Rattle.logger_core.proofs.Rests.{image_survives}
use Rattle.logger_core.proofs.RecordsPut.{none_grown, records_survive, records_after}
use Rattle.logger_core.proofs.AtMost.{most_append_synced}
use Rattle.logger_core.proofs.running.add_records.Goals as goal

pub returns-clause-any_moment : goal.returns-clause-any_moment
returns-clause-any_moment g c = λ tells m at payloads records is come.
    let d = g.D.Disk in
    run_as d g.met.D.Disk.only_now c.args.disk.now c.append_synced.new.disk (SurvivesOf m) (CrashImage (holdings_after_append Meta c.args.bytes.now (d.held c.args.disk.now))) (c.append_synced.ensures.any_moment tells)
    (records_survive m c.args.number (d.held c.args.disk.now) payloads records c.args.bytes.now at is come)

pub returns-clause-ok : goal.returns-clause-ok
returns-clause-ok g c = λ tells m at payloads records is come.
    let d = g.D.Disk in
    records_after m c.args.number (d.held c.args.disk.now) payloads records c.args.bytes.now at is come (d.held c.append_synced.new.disk) c.append_synced.result (c.append_synced.ensures.held tells)

pub returns-then-is_empty-clause-any_moment : goal.returns-then-is_empty-clause-any_moment
returns-then-is_empty-clause-any_moment g c = λ tells m at payloads records is come.
    no_call g.D.Disk g.met.D.Disk.only_now c.args.disk.now (SurvivesOf m) (image_survives m c.args.number (g.D.Disk.held c.args.disk.now) at)

pub returns-then-is_empty-clause-ok : goal.returns-then-is_empty-clause-ok
returns-then-is_empty-clause-ok g c = λ tells m at payloads records is come.
    none_grown m c.args.number (g.D.Disk.held c.args.disk.now) payloads records c.args.bytes.now at is (nil_from_length c.args.bytes.now (eqb-true (length c.args.bytes.now) 0 (sym c.is_empty.ensures ∙ c.if-is_empty.true))) come.read

pub returns-clause-grows : goal.returns-clause-grows
returns-clause-grows g c = λ tells.
    let d = g.D.Disk in
    grows_append_synced Meta c.args.bytes.now (d.held c.args.disk.now) (d.held c.append_synced.new.disk) c.append_synced.result (c.append_synced.ensures.held tells)

pub returns-then-is_empty-clause-grows : goal.returns-then-is_empty-clause-grows
returns-then-is_empty-clause-grows g c = λ tells. grows_not (g.D.Disk.held c.args.disk.now)

pub returns-clause-most : goal.returns-clause-most
returns-clause-most g c = λ tells files are.
    let d = g.D.Disk in
    most_append_synced files (d.held c.args.disk.now) (d.held c.append_synced.new.disk) are Meta c.args.bytes.now c.append_synced.result (c.append_synced.ensures.held tells)
