-- The metadata, and then the records.
use Rattle.std.proofs.Common.{[], ◌+◌, refl, sym, subst}
use Rattle.pcp_outside.specs.Causes.{shown_count}
use Rattle.logger_core.specs.declared.ends.Ends.{Ends}
use Rattle.logger_core.specs.Going.{GrownTo}
use Rattle.logger_core.specs.LogSteps.{with_run}
use Rattle.logger_core.specs.Meant.{SurvivesOf}
use Rattle.logger_core.specs.Runs.{SurvivesWith}
use Rattle.logger_core.proofs.Calls.{run_as, run_then}
use Rattle.logger_core.proofs.Growing.{grows_then}
use Rattle.logger_core.proofs.Loggable.{survives_more}
use Rattle.logger_core.proofs.RunPut.{items_come, run_grown, run_ends, grown_survives_with}
use Rattle.pcp_base.specs.declared.file.FileId.TheVariants.{Meta, Volume}
use Rattle.pcp_model.specs.Written.{with_added}
use Rattle.logger_core.proofs.AtMost.{added_longer, most_as, most_longer}
use Rattle.logger_core.proofs.Pointwise.{added_same}
use Rattle.logger_core.proofs.running.write_run.Goals as goal

pub returns-in_err-add_records-clause-any_moment :
    goal.returns-in_err-add_records-clause-any_moment
returns-in_err-add_records-clause-any_moment g c = λ tells m at rs xs run.
    let d = g.D.Disk in
    run_as d g.met.D.Disk.only_now c.args.disk.now c.add_records.new.disk (SurvivesWith m xs) (SurvivesOf m) (c.add_records.ensures.any_moment tells m at.stands run.meta_payloads rs run.meta_is run.come) (survives_more m xs)

pub returns-in_err-add_items-clause-any_moment : goal.returns-in_err-add_items-clause-any_moment
returns-in_err-add_items-clause-any_moment g c = λ tells m at rs xs run.
    let d = g.D.Disk in
    let e = c.args.ends.now in
    let old = d.held c.args.disk.now in
    let mid = d.held c.add_records.new.disk in
    let first = c.in_ok-add_records.ensures.ok tells m at.stands run.meta_payloads rs run.meta_is run.come in
    let come = items_come m e old mid rs xs c.args.records.now c.args.items.now at run first in
    run_then d g.met.D.Disk.only_now c.args.disk.now c.add_records.new.disk c.add_items.new.disk (SurvivesWith m xs) (SurvivesOf m) (SurvivesWith first.new xs)
    (c.add_records.ensures.any_moment tells m at.stands run.meta_payloads rs run.meta_is run.come) (c.add_items.ensures.any_moment tells first.new first.stands run.payloads xs run.items_are come)
    (survives_more m xs) (grown_survives_with m e old mid rs xs c.args.records.now c.args.items.now at run first)

pub returns-clause-any_moment : goal.returns-clause-any_moment
returns-clause-any_moment g c = λ tells m at rs xs run.
    let d = g.D.Disk in
    let e = c.args.ends.now in
    let old = d.held c.args.disk.now in
    let mid = d.held c.add_records.new.disk in
    let first = c.in_ok-add_records.ensures.ok tells m at.stands run.meta_payloads rs run.meta_is run.come in
    let come = items_come m e old mid rs xs c.args.records.now c.args.items.now at run first in
    run_then d g.met.D.Disk.only_now c.args.disk.now c.add_records.new.disk c.add_items.new.disk (SurvivesWith m xs) (SurvivesOf m) (SurvivesWith first.new xs)
    (c.add_records.ensures.any_moment tells m at.stands run.meta_payloads rs run.meta_is run.come) (c.add_items.ensures.any_moment tells first.new first.stands run.payloads xs run.items_are come)
    (survives_more m xs) (grown_survives_with m e old mid rs xs c.args.records.now c.args.items.now at run first)

pub returns-clause-ok : goal.returns-clause-ok
returns-clause-ok g c = λ tells m at rs xs run last many.
    let d = g.D.Disk in
    let e = c.args.ends.now in
    let old = d.held c.args.disk.now in
    let mid = d.held c.add_records.new.disk in
    let new = d.held c.add_items.new.disk in
    let first = c.in_ok-add_records.ensures.ok tells m at.stands run.meta_payloads rs run.meta_is run.come in
    let come = items_come m e old mid rs xs c.args.records.now c.args.items.now at run first in
    let second = c.in_ok-add_items.ensures.ok tells first.new first.stands run.payloads xs run.items_are come in
    subst (λ (x : Ends). GrownTo m rs [] xs (with_run e.volume c.args.records.now c.args.items.now m.files) x new) (sym c.ran_ends.ensures) (
      run_grown m e old mid rs xs c.args.records.now c.args.items.now at run first new second c.args.stamp,
      run_ends m e old mid rs xs c.args.records.now c.args.items.now at run first new second c.args.stamp c.args.count (shown_count (e.logged + c.args.count)) last many refl,
    )

pub returns-in_err-add_items-clause-grows : goal.returns-in_err-add_items-clause-grows
returns-in_err-add_items-clause-grows g c = λ tells.
    let d = g.D.Disk in
    grows_then (d.held c.args.disk.now) (d.held c.add_records.new.disk) (d.held c.add_items.new.disk) (c.add_records.ensures.grows tells) (c.add_items.ensures.grows tells)

pub returns-clause-grows : goal.returns-clause-grows
returns-clause-grows g c = λ tells.
    let d = g.D.Disk in
    grows_then (d.held c.args.disk.now) (d.held c.add_records.new.disk) (d.held c.add_items.new.disk) (c.add_records.ensures.grows tells) (c.add_items.ensures.grows tells)

pub returns-in_err-add_records-clause-most : goal.returns-in_err-add_records-clause-most
returns-in_err-add_records-clause-most g c = λ tells m at rs xs run.
    let d = g.D.Disk in
    let n = c.args.ends.now.volume in
    let files = with_added Meta c.args.records.now m.files in
    most_longer files (with_run n c.args.records.now c.args.items.now m.files) (d.held c.add_records.new.disk) (added_longer (Volume n) c.args.items.now files) (c.add_records.ensures.most tells m.files at.stands.written)

pub returns-in_err-add_items-clause-most : goal.returns-in_err-add_items-clause-most
returns-in_err-add_items-clause-most g c = λ tells m at rs xs run.
    let d = g.D.Disk in
    let n = c.args.ends.now.volume in
    let records = c.args.records.now in
    let items = c.args.items.now in
    let new = d.held c.add_items.new.disk in
    let first = c.in_ok-add_records.ensures.ok tells m at.stands run.meta_payloads rs run.meta_is run.come in
    most_as (with_added (Volume n) items first.new.files) (with_run n records items m.files) new (added_same (Volume n) items first.new.files (with_added Meta records m.files) first.files_are)
    (c.add_items.ensures.most tells first.new.files first.stands.written)

pub returns-clause-most : goal.returns-clause-most
returns-clause-most g c = λ tells m at rs xs run.
    let d = g.D.Disk in
    let n = c.args.ends.now.volume in
    let records = c.args.records.now in
    let items = c.args.items.now in
    let new = d.held c.add_items.new.disk in
    let first = c.in_ok-add_records.ensures.ok tells m at.stands run.meta_payloads rs run.meta_is run.come in
    most_as (with_added (Volume n) items first.new.files) (with_run n records items m.files) new (added_same (Volume n) items first.new.files (with_added Meta records m.files) first.files_are)
    (c.add_items.ensures.most tells first.new.files first.stands.written)
