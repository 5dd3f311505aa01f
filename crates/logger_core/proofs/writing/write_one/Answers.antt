-- A volume with room for the run, and then the run.
use Rattle.logger_core.specs.Grouping.{samples_of}
use Rattle.logger_core.specs.Meant.{SurvivesOf, stood_in}
use Rattle.logger_core.specs.Runs.{SurvivesWith}
use Rattle.logger_core.proofs.Calls.{run_as, run_then}
use Rattle.logger_core.proofs.Growing.{grows_then}
use Rattle.logger_core.proofs.Loggable.{survives_more}
use Rattle.logger_core.proofs.RunsWritten.{may_run, run_come, run_ok, run_survives, first_many, based, run_most}
use Rattle.logger_core.specs.Held.{ready_files, run_files}
use Rattle.logger_core.specs.LogSteps.{base_files}
use Rattle.logger_core.specs.Planning.{ready_ends}
use Rattle.logger_core.proofs.AtMost.{most_as, most_longer, run_longer}
use Rattle.logger_core.proofs.writing.write_one.Goals as goal

pub returns-in_err-start-clause-any_moment : goal.returns-in_err-start-clause-any_moment
returns-in_err-start-clause-any_moment g c = λ tells m limit group now after at same r enough.
    let d = g.D.Disk in
    run_as d g.met.D.Disk.only_now c.args.disk.now c.make_room.new.disk (SurvivesWith m (samples_of group)) (SurvivesOf m) (c.make_room.ensures.any_moment tells m at same) (survives_more m (samples_of group))

pub returns-clause-any_moment : goal.returns-clause-any_moment
returns-clause-any_moment g c = λ tells m limit group now after at same r enough.
    let d = g.D.Disk in
    let e = c.args.ends.now in
    let run = c.args.run.now in
    let old = d.held c.args.disk.now in
    let mid = d.held c.make_room.new.disk in
    let start = c.in_ok-start.start in
    let ready = c.in_ok-start.ensures.ok tells m at same in
    let may = may_run m e start old mid limit run group now after at r enough c.in_ok-start.ensures.exact ready in
    run_then d g.met.D.Disk.only_now c.args.disk.now c.make_room.new.disk c.write_run.new.disk (SurvivesWith m (samples_of group)) (SurvivesOf m) (SurvivesWith ready.new (samples_of group))
    (c.make_room.ensures.any_moment tells m at same)
    (c.write_run.ensures.any_moment tells ready.new ready.at may.records (samples_of group) (run_come m e start old mid limit run group now after at r enough c.in_ok-start.ensures.exact ready c.as_slice-records.result.now c.as_slice-items.result.now c.as_slice-records.ensures c.as_slice-items.ensures))
    (survives_more m (samples_of group)) (run_survives m e start old mid limit run group now after at r enough c.in_ok-start.ensures.exact ready)

pub returns-clause-ok : goal.returns-clause-ok
returns-clause-ok g c = λ tells m limit group now after at same r enough.
    let d = g.D.Disk in
    let e = c.args.ends.now in
    let run = c.args.run.now in
    let old = d.held c.args.disk.now in
    let mid = d.held c.make_room.new.disk in
    let start = c.in_ok-start.start in
    let ready = c.in_ok-start.ensures.ok tells m at same in
    let exact = c.in_ok-start.ensures.exact in
    let may = may_run m e start old mid limit run group now after at r enough exact ready in
    run_ok m e start old mid limit run group now after at r enough exact ready (d.held c.write_run.new.disk) c.write_run.result c.as_slice-records.result.now c.as_slice-items.result.now c.as_slice-records.ensures c.as_slice-items.ensures c.write_run.ensures.exact
    (c.write_run.ensures.ok tells ready.new ready.at may.records (samples_of group) (run_come m e start old mid limit run group now after at r enough exact ready c.as_slice-records.result.now c.as_slice-items.result.now c.as_slice-records.ensures c.as_slice-items.ensures) may.last (first_many group r.count_is))

pub returns-clause-grows : goal.returns-clause-grows
returns-clause-grows g c = λ tells.
    let d = g.D.Disk in
    grows_then (d.held c.args.disk.now) (d.held c.make_room.new.disk) (d.held c.write_run.new.disk) (c.make_room.ensures.grows tells) (c.write_run.ensures.grows tells)

pub returns-in_err-start-clause-most : goal.returns-in_err-start-clause-most
returns-in_err-start-clause-most g c = λ tells m limit group now after at same r enough.
    let d = g.D.Disk in
    let e = c.args.ends.now in
    let run = c.args.run.now in
    let mid = d.held c.make_room.new.disk in
    let files = ready_files m.contents.label run.crossing e m.files in
    most_longer files (run_files m.contents.label e run m.files) mid (run_longer (ready_ends run.crossing e).volume run.records run.items files)
    (most_as (base_files run.crossing m.files m.contents e.volume m.greatest (stood_in m)) files mid (based m e at.ends run.crossing) (c.make_room.ensures.most tells m at same))

pub returns-clause-most : goal.returns-clause-most
returns-clause-most g c = λ tells m limit group now after at same r enough.
    let d = g.D.Disk in
    let e = c.args.ends.now in
    let run = c.args.run.now in
    let old = d.held c.args.disk.now in
    let mid = d.held c.make_room.new.disk in
    let start = c.in_ok-start.start in
    let ready = c.in_ok-start.ensures.ok tells m at same in
    let exact = c.in_ok-start.ensures.exact in
    let may = may_run m e start old mid limit run group now after at r enough exact ready in
    run_most m e start old mid limit run group now after at r enough exact ready (d.held c.write_run.new.disk) c.as_slice-records.result.now c.as_slice-items.result.now c.as_slice-records.ensures c.as_slice-items.ensures
    (c.write_run.ensures.most tells ready.new ready.at may.records (samples_of group) (run_come m e start old mid limit run group now after at r enough exact ready c.as_slice-records.result.now c.as_slice-items.result.now c.as_slice-records.ensures c.as_slice-items.ensures))
