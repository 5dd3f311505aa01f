-- A volume with room for the record, and then the run.
use Rattle.std.proofs.Common.{refl, [], ◌∷◌}
use Rattle.pcp_base.specs.declared.result.Item.TheVariants.{Sample}
use Rattle.logger_core.specs.Meant.{SurvivesOf}
use Rattle.logger_core.specs.Runs.{SurvivesWith}
use Rattle.logger_core.proofs.Calls.{run_as, run_then}
use Rattle.logger_core.proofs.Loggable.{survives_more, item_ok, ready_run, ready_last, ready_survives}
use Rattle.logger_core.proofs.logging.write_item.Goals as goal

pub returns-in_err-start-clause-any_moment : goal.returns-in_err-start-clause-any_moment
returns-in_err-start-clause-any_moment g c = λ tells m limit facts after at same w.
    let d = g.D.Disk in
    run_as d g.met.D.Disk.only_now c.args.disk.now c.make_room.new.disk (SurvivesWith m (Sample c.args.answer.now ∷ [])) (SurvivesOf m) (c.make_room.ensures.any_moment tells m at same) (survives_more m (Sample c.args.answer.now ∷ []))

pub returns-clause-any_moment : goal.returns-clause-any_moment
returns-clause-any_moment g c = λ tells m limit facts after at same w.
    let d = g.D.Disk in
    let e = c.args.ends.now in
    let answer = c.args.answer.now in
    let made = c.args.made.now in
    let old = d.held c.args.disk.now in
    let mid = d.held c.make_room.new.disk in
    let start = c.in_ok-start.start in
    let ready = c.in_ok-start.ensures.ok tells m at same in
    run_then d g.met.D.Disk.only_now c.args.disk.now c.make_room.new.disk c.write_run.new.disk (SurvivesWith m (Sample answer ∷ [])) (SurvivesOf m) (SurvivesWith ready.new (Sample answer ∷ []))
    (c.make_room.ensures.any_moment tells m at same)
    (c.write_run.ensures.any_moment tells ready.new ready.at w.is.metadata.missing (Sample answer ∷ []) (ready_run m e start old mid limit answer facts after made at w ready c.as_slice.result.now c.as_slice-2.result.now c.as_slice.ensures c.as_slice-2.ensures))
    (survives_more m (Sample answer ∷ [])) (ready_survives m e start old mid limit answer facts after made at w ready)

pub returns-clause-ok : goal.returns-clause-ok
returns-clause-ok g c = λ tells m limit facts after at same w.
    let d = g.D.Disk in
    let e = c.args.ends.now in
    let answer = c.args.answer.now in
    let made = c.args.made.now in
    let old = d.held c.args.disk.now in
    let mid = d.held c.make_room.new.disk in
    let start = c.in_ok-start.start in
    let ready = c.in_ok-start.ensures.ok tells m at same in
    item_ok m e start old mid (d.held c.write_run.new.disk) limit answer facts after made at w ready c.write_run.result c.as_slice.result.now c.as_slice-2.result.now c.as_slice.ensures c.as_slice-2.ensures c.write_run.ensures.exact
    (c.write_run.ensures.ok tells ready.new ready.at w.is.metadata.missing (Sample answer ∷ []) (ready_run m e start old mid limit answer facts after made at w ready c.as_slice.result.now c.as_slice-2.result.now c.as_slice.ensures c.as_slice-2.ensures) (ready_last m e start old mid limit answer facts after made at w ready) refl)
