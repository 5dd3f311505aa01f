-- What was judged is written.
use Rattle.std.proofs.Common.{refl, sym, ◌∙◌, subst, List, take}
use Rattle.std.specs.Prelude.{◌≡◌, ◌≢◌}
use Rattle.logger_core.specs.Grouping.{GroupMayAnswer, LeavesFirst, samples_of, Told}
use Rattle.logger_core.specs.Held.{IsJudgedBy, held_of}
use Rattle.logger_core.specs.Meant.{Kept}
use Rattle.logger_core.specs.Runs.{SurvivesWith}
use Rattle.logger_core.proofs.Calls.{no_call, run_as}
use Rattle.logger_core.proofs.GroupLogged.{always_open, answer_on, answers_done, answers_fault, answers_first, answers_loggable, answers_open, answers_touched, disk_answer, front_written, given_runs, held_enough, held_survives, inside_at, inside_bounded, inside_few, inside_label, judge_answer, judge_leaves, meant_runs, ok_always, answers_refused}
use Rattle.logger_core.proofs.HeldRuns.{runs_after}
use Rattle.logger_core.proofs.Loggable.{survives_more}
use Rattle.logger_core.proofs.Rests.{image_survives}
use Rattle.pcp_outside.specs.Devices.{LeavesOnly}
use Rattle.logger_core.specs.declared.fault.LogFault.TheVariants.{DiskFault}
use Rattle.logger_core.proofs.logger.Logger.log_all.Goals as goal

pub write_runs-requires-clause-bounded : goal.write_runs-requires-clause-bounded
write_runs-requires-clause-bounded g c =
    let inside : Kept = record { label = c.self.inside.label; records = c.self.inside.meta; ends = c.self.inside.ends; limit = c.self.inside.limit; closed = c.self.inside.closed } in
    let d = g.D.Disk in
    let old = c.args.self.now in
    let now = c.judged.new.self in
    let group = c.args.group.now in
    let j = c.in_ok-judged.judged in
    let p = subst (λ all. IsJudgedBy old now all j) c.as_slice.ensures c.in_ok-judged.ensures.judged in
    let is = c.self.view_is in
    let runs = c.as_slice-runs.result.now in
    let same = c.as_slice-runs.ensures in
    inside_bounded old now inside group j p is runs same

pub write_runs-requires-clause-few : goal.write_runs-requires-clause-few
write_runs-requires-clause-few g c =
    let inside : Kept = record { label = c.self.inside.label; records = c.self.inside.meta; ends = c.self.inside.ends; limit = c.self.inside.limit; closed = c.self.inside.closed } in
    let d = g.D.Disk in
    let old = c.args.self.now in
    let now = c.judged.new.self in
    let group = c.args.group.now in
    let j = c.in_ok-judged.judged in
    let p = subst (λ all. IsJudgedBy old now all j) c.as_slice.ensures c.in_ok-judged.ensures.judged in
    let is = c.self.view_is in
    let runs = c.as_slice-runs.result.now in
    let same = c.as_slice-runs.ensures in
    inside_few old now inside group j p is runs same c.requires.few

pub returns-in-Ok-clause-done : goal.returns-in-Ok-clause-done
returns-in-Ok-clause-done g c = λ tells enough m l.
    let inside : Kept = record { label = c.self.inside.label; records = c.self.inside.meta; ends = c.self.inside.ends; limit = c.self.inside.limit; closed = c.self.inside.closed } in
    let d = g.D.Disk in
    let old = c.args.self.now in
    let now = c.judged.new.self in
    let group = c.args.group.now in
    let j = c.in_ok-judged.judged in
    let p = subst (λ all. IsJudgedBy old now all j) c.as_slice.ensures c.in_ok-judged.ensures.judged in
    let is = c.self.view_is in
    let runs = c.as_slice-runs.result.now in
    let same = c.as_slice-runs.ensures in
    answers_done old now inside group j p is c.answer_of.result c.in-Ok.ends c.answer_of.ensures.none c.answer_of.ensures.some m (d.held c.args.disk.now) (d.held c.write_runs.new.disk) l
    (c.in-Ok.ensures.ok tells m old.limit (held_of j.refused group) now.records j.group.planned (inside_at old now inside group j p is m (d.held c.args.disk.now) l) (inside_label old now inside group j p is m (d.held c.args.disk.now) l)
    (meant_runs old now inside group j p is m (d.held c.args.disk.now) l runs same) (held_enough j.refused group enough))

pub returns-in-Ok-clause-loggable : goal.returns-in-Ok-clause-loggable
returns-in-Ok-clause-loggable g c =
    let inside : Kept = record { label = c.self.inside.label; records = c.self.inside.meta; ends = c.self.inside.ends; limit = c.self.inside.limit; closed = c.self.inside.closed } in
    let d = g.D.Disk in
    let old = c.args.self.now in
    let now = c.judged.new.self in
    let group = c.args.group.now in
    let j = c.in_ok-judged.judged in
    let p = subst (λ all. IsJudgedBy old now all j) c.as_slice.ensures c.in_ok-judged.ensures.judged in
    let is = c.self.view_is in
    let runs = c.as_slice-runs.result.now in
    let same = c.as_slice-runs.ensures in
    answers_loggable old now inside group j p is c.answer_of.result c.in-Ok.ends c.answer_of.ensures.none c.answer_of.ensures.some (c.in-Ok.ensures.exact ∙ sym (runs_after old.records inside.ends old.limit runs (held_of j.refused group) now.records j.group.planned (given_runs old now inside group j p is runs same)))

pub returns-in-Ok-clause-open_ : goal.returns-in-Ok-clause-open_
returns-in-Ok-clause-open_ g c =
    let inside : Kept = record { label = c.self.inside.label; records = c.self.inside.meta; ends = c.self.inside.ends; limit = c.self.inside.limit; closed = c.self.inside.closed } in
    let d = g.D.Disk in
    let old = c.args.self.now in
    let now = c.judged.new.self in
    let group = c.args.group.now in
    let j = c.in_ok-judged.judged in
    let p = subst (λ all. IsJudgedBy old now all j) c.as_slice.ensures c.in_ok-judged.ensures.judged in
    let is = c.self.view_is in
    let runs = c.as_slice-runs.result.now in
    let same = c.as_slice-runs.ensures in
    answers_open old now inside group j p is c.answer_of.result c.in-Ok.ends c.answer_of.ensures.none c.answer_of.ensures.some

pub returns-in-Ok-clause-any_moment : goal.returns-in-Ok-clause-any_moment
returns-in-Ok-clause-any_moment g c = λ tells enough m l.
    let inside : Kept = record { label = c.self.inside.label; records = c.self.inside.meta; ends = c.self.inside.ends; limit = c.self.inside.limit; closed = c.self.inside.closed } in
    let d = g.D.Disk in
    let old = c.args.self.now in
    let now = c.judged.new.self in
    let group = c.args.group.now in
    let j = c.in_ok-judged.judged in
    let p = subst (λ all. IsJudgedBy old now all j) c.as_slice.ensures c.in_ok-judged.ensures.judged in
    let is = c.self.view_is in
    let runs = c.as_slice-runs.result.now in
    let same = c.as_slice-runs.ensures in
    run_as d g.met.D.Disk.only_now c.args.disk.now c.write_runs.new.disk (SurvivesWith m (samples_of group)) (SurvivesWith m (samples_of (held_of j.refused group)))
    (c.write_runs.ensures.any_moment tells m old.limit (held_of j.refused group) now.records j.group.planned (inside_at old now inside group j p is m (d.held c.args.disk.now) l) (inside_label old now inside group j p is m (d.held c.args.disk.now) l)
    (meant_runs old now inside group j p is m (d.held c.args.disk.now) l runs same) (held_enough j.refused group enough))
    (held_survives m j.refused group)

pub returns-clause-any_moment : goal.returns-clause-any_moment
returns-clause-any_moment g c = λ tells enough m l.
    let inside : Kept = record { label = c.self.inside.label; records = c.self.inside.meta; ends = c.self.inside.ends; limit = c.self.inside.limit; closed = c.self.inside.closed } in
    let d = g.D.Disk in
    let old = c.args.self.now in
    let now = c.judged.new.self in
    let group = c.args.group.now in
    let j = c.in_ok-judged.judged in
    let p = subst (λ all. IsJudgedBy old now all j) c.as_slice.ensures c.in_ok-judged.ensures.judged in
    let is = c.self.view_is in
    let runs = c.as_slice-runs.result.now in
    let same = c.as_slice-runs.ensures in
    run_as d g.met.D.Disk.only_now c.args.disk.now c.write_runs.new.disk (SurvivesWith m (samples_of group)) (SurvivesWith m (samples_of (held_of j.refused group)))
    (c.write_runs.ensures.any_moment tells m old.limit (held_of j.refused group) now.records j.group.planned (inside_at old now inside group j p is m (d.held c.args.disk.now) l) (inside_label old now inside group j p is m (d.held c.args.disk.now) l)
    (meant_runs old now inside group j p is m (d.held c.args.disk.now) l runs same) (held_enough j.refused group enough))
    (held_survives m j.refused group)

pub returns-in-Ok-clause-fault : goal.returns-in-Ok-clause-fault
returns-in-Ok-clause-fault g c =
    let inside : Kept = record { label = c.self.inside.label; records = c.self.inside.meta; ends = c.self.inside.ends; limit = c.self.inside.limit; closed = c.self.inside.closed } in
    let d = g.D.Disk in
    let old = c.args.self.now in
    let now = c.judged.new.self in
    let group = c.args.group.now in
    let j = c.in_ok-judged.judged in
    let p = subst (λ all. IsJudgedBy old now all j) c.as_slice.ensures c.in_ok-judged.ensures.judged in
    let is = c.self.view_is in
    let runs = c.as_slice-runs.result.now in
    let same = c.as_slice-runs.ensures in
    answers_fault old now inside group j p is c.answer_of.result c.in-Ok.ends c.answer_of.ensures.none c.answer_of.ensures.some (d.faults c.args.disk.now) (d.faults c.write_runs.new.disk) (c.in-Ok.ensures.exact ∙ sym (runs_after old.records inside.ends old.limit runs (held_of j.refused group) now.records j.group.planned (given_runs old now inside group j p is runs same))) (c.in-Ok.ensures.cause.quiet refl)

pub returns-in-Ok-clause-first : goal.returns-in-Ok-clause-first
returns-in-Ok-clause-first g c = λ tells enough m l.
    let inside : Kept = record { label = c.self.inside.label; records = c.self.inside.meta; ends = c.self.inside.ends; limit = c.self.inside.limit; closed = c.self.inside.closed } in
    let d = g.D.Disk in
    let old = c.args.self.now in
    let now = c.judged.new.self in
    let group = c.args.group.now in
    let j = c.in_ok-judged.judged in
    let p = subst (λ all. IsJudgedBy old now all j) c.as_slice.ensures c.in_ok-judged.ensures.judged in
    let is = c.self.view_is in
    let runs = c.as_slice-runs.result.now in
    let same = c.as_slice-runs.ensures in
    answers_first old now inside group j p is c.answer_of.result c.in-Ok.ends c.answer_of.ensures.none c.answer_of.ensures.some m (d.held c.args.disk.now) (d.held c.write_runs.new.disk) l
    (c.in-Ok.ensures.ok tells m old.limit (held_of j.refused group) now.records j.group.planned (inside_at old now inside group j p is m (d.held c.args.disk.now) l) (inside_label old now inside group j p is m (d.held c.args.disk.now) l)
    (meant_runs old now inside group j p is m (d.held c.args.disk.now) l runs same) (held_enough j.refused group enough))

pub returns-in-Ok-clause-untouched : goal.returns-in-Ok-clause-untouched
returns-in-Ok-clause-untouched g c =
    let inside : Kept = record { label = c.self.inside.label; records = c.self.inside.meta; ends = c.self.inside.ends; limit = c.self.inside.limit; closed = c.self.inside.closed } in
    let d = g.D.Disk in
    let old = c.args.self.now in
    let now = c.judged.new.self in
    let group = c.args.group.now in
    let j = c.in_ok-judged.judged in
    let p = subst (λ all. IsJudgedBy old now all j) c.as_slice.ensures c.in_ok-judged.ensures.judged in
    let is = c.self.view_is in
    let runs = c.as_slice-runs.result.now in
    let same = c.as_slice-runs.ensures in
    answers_touched old now inside group j p is c.answer_of.result c.in-Ok.ends c.answer_of.ensures.none c.answer_of.ensures.some runs c.args.disk.now c.write_runs.new.disk same c.write_runs.ensures.nothing

pub returns-clause-fault : goal.returns-clause-fault
returns-clause-fault g c =
    let inside : Kept = record { label = c.self.inside.label; records = c.self.inside.meta; ends = c.self.inside.ends; limit = c.self.inside.limit; closed = c.self.inside.closed } in
    let d = g.D.Disk in
    let old = c.args.self.now in
    let now = c.judged.new.self in
    let group = c.args.group.now in
    let j = c.in_ok-judged.judged in
    let p = subst (λ all. IsJudgedBy old now all j) c.as_slice.ensures c.in_ok-judged.ensures.judged in
    let is = c.self.view_is in
    let runs = c.as_slice-runs.result.now in
    let same = c.as_slice-runs.ensures in
    disk_answer old now inside group j p is (d.faults c.args.disk.now) (d.faults c.write_runs.new.disk) c.in-Err.k (c.in-Err.ensures.cause.failed refl) (c.in-Err.ensures.begins old.records old.limit (held_of j.refused group) now.records j.group.planned (given_runs old now inside group j p is runs same))

pub returns-clause-first : goal.returns-clause-first
returns-clause-first g c = λ tells enough m l.
    let inside : Kept = record { label = c.self.inside.label; records = c.self.inside.meta; ends = c.self.inside.ends; limit = c.self.inside.limit; closed = c.self.inside.closed } in
    let d = g.D.Disk in
    let old = c.args.self.now in
    let now = c.judged.new.self in
    let group = c.args.group.now in
    let j = c.in_ok-judged.judged in
    let p = subst (λ all. IsJudgedBy old now all j) c.as_slice.ensures c.in_ok-judged.ensures.judged in
    let is = c.self.view_is in
    let runs = c.as_slice-runs.result.now in
    let same = c.as_slice-runs.ensures in
    front_written old now inside group j p is m (d.held c.args.disk.now) l c.in-Err.k (d.held c.write_runs.new.disk) (c.in-Err.ensures.begins old.records old.limit (held_of j.refused group) now.records j.group.planned (given_runs old now inside group j p is runs same))
    (c.in-Err.ensures.written tells m old.limit (held_of j.refused group) now.records j.group.planned (inside_at old now inside group j p is m (d.held c.args.disk.now) l) (inside_label old now inside group j p is m (d.held c.args.disk.now) l)
    (meant_runs old now inside group j p is m (d.held c.args.disk.now) l runs same) (held_enough j.refused group enough))

pub returns-in_err-judged-clause-any_moment : goal.returns-in_err-judged-clause-any_moment
returns-in_err-judged-clause-any_moment g c = λ tells enough m l.
    let d = g.D.Disk in
    let old = c.args.self.now in
    let now = c.judged.new.self in
    let group = c.args.group.now in
    no_call d g.met.D.Disk.only_now c.args.disk.now (SurvivesWith m (samples_of group)) (λ image crash. survives_more m (samples_of group) image (image_survives m old.ends.volume (d.held c.args.disk.now) l.at.stands image crash))

pub returns-in_err-judged-clause-fault : goal.returns-in_err-judged-clause-fault
returns-in_err-judged-clause-fault g c =
    let d = g.D.Disk in
    let old = c.args.self.now in
    let now = c.judged.new.self in
    let group = c.args.group.now in
    let before = d.faults c.args.disk.now in
    answer_on c.from_residual.result c.in_err-judged.field-0.0 (λ e. GroupMayAnswer old now group before before e.0 e.1) c.from_residual.ensures.1 (judge_answer old now group before c.in_err-judged.field-0.0.0 c.in_err-judged.field-0.0.1 c.in_err-judged.ensures.fault)

pub returns-in_err-judged-clause-first : goal.returns-in_err-judged-clause-first
returns-in_err-judged-clause-first g c = λ tells enough m l.
    let d = g.D.Disk in
    let old = c.args.self.now in
    let now = c.judged.new.self in
    let group = c.args.group.now in
    let held = d.held c.args.disk.now in
    answer_on c.from_residual.result c.in_err-judged.field-0.0 (λ e. LeavesFirst m old now group held e.0 e.1) c.from_residual.ensures.1 (judge_leaves m old now group held c.in_err-judged.field-0.0.0 c.in_err-judged.field-0.0.1 l c.in_err-judged.ensures.fault)

pub returns-in-Ok-clause-quiet : goal.returns-in-Ok-clause-quiet
returns-in-Ok-clause-quiet g c =
    let inside : Kept = record { label = c.self.inside.label; records = c.self.inside.meta; ends = c.self.inside.ends; limit = c.self.inside.limit; closed = c.self.inside.closed } in
    let d = g.D.Disk in
    let old = c.args.self.now in
    let now = c.judged.new.self in
    let group = c.args.group.now in
    let j = c.in_ok-judged.judged in
    let p = subst (λ all. IsJudgedBy old now all j) c.as_slice.ensures c.in_ok-judged.ensures.judged in
    let is = c.self.view_is in
    let runs = c.as_slice-runs.result.now in
    let same = c.as_slice-runs.ensures in
    ok_always c.answer_of.result (d.faults c.write_runs.new.disk ≡ d.faults c.args.disk.now) (c.in-Ok.ensures.cause.quiet refl)

pub returns-in-Ok-clause-closed : goal.returns-in-Ok-clause-closed
returns-in-Ok-clause-closed g c = λ h.
    let inside : Kept = record { label = c.self.inside.label; records = c.self.inside.meta; ends = c.self.inside.ends; limit = c.self.inside.limit; closed = c.self.inside.closed } in
    let d = g.D.Disk in
    let old = c.args.self.now in
    let now = c.judged.new.self in
    let group = c.args.group.now in
    let j = c.in_ok-judged.judged in
    let p = subst (λ all. IsJudgedBy old now all j) c.as_slice.ensures c.in_ok-judged.ensures.judged in
    let is = c.self.view_is in
    let runs = c.as_slice-runs.result.now in
    let same = c.as_slice-runs.ensures in
    always_open old p.open_ h

pub returns-clause-closed : goal.returns-clause-closed
returns-clause-closed g c = λ h.
    let inside : Kept = record { label = c.self.inside.label; records = c.self.inside.meta; ends = c.self.inside.ends; limit = c.self.inside.limit; closed = c.self.inside.closed } in
    let d = g.D.Disk in
    let old = c.args.self.now in
    let now = c.judged.new.self in
    let group = c.args.group.now in
    let j = c.in_ok-judged.judged in
    let p = subst (λ all. IsJudgedBy old now all j) c.as_slice.ensures c.in_ok-judged.ensures.judged in
    let is = c.self.view_is in
    let runs = c.as_slice-runs.result.now in
    let same = c.as_slice-runs.ensures in
    always_open old p.open_ h

pub returns-in-Ok-clause-refused : goal.returns-in-Ok-clause-refused
returns-in-Ok-clause-refused g c = λ tells enough m l.
    let inside : Kept = record { label = c.self.inside.label; records = c.self.inside.meta; ends = c.self.inside.ends; limit = c.self.inside.limit; closed = c.self.inside.closed } in
    let d = g.D.Disk in
    let old = c.args.self.now in
    let now = c.judged.new.self in
    let group = c.args.group.now in
    let j = c.in_ok-judged.judged in
    let p = subst (λ all. IsJudgedBy old now all j) c.as_slice.ensures c.in_ok-judged.ensures.judged in
    let is = c.self.view_is in
    let runs = c.as_slice-runs.result.now in
    let same = c.as_slice-runs.ensures in
    answers_refused old now inside group j p is c.answer_of.result c.in-Ok.ends c.answer_of.ensures.none c.answer_of.ensures.some
    (λ (gs : List Told). LeavesOnly d.moment d.left_since c.args.disk.now c.write_runs.new.disk (SurvivesWith m (samples_of gs)))
    (c.write_runs.ensures.any_moment tells m old.limit (held_of j.refused group) now.records j.group.planned (inside_at old now inside group j p is m (d.held c.args.disk.now) l) (inside_label old now inside group j p is m (d.held c.args.disk.now) l)
    (meant_runs old now inside group j p is m (d.held c.args.disk.now) l runs same) (held_enough j.refused group enough))

pub returns-in_err-judged-clause-refused : goal.returns-in_err-judged-clause-refused
returns-in_err-judged-clause-refused g c = λ tells enough m l.
    let d = g.D.Disk in
    let old = c.args.self.now in
    let group = c.args.group.now in
    answer_on c.from_residual.result c.in_err-judged.field-0.0 (λ e. e.1 ≢ DiskFault → LeavesOnly d.moment d.left_since c.args.disk.now c.args.disk.now (SurvivesWith m (samples_of (take e.0 group)))) c.from_residual.ensures.1
    (λ other. no_call d g.met.D.Disk.only_now c.args.disk.now (SurvivesWith m (samples_of (take c.in_err-judged.field-0.0.0 group)))
    (λ image crash. survives_more m (samples_of (take c.in_err-judged.field-0.0.0 group)) image (image_survives m old.ends.volume (d.held c.args.disk.now) l.at.stands image crash)))
