-- The first run, and then those behind it.
use Rattle.std.proofs.Common.{◌+◌, ◌<◌, length, rules, refl, sym, ap, ◌∙◌, subst, arith}
use Rattle.std.proofs.lemmas.List.{nil_from_length}
use Rattle.logger_core.specs.declared.ends.Ends.{Ends}
use Rattle.logger_core.specs.Going.{AreSmall}
use Rattle.logger_core.specs.Grouping.{BeginsRun, samples_of}
use Rattle.logger_core.specs.Held.{AreRuns, AreRunsBounded, RunWritten, after_run, counts_of}
use Rattle.logger_core.specs.Runs.{SurvivesWith}
use Rattle.logger_core.proofs.Begun.{none_written}
use Rattle.logger_core.proofs.Calls.{no_call, run_as, run_then}
use Rattle.logger_core.proofs.Loggable.{survives_more}
use Rattle.logger_core.proofs.Passed.{later_passed, none_passed}
use Rattle.logger_core.proofs.Rests.{image_survives}
use Rattle.logger_core.proofs.RunsWritten.{begins_first, begins_later, first_enough, first_survives, never_none, nothing_written, rest_at, rest_enough, rest_first, rest_runs, rest_survives, rest_written}
use Rattle.logger_core.proofs.writing.+write_runs.Goals as goal

pub write_one-requires-clause-bounded : goal.write_one-requires-clause-bounded
write_one-requires-clause-bounded g t c =
    (subst (AreRunsBounded c.args.ends.now) c.in-Some.ensures.cases.0 c.requires.bounded).0

pub write_runs-requires : goal.write_runs-requires
write_runs-requires g t c =
    let small : AreSmall c.in-Ok.next = c.in-Ok.ensures.small in
    let bounded : AreRunsBounded c.in-Ok.next c.in-Some.rest.now =
    subst (λ (x : Ends). AreRunsBounded x c.in-Some.rest.now) (sym c.in-Ok.ensures.exact) (subst (AreRunsBounded c.args.ends.now) c.in-Some.ensures.cases.0 c.requires.bounded).1 in
    let few : counts_of c.in-Some.rest.now < 4294967296 = omega (arith, c.requires.few, ap counts_of c.in-Some.ensures.cases.0) in
    let less : length c.in-Some.rest.now < length c.args.runs.now = omega (arith, ap length c.in-Some.ensures.cases.0) in
    search rules

pub returns-in_default-clause-ok : goal.returns-in_default-clause-ok
returns-in_default-clause-ok g t c = λ tells m limit group now after at same all enough.
    let d = g.D.Disk in
    let e = c.args.ends.now in
    let old = d.held c.args.disk.now in
    let none = nil_from_length c.args.runs.now c.in_default.ensures.cases in
    subst (λ rs. RunWritten m e e limit rs group now old) (sym none) (nothing_written m e limit group now after old at (subst (λ rs. AreRuns m.contents.records e limit rs group now after) none all))

pub returns-in_default-clause-any_moment : goal.returns-in_default-clause-any_moment
returns-in_default-clause-any_moment g t c = λ tells m limit group now after at same all enough.
    let d = g.D.Disk in
    let e = c.args.ends.now in
    let old = d.held c.args.disk.now in
    no_call d g.met.D.Disk.only_now c.args.disk.now (SurvivesWith m (samples_of group)) (λ image crash. survives_more m (samples_of group) image (image_survives m e.volume old at.stands image crash))

pub returns-in-Err-clause-any_moment : goal.returns-in-Err-clause-any_moment
returns-in-Err-clause-any_moment g t c = λ tells m limit group now after at same all enough.
    let d = g.D.Disk in
    let e = c.args.ends.now in
    let run = c.in-Some.first.now in
    let rest = c.in-Some.rest.now in
    let old = d.held c.args.disk.now in
    let mid = d.held c.write_one.new.disk in
    let a = subst (λ rs. AreRuns m.contents.records e limit rs group now after) c.in-Some.ensures.cases.0 all in
    run_as d g.met.D.Disk.only_now c.args.disk.now c.write_one.new.disk (SurvivesWith m (samples_of group)) (SurvivesWith m (samples_of a.0))
    (c.write_one.ensures.any_moment tells m limit a.0 a.3 a.4 at same a.5 (first_enough m e (after_run e run) limit run rest group now after a enough refl))
    (first_survives m e (after_run e run) limit run rest group now after a enough refl)

pub returns-in-Err-clause-written : goal.returns-in-Err-clause-written
returns-in-Err-clause-written g t c = λ tells m limit group now after at same all enough.
    let d = g.D.Disk in
    let e = c.args.ends.now in
    let run = c.in-Some.first.now in
    let rest = c.in-Some.rest.now in
    let old = d.held c.args.disk.now in
    let mid = d.held c.write_one.new.disk in
    let a = subst (λ rs. AreRuns m.contents.records e limit rs group now after) c.in-Some.ensures.cases.0 all in
    let few = first_enough m e (after_run e run) limit run rest group now after a enough refl in
    none_written m e limit run rest group now after old mid at c.requires.small.volume a few (c.write_one.ensures.grows tells) (c.write_one.ensures.most tells m limit a.0 a.3 a.4 at same a.5 few)

pub returns-in-Err-clause-begins : goal.returns-in-Err-clause-begins
returns-in-Err-clause-begins g t c = λ records limit group now after all.
    let d = g.D.Disk in
    let e = c.args.ends.now in
    let run = c.in-Some.first.now in
    let rest = c.in-Some.rest.now in
    let old = d.held c.args.disk.now in
    let mid = d.held c.write_one.new.disk in
    let a = subst (λ rs. AreRuns records e limit rs group now after) c.in-Some.ensures.cases.0 all in
    begins_first records e limit run rest group now after a

pub returns-in-Err-clause-nothing : goal.returns-in-Err-clause-nothing
returns-in-Err-clause-nothing g t c = λ none.
    never_none c.args.runs.now c.in-Some.rest.now c.in-Some.first.now c.in-Some.ensures.cases.0 none

pub returns-in-Ok-write_runs-clause-nothing : goal.returns-in-Ok-write_runs-clause-nothing
returns-in-Ok-write_runs-clause-nothing g t c = λ none.
    never_none c.args.runs.now c.in-Some.rest.now c.in-Some.first.now c.in-Some.ensures.cases.0 none

pub returns-in-Err-write_runs-clause-nothing : goal.returns-in-Err-write_runs-clause-nothing
returns-in-Err-write_runs-clause-nothing g t c = λ none.
    never_none c.args.runs.now c.in-Some.rest.now c.in-Some.first.now c.in-Some.ensures.cases.0 none

pub returns-in-Ok-write_runs-clause-ok : goal.returns-in-Ok-write_runs-clause-ok
returns-in-Ok-write_runs-clause-ok g t c = λ tells m limit group now after at same all enough.
    let d = g.D.Disk in
    let e = c.args.ends.now in
    let run = c.in-Some.first.now in
    let rest = c.in-Some.rest.now in
    let old = d.held c.args.disk.now in
    let mid = d.held c.write_one.new.disk in
    let a = subst (λ rs. AreRuns m.contents.records e limit rs group now after) c.in-Some.ensures.cases.0 all in
    let next = c.in-Ok.next in
    let new = d.held c.write_runs.new.disk in
    let is = c.in-Ok.ensures.exact in
    let w = c.in-Ok.ensures.ok tells m limit a.0 a.3 a.4 at same a.5 (first_enough m e next limit run rest group now after a enough is) in
    subst (λ rs. RunWritten m e c.in-Ok-write_runs.last limit rs group now new) (sym c.in-Some.ensures.cases.0) (rest_written m e next limit run rest group now after a enough is mid w c.in-Ok-write_runs.last new (c.in-Ok-write_runs.ensures.ok tells w.new limit a.1 now after w.at (w.label_same ∙ same) (rest_runs m e next limit run rest group now after a enough is mid w) (rest_enough m e next limit run rest group now after a enough is)))

pub returns-in-Ok-write_runs-clause-any_moment : goal.returns-in-Ok-write_runs-clause-any_moment
returns-in-Ok-write_runs-clause-any_moment g t c = λ tells m limit group now after at same all enough.
    let d = g.D.Disk in
    let e = c.args.ends.now in
    let run = c.in-Some.first.now in
    let rest = c.in-Some.rest.now in
    let old = d.held c.args.disk.now in
    let mid = d.held c.write_one.new.disk in
    let a = subst (λ rs. AreRuns m.contents.records e limit rs group now after) c.in-Some.ensures.cases.0 all in
    let next = c.in-Ok.next in
    let new = d.held c.write_runs.new.disk in
    let is = c.in-Ok.ensures.exact in
    let w = c.in-Ok.ensures.ok tells m limit a.0 a.3 a.4 at same a.5 (first_enough m e next limit run rest group now after a enough is) in
    run_then d g.met.D.Disk.only_now c.args.disk.now c.write_one.new.disk c.write_runs.new.disk (SurvivesWith m (samples_of group)) (SurvivesWith m (samples_of a.0)) (SurvivesWith w.new (samples_of a.1))
    (c.write_one.ensures.any_moment tells m limit a.0 a.3 a.4 at same a.5 (first_enough m e next limit run rest group now after a enough is))
    (c.write_runs.ensures.any_moment tells w.new limit a.1 now after w.at (w.label_same ∙ same) (rest_runs m e next limit run rest group now after a enough is mid w) (rest_enough m e next limit run rest group now after a enough is))
    (first_survives m e next limit run rest group now after a enough is) (rest_survives m e next limit run rest group now after a enough is mid w)

pub returns-in-Err-write_runs-clause-any_moment : goal.returns-in-Err-write_runs-clause-any_moment
returns-in-Err-write_runs-clause-any_moment g t c = λ tells m limit group now after at same all enough.
    let d = g.D.Disk in
    let e = c.args.ends.now in
    let run = c.in-Some.first.now in
    let rest = c.in-Some.rest.now in
    let old = d.held c.args.disk.now in
    let mid = d.held c.write_one.new.disk in
    let a = subst (λ rs. AreRuns m.contents.records e limit rs group now after) c.in-Some.ensures.cases.0 all in
    let next = c.in-Ok.next in
    let new = d.held c.write_runs.new.disk in
    let is = c.in-Ok.ensures.exact in
    let w = c.in-Ok.ensures.ok tells m limit a.0 a.3 a.4 at same a.5 (first_enough m e next limit run rest group now after a enough is) in
    run_then d g.met.D.Disk.only_now c.args.disk.now c.write_one.new.disk c.write_runs.new.disk (SurvivesWith m (samples_of group)) (SurvivesWith m (samples_of a.0)) (SurvivesWith w.new (samples_of a.1))
    (c.write_one.ensures.any_moment tells m limit a.0 a.3 a.4 at same a.5 (first_enough m e next limit run rest group now after a enough is))
    (c.write_runs.ensures.any_moment tells w.new limit a.1 now after w.at (w.label_same ∙ same) (rest_runs m e next limit run rest group now after a enough is mid w) (rest_enough m e next limit run rest group now after a enough is))
    (first_survives m e next limit run rest group now after a enough is) (rest_survives m e next limit run rest group now after a enough is mid w)

pub returns-in-Err-write_runs-clause-written : goal.returns-in-Err-write_runs-clause-written
returns-in-Err-write_runs-clause-written g t c = λ tells m limit group now after at same all enough.
    let d = g.D.Disk in
    let e = c.args.ends.now in
    let run = c.in-Some.first.now in
    let rest = c.in-Some.rest.now in
    let old = d.held c.args.disk.now in
    let mid = d.held c.write_one.new.disk in
    let a = subst (λ rs. AreRuns m.contents.records e limit rs group now after) c.in-Some.ensures.cases.0 all in
    let next = c.in-Ok.next in
    let new = d.held c.write_runs.new.disk in
    let is = c.in-Ok.ensures.exact in
    let w = c.in-Ok.ensures.ok tells m limit a.0 a.3 a.4 at same a.5 (first_enough m e next limit run rest group now after a enough is) in
    rest_first m e next limit run rest group now after a enough is mid w c.in-Err-write_runs.k (run.count + c.in-Err-write_runs.k) new refl (c.in-Err-write_runs.ensures.written tells w.new limit a.1 now after w.at (w.label_same ∙ same) (rest_runs m e next limit run rest group now after a enough is mid w) (rest_enough m e next limit run rest group now after a enough is))

pub returns-in-Err-write_runs-clause-begins : goal.returns-in-Err-write_runs-clause-begins
returns-in-Err-write_runs-clause-begins g t c = λ records limit group now after all.
    let d = g.D.Disk in
    let e = c.args.ends.now in
    let run = c.in-Some.first.now in
    let rest = c.in-Some.rest.now in
    let old = d.held c.args.disk.now in
    let mid = d.held c.write_one.new.disk in
    let a = subst (λ rs. AreRuns records e limit rs group now after) c.in-Some.ensures.cases.0 all in
    let next = c.in-Ok.next in
    let is = c.in-Ok.ensures.exact in
    begins_later records e limit run rest group now after a c.in-Err-write_runs.k (run.count + c.in-Err-write_runs.k) refl
    (subst (λ (x : Ends). BeginsRun a.3 x limit a.1 c.in-Err-write_runs.k) (is ∙ sym a.5.after_is) (c.in-Err-write_runs.ensures.begins a.3 limit a.1 now after (rest_at records e next limit run rest group now after a is)))

pub returns-in-Err-clause-passed : goal.returns-in-Err-clause-passed
returns-in-Err-clause-passed g t c = λ tells m limit group now after at same all enough.
    let d = g.D.Disk in
    let e = c.args.ends.now in
    let run = c.in-Some.first.now in
    let rest = c.in-Some.rest.now in
    let a = subst (λ rs. AreRuns m.contents.records e limit rs group now after) c.in-Some.ensures.cases.0 all in
    none_passed d g.met.D.Disk.only_now m e limit group c.args.disk.now c.write_one.new.disk at
    (run_as d g.met.D.Disk.only_now c.args.disk.now c.write_one.new.disk (SurvivesWith m (samples_of group)) (SurvivesWith m (samples_of a.0))
    (c.write_one.ensures.any_moment tells m limit a.0 a.3 a.4 at same a.5 (first_enough m e (after_run e run) limit run rest group now after a enough refl))
    (first_survives m e (after_run e run) limit run rest group now after a enough refl))

pub returns-in-Err-write_runs-clause-passed : goal.returns-in-Err-write_runs-clause-passed
returns-in-Err-write_runs-clause-passed g t c = λ tells m limit group now after at same all enough.
    let d = g.D.Disk in
    let e = c.args.ends.now in
    let run = c.in-Some.first.now in
    let rest = c.in-Some.rest.now in
    let mid = d.held c.write_one.new.disk in
    let a = subst (λ rs. AreRuns m.contents.records e limit rs group now after) c.in-Some.ensures.cases.0 all in
    let next = c.in-Ok.next in
    let is = c.in-Ok.ensures.exact in
    let few = first_enough m e next limit run rest group now after a enough is in
    let w = c.in-Ok.ensures.ok tells m limit a.0 a.3 a.4 at same a.5 few in
    later_passed d g.met.D.Disk.only_now m e next limit run rest group now after a c.args.disk.now c.write_one.new.disk c.write_runs.new.disk w (c.write_one.ensures.any_moment tells m limit a.0 a.3 a.4 at same a.5 few) c.in-Err-write_runs.k (run.count + c.in-Err-write_runs.k) refl
    (c.in-Err-write_runs.ensures.passed tells w.new limit a.1 now after w.at (w.label_same ∙ same) (rest_runs m e next limit run rest group now after a enough is mid w) (rest_enough m e next limit run rest group now after a enough is))
