-- What was logged is made sure.
use Rattle.std.proofs.Common.{◌++◌, ◌∷◌, [], sym, subst}
use Rattle.logging_session.specs.Keeping.{Carried}
use Rattle.logging_run.specs.Running.{Runs}
use Rattle.logging_run.specs.Handing.{Handed, events_of}
use Rattle.logging_run.proofs.Standing.{flush_stops, kept_settles, syncs}
use Rattle.logging_run.proofs.run.Run.make_sure.Goals as goal

pub returns-clause-done : goal.returns-clause-done
returns-clause-done g c = λ limit handed r start runs.
    let s = c.self.inside.session in
    let runs_so = subst (λ (x : Carried). Runs g.D.Disk limit (handed ++ Handed.held r ∷ []) x start c.args.disk.now) (sym c.self.view_is) runs in
    let same = c.sync.ensures.same in
    let ok = c.in_default.ensures in
    syncs g.D.Disk g.met.D.Disk.only_now limit start handed r s c.sync.new.self c.args.disk.now c.sync.new.disk runs_so.rests same.0 same.1 same.2 ok.open_ ok.working.1 ok.quiet ok.went

pub returns-clause-settled : goal.returns-clause-settled
returns-clause-settled g c = λ tells limit handed start runs.
    let s = c.self.inside.session in
    let runs_so = subst (λ (x : Carried). Runs g.D.Disk limit handed x start c.args.disk.now) (sym c.self.view_is) runs in
    kept_settles g.D.Disk g.met.D.Disk.only_now limit start handed s c.args.disk.now c.sync.new.disk runs_so.rests tells (λ left k. c.in_default.ensures.settled tells left (events_of handed) k)

pub returns-in-Err-clause-failed : goal.returns-in-Err-clause-failed
returns-in-Err-clause-failed g c = λ limit handed start runs.
    let s = c.self.inside.session in
    let runs_so = subst (λ (x : Carried). Runs g.D.Disk limit handed x start c.args.disk.now) (sym c.self.view_is) runs in
    let same = c.sync.ensures.same in
    let err = c.in-Err.ensures in
    flush_stops g.D.Disk g.met.D.Disk.only_now limit start handed s c.sync.new.self c.args.disk.now c.sync.new.disk runs_so.rests same.0 same.1 runs_so.working c.in-Err.field-0 err.cause err.went err.passed
