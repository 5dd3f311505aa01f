-- What is held is written where a result has no place beside it.
use Rattle.std.proofs.Common.{sym, subst}
use Rattle.logging_session.specs.Keeping.{Carried}
use Rattle.logging_run.specs.Running.{Runs}
use Rattle.logging_run.proofs.Standing.{flush_stops, writes}
use Rattle.logging_run.proofs.run.Run.make_place.Goals as goal

pub returns-clause-done : goal.returns-clause-done
returns-clause-done g c = λ limit handed start runs.
    let s = c.self.inside.session in
    let runs_so = subst (λ (x : Carried). Runs g.D.Disk limit handed x start c.args.disk.now) (sym c.self.view_is) runs in
    let same = c.write.ensures.same in
    let ok = c.in_default.ensures in
    writes g.D.Disk g.met.D.Disk.only_now limit start handed s c.write.new.self c.args.disk.now c.write.new.disk runs_so.rests same.0 same.1 same.2 ok.open_ ok.working.1 ok.quiet ok.went

pub returns-in-Err-clause-failed : goal.returns-in-Err-clause-failed
returns-in-Err-clause-failed g c = λ limit handed start runs.
    let s = c.self.inside.session in
    let runs_so = subst (λ (x : Carried). Runs g.D.Disk limit handed x start c.args.disk.now) (sym c.self.view_is) runs in
    let same = c.write.ensures.same in
    let err = c.in-Err.ensures in
    flush_stops g.D.Disk g.met.D.Disk.only_now limit start handed s c.write.new.self c.args.disk.now c.write.new.disk runs_so.rests same.0 same.1 runs_so.working c.in-Err.field-0 err.cause err.went err.passed
