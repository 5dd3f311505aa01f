-- What was logged is flushed.
use Rattle.std.proofs.Common.{sym, subst}
use Rattle.logging_session.specs.Keeping.{Carried}
use Rattle.logging_run.specs.Running.{Rests}
use Rattle.logging_run.specs.Handing.{events_of}
use Rattle.logging_run.proofs.Standing.{close_stops, flushes}
use Rattle.logging_run.proofs.run.Run.finish.Goals as goal

pub returns-clause-done : goal.returns-clause-done
returns-clause-done g c = λ tells limit handed start rests.
    let s = c.self.inside.session in
    let so = subst (λ (x : Carried). Rests g.D.Disk limit handed x start c.args.disk.now) (sym c.self.view_is) rests in
    let same = c.close.ensures.same in
    let ok = c.in_default.ensures in
    flushes g.D.Disk g.met.D.Disk.only_now limit start handed s c.close.new.self c.args.disk.now c.close.new.disk so same.0 same.1 g.met.D.Disk.counts_now tells (λ left st k. ok.went tells left (events_of handed) st k) ok.none
    (λ left k. ok.settled tells left (events_of handed) k) (λ left k whole. ok.whole tells left (events_of handed) k whole)

pub returns-in-Err-clause-failed : goal.returns-in-Err-clause-failed
returns-in-Err-clause-failed g c = λ limit handed start rests.
    let s = c.self.inside.session in
    let so = subst (λ (x : Carried). Rests g.D.Disk limit handed x start c.args.disk.now) (sym c.self.view_is) rests in
    let same = c.close.ensures.same in
    let err = c.in-Err.ensures in
    close_stops g.D.Disk g.met.D.Disk.only_now limit start handed s c.close.new.self c.args.disk.now c.close.new.disk so same.0 same.1 (λ none. let e = (err.idle none so.unfailed).0 in cc) c.in-Err.field-0 err.cause err.went err.passed
