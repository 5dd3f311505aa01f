-- A result is logged, and held.
use Rattle.std.proofs.Common.{inl, inr, sym, subst}
use Rattle.logging_session.specs.Keeping.{Carried}
use Rattle.logging_session.specs.Written.{Report}
use Rattle.logging_run.specs.declared.fault.RunFault.{RunFault}
use Rattle.logging_run.specs.Handing.{events_of}
use Rattle.logging_run.specs.Running.{Runs, Stops}
use Rattle.logging_run.proofs.Logging.{stops_so}
use Rattle.logging_run.proofs.Places.{log_unclosed}
use Rattle.logging_run.proofs.Standing.{handed_on, logs}
use Rattle.logging_run.proofs.run.Run.log_held.Goals as goal

pub returns-clause-done : goal.returns-clause-done
returns-clause-done g c = λ enough limit handed start runs.
    let r : Report = record { result = c.args.answer.now; facts = c.args.facts.now } in
    let mid = c.self.inside.session in
    let placed = subst (λ (x : Carried). Runs g.D.Disk limit handed x start c.make_place.new.disk) (sym c.self.view_is) (c.in_ok-make_place.ensures.done limit handed start runs) in
    let same = c.log.ensures.same in
    let ok = c.in_default.ensures in
    logs g.D.Disk g.met.D.Disk.only_now limit start handed r mid c.log.new.self c.make_place.new.disk c.log.new.disk placed.rests same.0 same.1 ok.counted ok.open_.1 (inr ok.open_.1) ok.quiet
    (λ tells left st k. ok.went tells enough left (events_of handed) st k)

pub returns-in_err-make_place-clause-stops : goal.returns-in_err-make_place-clause-stops
returns-in_err-make_place-clause-stops g c = λ enough limit handed start runs.
    let d = g.D.Disk in
    let r : Report = record { result = c.args.answer.now; facts = c.args.facts.now } in
    let e = c.in_err-make_place.field-0.0 in
    handed_on c.from_residual.result e (λ (f : RunFault). Stops d limit handed r c.make_place.new.self start c.make_place.new.disk f) c.from_residual.ensures.1
    (subst (λ (f : RunFault). Stops d limit handed r c.make_place.new.self start c.make_place.new.disk f) (sym c.in_err-make_place.ensures.kinds) (inl (c.in_err-make_place.ensures.failed limit handed start runs)))

pub returns-in-Err-clause-stops : goal.returns-in-Err-clause-stops
returns-in-Err-clause-stops g c = λ enough limit handed start runs.
    let d = g.D.Disk in
    let r : Report = record { result = c.args.answer.now; facts = c.args.facts.now } in
    let middle = c.make_place.new.disk in
    let mid = c.self.inside.session in
    let placed = subst (λ (x : Carried). Runs g.D.Disk limit handed x start c.make_place.new.disk) (sym c.self.view_is) (c.in_ok-make_place.ensures.done limit handed start runs) in
    let same = c.log.ensures.same in
    let err = c.in-Err.ensures in
    subst (λ (f : RunFault). Stops d limit handed r c.log.new.self start c.log.new.disk f) (sym c.refusal.ensures)
    (stops_so d g.met.D.Disk.only_now limit start handed r mid c.log.new.self middle c.log.new.disk placed.rests same.0 same.1 err.uncounted c.in-Err.fault
    (log_unclosed r mid c.log.new.self (d.faults middle) (d.faults c.log.new.disk) c.in-Err.fault placed.working err.cause) err.cause err.still
    (λ tells left st k. err.went tells enough left (events_of handed) st k) (λ tells left st k is. err.passed tells left (events_of handed) st k is))
