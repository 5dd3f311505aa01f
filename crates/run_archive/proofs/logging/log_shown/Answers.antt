-- What is shown is logged, where any metric is asked for.
use Rattle.run_archive.specs.Endings.{ending_after}
use Rattle.std.proofs.Common.{inr, ◌<◌, length, sym, ◌∙◌, arith, ap, subst}
use Rattle.std.proofs.lemmas.Bool.{eqb-false, eqb-true}
use Rattle.logging_session.specs.Keeping.{held_in}
use Rattle.logging_session.specs.Written.{Report}
use Rattle.script_runs.specs.declared.ending.Ending.{Ending}
use Rattle.run_archive.specs.Logging.{StopsOne}
use Rattle.run_archive.specs.Sampling.{MayRefuse}
use Rattle.run_archive.specs.Shown.{IsResult}
use Rattle.run_archive.proofs.AtMoment.{err_handed}
use Rattle.run_archive.proofs.Causes.{told_few, working_few, working_unclosed}
use Rattle.run_archive.proofs.Fetching.{shown_is_result}
use Rattle.run_archive.proofs.Logged.{not_placed, nothing_logged, result_logged, result_refused}
use Rattle.run_archive.proofs.logging.log_shown.Goals as goal

pub returns-then-is_empty-clause-logs : goal.returns-then-is_empty-clause-logs
returns-then-is_empty-clause-logs g c =
    let pmids = c.args.pmids.now in
    nothing_logged g.D.Disk c.args.server.now c.args.seat.now.tokens pmids c.args.now c.show.new.seat.tokens c.in_ok-fetched.fetched c.in_ok-fetched.ensures.shows c.args.session.now c.args.disk.now
    (eqb-true (length pmids) 0 (sym c.is_empty.ensures ∙ c.if-is_empty.true))

pub log-requires-clause-some : goal.log-requires-clause-some
log-requires-clause-some g c =
    let pmids = c.args.pmids.now in
    let some : 0 < length pmids = omega (arith, eqb-false (length pmids) 0 (sym c.is_empty.ensures ∙ c.if-is_empty.false)) in
    let shows = c.in_ok-fetched.ensures.shows in
    (shown_is_result c.args.server.now c.args.seat.now.tokens c.show.new.seat.tokens shows.values pmids c.args.now c.in_ok-fetched.fetched shows.is shows.read some).some

pub log-requires-clause-fits : goal.log-requires-clause-fits
log-requires-clause-fits g c =
    let pmids = c.args.pmids.now in
    let some : 0 < length pmids = omega (arith, eqb-false (length pmids) 0 (sym c.is_empty.ensures ∙ c.if-is_empty.false)) in
    let shows = c.in_ok-fetched.ensures.shows in
    (shown_is_result c.args.server.now c.args.seat.now.tokens c.show.new.seat.tokens shows.values pmids c.args.now c.in_ok-fetched.fetched shows.is shows.read some).fits

pub returns-in-Ok-clause-logs : goal.returns-in-Ok-clause-logs
returns-in-Ok-clause-logs g c =
    let pmids = c.args.pmids.now in
    let some : 0 < length pmids = omega (arith, eqb-false (length pmids) 0 (sym c.is_empty.ensures ∙ c.if-is_empty.false)) in
    let shows = c.in_ok-fetched.ensures.shows in
    let is : IsResult c.in_ok-fetched.fetched = shown_is_result c.args.server.now c.args.seat.now.tokens c.show.new.seat.tokens shows.values pmids c.args.now c.in_ok-fetched.fetched shows.is shows.read some in
    result_logged g.D.Disk c.args.server.now c.args.seat.now.tokens pmids c.args.now c.show.new.seat.tokens c.in_ok-fetched.fetched shows c.args.session.now c.args.disk.now c.log.new.self c.log.new.disk some
    c.make_place.new.session c.make_place.new.disk c.in_ok-make_place.ensures.keeps c.make_place.ensures.same.2 c.log.ensures.same.0 c.log.ensures.same.1 is.enough c.in-Ok.ensures.counted c.requires.few c.in-Ok.ensures.went

pub returns-in_err-make_place-clause-stops : goal.returns-in_err-make_place-clause-stops
returns-in_err-make_place-clause-stops g c =
    let d = g.D.Disk in
    let server = c.args.server.now in
    let before = c.args.seat.now.tokens in
    let after = c.show.new.seat.tokens in
    let pmids = c.args.pmids.now in
    let now = c.args.now in
    let was = c.args.session.now in
    let is = c.make_place.new.session in
    let old = c.args.disk.now in
    let new = c.make_place.new.disk in
    let some : 0 < length pmids = omega (arith, eqb-false (length pmids) 0 (sym c.is_empty.ensures ∙ c.if-is_empty.false)) in
    let shows = c.in_ok-fetched.ensures.shows in
    let f = c.in_ok-fetched.fetched in
    let e = c.in_err-make_place.field-0.0 in
    err_handed c.from_residual-in_err-make_place.result e (λ (e : Ending). StopsOne d server before pmids now was old is new after e) c.from_residual-in_err-make_place.ensures.1
    (inr (not_placed d server before pmids now after f shows was old is new some e c.in_err-make_place.ensures.kinds c.make_place.ensures.same.1 c.make_place.ensures.same.2 c.in_err-make_place.ensures.failed))

pub returns-in_err-make_place-clause-cause : goal.returns-in_err-make_place-clause-cause
returns-in_err-make_place-clause-cause g c =
    let d = g.D.Disk in
    let e = c.in_err-make_place.field-0.0 in
    let before = d.faults c.args.disk.now in
    let after = d.faults c.make_place.new.disk in
    err_handed c.from_residual-in_err-make_place.result e (MayRefuse before after) c.from_residual-in_err-make_place.ensures.1 (subst (λ (e : Ending). MayRefuse before after e) (sym c.in_err-make_place.ensures.kinds) c.in_err-make_place.ensures.cause)

pub returns-clause-stops : goal.returns-clause-stops
returns-clause-stops g c =
    let d = g.D.Disk in
    let pmids = c.args.pmids.now in
    let some : 0 < length pmids = omega (arith, eqb-false (length pmids) 0 (sym c.is_empty.ensures ∙ c.if-is_empty.false)) in
    let shows = c.in_ok-fetched.ensures.shows in
    let f = c.in_ok-fetched.fetched in
    let is : IsResult f = shown_is_result c.args.server.now c.args.seat.now.tokens c.show.new.seat.tokens shows.values pmids c.args.now f shows.is shows.read some in
    let r : Report = record { result = f.result; facts = f.facts } in
    let mid = c.make_place.new.session in
    let middle = c.make_place.new.disk in
    inr (result_refused d c.args.server.now c.args.seat.now.tokens pmids c.args.now c.show.new.seat.tokens f shows c.args.session.now c.args.disk.now c.log.new.self c.log.new.disk some
    mid middle c.in_ok-make_place.ensures.keeps c.make_place.ensures.same.2 c.log.ensures.same.0 c.log.ensures.same.1 is.enough c.in-Err.fault c.ending_after.result c.ending_after.ensures
    (working_unclosed r mid c.log.new.self (d.faults middle) (d.faults c.log.new.disk) c.in-Err.fault c.in_ok-make_place.ensures.working c.in-Err.ensures.cause) c.in-Err.ensures.uncounted c.in-Err.ensures.went)

pub returns-clause-still : goal.returns-clause-still
returns-clause-still g c = λ other. c.in-Err.ensures.still (λ is. other (c.ending_after.ensures ∙ ap ending_after is)) ∙ c.in_ok-make_place.ensures.quiet

pub returns-clause-lost : goal.returns-clause-lost
returns-clause-lost g c =
    let d = g.D.Disk in
    let f = c.in_ok-fetched.fetched in
    let r : Report = record { result = f.result; facts = f.facts } in
    told_few r c.make_place.new.session c.log.new.self (d.faults c.make_place.new.disk) (d.faults c.log.new.disk) c.in-Err.fault (held_in c.args.session.now.place) c.in_ok-make_place.ensures.working c.in-Err.ensures.cause

pub returns-in-Ok-clause-lost : goal.returns-in-Ok-clause-lost
returns-in-Ok-clause-lost g c = working_few c.log.new.self (held_in c.args.session.now.place) (inr c.in-Ok.ensures.open_.1)

pub returns-then-is_empty-clause-lost : goal.returns-then-is_empty-clause-lost
returns-then-is_empty-clause-lost g c = working_few c.args.session.now (held_in c.args.session.now.place) c.requires.working

pub returns-in_err-fetched-clause-lost : goal.returns-in_err-fetched-clause-lost
returns-in_err-fetched-clause-lost g c = working_few c.args.session.now (held_in c.args.session.now.place) c.requires.working
