-- The archive is opened, and handed the result.
use Rattle.std.proofs.Common.{◌≡◌, ◌≢◌, ◌⊎◌, ⊎_elim, ℕ, ◌+◌, ◌≤◌, Result, Ok, Err, sym, ap, ◌∙◌, subst, arith}
use Rattle.std.specs.Prelude.{IfErr, IsErrAnd, MatchResult, OnOk}
use Rattle.std.proofs.lemmas.Result.{err_from_is_err_and}
use Rattle.logger_core.specs.declared.fault.LogFault.{LogFault}
use Rattle.logger_core.specs.declared.fault.LogFault.TheVariants.{DiskFault}
use Rattle.logger_core.proofs.Keeping.{handed_on}
use Rattle.logging_session.specs.Answers.{CountsOn, LogFails, LogMayAnswer, MayTake, TakeFails, TakeMayAnswer}
use Rattle.logging_session.specs.Course.{HasKept, HasNotLogged, HasPassedHeld}
use Rattle.logging_session.specs.Events.{opening, with_report}
use Rattle.logging_session.specs.Keeping.{Carried, IsLabelled, IsLost, IsOpen, Keeps, held_in}
use Rattle.logging_session.specs.Written.{Report}
use Rattle.logging_session.proofs.Logging.{log_fails, open_fails, open_may, take_may, take_not_lost}
use Rattle.logging_session.proofs.Counting.{counted_from}
use Rattle.logging_session.proofs.Course.{kept_opened, not_opened, take_went, went_still}
use Rattle.logging_session.proofs.Passing.{open_passed}
use Rattle.logging_session.proofs.Placed.{open_unheld, take_unheld, taken_before}
use Rattle.logging_session.proofs.session.Session.log.Goals as goal

on_ok : {T E : Type 0} (r : Result T E) (P Q : Type 0) → (P → Q) → OnOk r P → OnOk r Q
on_ok (Ok v) P Q f p = f p
on_ok (Err e) P Q f p = tt

both_err : {T E : Type 0} (r : Result T E) (P Q R : E → Type 0) → ((e : E) → P e → Q e → R e) → IfErr r P → IfErr r Q → IfErr r R
both_err (Ok v) P Q R f p q = tt
both_err (Err e) P Q R f p q = f e p q

err_as : {T E : Type 0} (r : Result T E) (P R : E → Type 0) → ((e : E) → P e → R e) → IfErr r P → IfErr r R
err_as (Ok v) P R f p = tt
err_as (Err e) P R f p = f e p

-- what `?` hands on
at_err : {T : Type 0} (r : Result T LogFault) (e : LogFault) (P : T → Type 0) (Q : LogFault → Type 0) → IsErrAnd r (λ y. y ≡ e) → Q e → MatchResult r P Q
at_err r e P Q was q = let p = err_from_is_err_and r was in subst (λ x. MatchResult x P Q) (sym p.1) (subst Q (sym p.2) q)

pub returns-in_err-open_for-clause-fault : goal.returns-in_err-open_for-clause-fault
returns-in_err-open_for-clause-fault g c = λ tells enough left events k.
    let d = g.D.Disk in
    let r : Report = record { result = c.args.answer.now; facts = c.args.facts.now } in
    let e = c.in_err-open_for.field-0.0 in
    handed_on c.from_residual.result e (λ f. LogFails left events r c.args.self.now c.open_for.new.self (d.held c.open_for.new.disk) f) c.from_residual.ensures.1
    (open_fails left events r c.args.self.now c.open_for.new.self (d.held c.open_for.new.disk) (d.faults c.args.disk.now) (d.faults c.open_for.new.disk) e c.in_err-open_for.ensures.cause (c.in_err-open_for.ensures.refused tells left events k))

pub returns-in_err-open_for-clause-cause : goal.returns-in_err-open_for-clause-cause
returns-in_err-open_for-clause-cause g c =
    let r : Report = record { result = c.args.answer.now; facts = c.args.facts.now } in
    let d = g.D.Disk in
    let e = c.in_err-open_for.field-0.0 in
    let before = d.faults c.args.disk.now in
    let after = d.faults c.open_for.new.disk in
    handed_on c.from_residual.result e (λ f. LogMayAnswer r c.args.self.now c.open_for.new.self before after f) c.from_residual.ensures.1
    (open_may r c.args.self.now c.open_for.new.self before after e c.in_err-open_for.ensures.cause)

pub returns-in_err-open_for-clause-untouched : goal.returns-in_err-open_for-clause-untouched
returns-in_err-open_for-clause-untouched g c =
    let e = c.in_err-open_for.field-0.0 in
    handed_on c.from_residual.result e (λ f. f ≢ DiskFault → (IsOpen c.args.self.now ⊎ IsLost c.open_for.new.self ⊎ IsLabelled c.args.self.now) → c.open_for.new.disk ≡ c.args.disk.now) c.from_residual.ensures.1
    (λ other h. c.in_err-open_for.ensures.untouched other)

pub returns-clause-loggable : goal.returns-clause-loggable
returns-clause-loggable g c =
    let r : Report = record { result = c.args.answer.now; facts = c.args.facts.now } in
    let old = c.args.self.now in
    let middle = c.open_for.new.self in
    on_ok c.take.result (MayTake middle.place r) (MayTake old.place r) (taken_before old.place middle.place r (λ was. ap (λ (t : Carried). t.place) (c.open_for.ensures.stays was).1)) c.take.ensures.loggable

pub returns-in_err-open_for-clause-went : goal.returns-in_err-open_for-clause-went
returns-in_err-open_for-clause-went g c = λ tells enough left events start h.
    let d = g.D.Disk in
    let r : Report = record { result = c.args.answer.now; facts = c.args.facts.now } in
    let old = c.args.self.now in
    let new = c.open_for.new.self in
    let first = c.args.disk.now in
    let last = c.open_for.new.disk in
    let e = c.in_err-open_for.field-0.0 in
    at_err c.from_residual.result e (λ _. HasKept d left (with_report events r) start new last) (λ f. HasNotLogged d left events r start old new last f) c.from_residual.ensures.1
    (not_opened d left g.met.D.Disk.only_now start first last old new c.open_for.ensures.same.0 c.open_for.ensures.same.1 events r h (c.open_for.ensures.any_moment tells left events h.keeps)
    (d.faults first) (d.faults last) e c.in_err-open_for.ensures.cause (c.in_err-open_for.ensures.refused tells left events h.keeps))

pub returns-in_err-open_for-clause-passed : goal.returns-in_err-open_for-clause-passed
returns-in_err-open_for-clause-passed g c = λ tells left events start h.
    let d = g.D.Disk in
    let old = c.args.self.now in
    let new = c.open_for.new.self in
    let first = c.args.disk.now in
    let last = c.open_for.new.disk in
    let e = c.in_err-open_for.field-0.0 in
    handed_on c.from_residual.result e (λ f. f ≡ DiskFault → HasPassedHeld d left events start new last) c.from_residual.ensures.1
    (λ is. open_passed d left events start first last old new c.open_for.ensures.same.0 c.open_for.ensures.same.1 h (d.faults first) (d.faults last) e is c.in_err-open_for.ensures.cause
    (went_still d left old.label old.limit events start first last h.went (c.open_for.ensures.any_moment tells left events h.keeps)))

pub returns-clause-untouched : goal.returns-clause-untouched
returns-clause-untouched g c =
    let r : Report = record { result = c.args.answer.now; facts = c.args.facts.now } in
    let old = c.args.self.now in
    let middle = c.open_for.new.self in
    let new = c.take.new.self in
    let first = c.args.disk.now in
    let mid = c.open_for.new.disk in
    err_as c.take.result (λ (e : LogFault). TakeMayAnswer r middle new e) (λ (e : LogFault). e ≢ DiskFault → (IsOpen old ⊎ IsLost new ⊎ IsLabelled old) → mid ≡ first)
    (λ e may other h. ⊎_elim (λ (was : IsOpen old). (c.open_for.ensures.stays was).2)
    (λ (rest : IsLost new ⊎ IsLabelled old). ⊎_elim (λ (lost : IsLost new). take_not_lost r middle new e c.in_ok-open_for.ensures.open_.1 may lost)
    (λ (labelled : IsLabelled old). c.open_for.ensures.labelled labelled) rest) h)
    c.take.ensures.cause

pub returns-clause-counts : goal.returns-clause-counts
returns-clause-counts g c = λ tells left events k.
    let r : Report = record { result = c.args.answer.now; facts = c.args.facts.now } in
    let old = c.args.self.now in
    let middle = c.open_for.new.self in
    let new = c.take.new.self in
    on_ok c.take.result (CountsOn r middle.place new.place) (CountsOn r old.place new.place)
    (counted_from old.place middle.place new.place r (λ was. ap (λ (t : Carried). t.place) (c.open_for.ensures.stays was).1) c.in_ok-open_for.ensures.open_.1 (λ found. c.in_ok-open_for.ensures.counts found tells left events k))
    c.take.ensures.counts

pub returns-clause-done : goal.returns-clause-done
returns-clause-done g c = λ tells enough left events k. c.take.ensures.done enough left (opening c.args.answer.now.stamp events) (g.D.Disk.held c.open_for.new.disk) (c.in_ok-open_for.ensures.done tells left events k)

pub returns-clause-fault : goal.returns-clause-fault
returns-clause-fault g c = λ tells enough left events k.
    let d = g.D.Disk in
    let r : Report = record { result = c.args.answer.now; facts = c.args.facts.now } in
    let middle = c.open_for.new.self in
    let new = c.take.new.self in
    let between = d.held c.open_for.new.disk in
    let es = opening r.result.stamp events in
    let opened : Keeps left es middle between = c.in_ok-open_for.ensures.done tells left events k in
    both_err c.take.result (λ (e : LogFault). TakeMayAnswer r middle new e) (λ (e : LogFault). TakeFails opened.stand middle.limit r e) (λ (e : LogFault). LogFails left events r c.args.self.now new between e)
    (λ e may fails. log_fails left events r middle new between opened c.in_ok-open_for.ensures.open_.1 c.args.self.now e may fails)
    c.take.ensures.cause (c.take.ensures.fault enough left es between opened)

pub returns-clause-cause : goal.returns-clause-cause
returns-clause-cause g c =
    let r : Report = record { result = c.args.answer.now; facts = c.args.facts.now } in
    let d = g.D.Disk in
    let middle = c.open_for.new.self in
    let start = d.faults c.args.disk.now in
    let after = d.faults c.open_for.new.disk in
    let o = c.in_ok-open_for.ensures.open_ in
    err_as c.take.result (λ (e : LogFault). TakeMayAnswer r middle c.take.new.self e) (λ (e : LogFault). LogMayAnswer r c.args.self.now c.take.new.self start after e)
    (λ e may. take_may r c.args.self.now middle c.take.new.self start after e o.0 o.1 (λ was. (c.open_for.ensures.stays was).1) may) c.take.ensures.cause

pub returns-clause-went : goal.returns-clause-went
returns-clause-went g c = λ tells enough left events start h.
    let d = g.D.Disk in
    let r : Report = record { result = c.args.answer.now; facts = c.args.facts.now } in
    let old = c.args.self.now in
    let middle = c.open_for.new.self in
    let mid = c.open_for.new.disk in
    let es = opening r.result.stamp events in
    let opened : Keeps left es middle (d.held mid) = c.in_ok-open_for.ensures.done tells left events h.keeps in
    let now : HasKept d left es start middle mid = kept_opened d left g.met.D.Disk.only_now start c.args.disk.now mid old middle c.open_for.ensures.same.0 c.open_for.ensures.same.1 r.result.stamp events h (c.open_for.ensures.any_moment tells left events h.keeps) opened (λ was. let still = c.open_for.ensures.stays was in (still.1, still.2)) in
    take_went d left g.met.D.Disk.only_now events r start mid old middle c.take.new.self opened c.in_ok-open_for.ensures.open_.1 c.open_for.ensures.same.0 c.open_for.ensures.same.1 now.went now.held
    c.take.result c.take.ensures.same.0 c.take.ensures.same.1 (c.take.ensures.done enough left es (d.held mid) opened) c.take.ensures.holds c.take.ensures.cause (c.take.ensures.fault enough left es (d.held mid) opened)

pub returns-clause-unwritten : goal.returns-clause-unwritten
returns-clause-unwritten g c = λ was. (c.open_for.ensures.stays was).2

pub take-requires-clause-room : goal.take-requires-clause-room
take-requires-clause-room g c = omega (arith, c.in_ok-open_for.ensures.held, c.requires.room)

pub returns-clause-holds : goal.returns-clause-holds
returns-clause-holds g c =
    let old = c.args.self.now in
    let middle = c.open_for.new.self in
    let new = c.take.new.self in
    on_ok c.take.result (held_in new.place ≡ held_in middle.place + 1) (held_in new.place ≡ held_in old.place + 1) (λ more. more ∙ ap (λ (n : ℕ). n + 1) c.in_ok-open_for.ensures.held) c.take.ensures.holds

pub returns-in_err-open_for-clause-unheld : goal.returns-in_err-open_for-clause-unheld
returns-in_err-open_for-clause-unheld g c =
    let d = g.D.Disk in
    let old = c.args.self.now in
    let new = c.open_for.new.self in
    let e = c.in_err-open_for.field-0.0 in
    handed_on c.from_residual.result e (λ f. held_in new.place ≤ held_in old.place) c.from_residual.ensures.1 (open_unheld old new (d.faults c.args.disk.now) (d.faults c.open_for.new.disk) e c.in_err-open_for.ensures.cause)

pub returns-clause-unheld : goal.returns-clause-unheld
returns-clause-unheld g c =
    let r : Report = record { result = c.args.answer.now; facts = c.args.facts.now } in
    let old = c.args.self.now in
    let middle = c.open_for.new.self in
    let new = c.take.new.self in
    err_as c.take.result (λ (e : LogFault). TakeMayAnswer r middle new e) (λ (e : LogFault). held_in new.place ≤ held_in old.place) (λ e may. take_unheld r middle new e (held_in old.place) c.in_ok-open_for.ensures.held may) c.take.ensures.cause
