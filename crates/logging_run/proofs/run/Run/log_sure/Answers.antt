-- A result is logged, and made sure.
use Rattle.std.proofs.Common.{◌≡◌, ◌≢◌, inr, ◌++◌, ◌∷◌, [], Result, Ok, Err, sym, ◌∙◌, subst, arith}
use Rattle.std.specs.Prelude.{IfErr, OnErr, OnOk}
use Rattle.logging_session.specs.Keeping.{IsFailed}
use Rattle.logging_session.specs.Written.{Report}
use Rattle.pcp_model.specs.Disk.{IsSettled}
use Rattle.pcp_outside.specs.Causes.{Rose}
use Rattle.logging_run.specs.declared.fault.RunFault.{RunFault}
use Rattle.logging_run.specs.declared.fault.RunFault.TheVariants as faults
use Rattle.logging_run.specs.Handing.{Handed}
use Rattle.logging_run.specs.Refusals.{MayRefuse}
use Rattle.logging_run.specs.Running.{Fails, IsAllSure, Runs, Stops}
use Rattle.logging_run.proofs.Places.{rose_later}
use Rattle.logging_run.proofs.Standing.{all_sure, handed_on}
use Rattle.logging_run.proofs.run.Run.log_sure.Goals as goal

on_both : {T E : Type 0} (r : Result T E) (P Q R : Type 0) → (P → Q → R) → OnOk r P → OnOk r Q → OnOk r R
on_both (Ok v) P Q R f p q = f p q
on_both (Err e) P Q R f p q = tt

on_ok : {T E : Type 0} (r : Result T E) (P : Type 0) → P → OnOk r P
on_ok (Ok v) P p = p
on_ok (Err e) P p = tt

on_err : {T E : Type 0} (r : Result T E) (P : Type 0) → P → OnErr r P
on_err (Ok v) P p = tt
on_err (Err e) P p = p

-- it is refused by the disk alone
by_disk : {T : Type 0} (r : Result T RunFault) (F : Type 0) (P : RunFault → Type 0) → IfErr r (λ e. e ≡ faults.DiskFault) → OnErr r F → (F → P faults.DiskFault) → IfErr r P
by_disk (Ok v) F P kinds failed f = tt
by_disk (Err e) F P kinds failed f = subst P (sym kinds) (f failed)

by_no_other : {T : Type 0} (r : Result T RunFault) (A : Type 0) → IfErr r (λ e. e ≡ faults.DiskFault) → IfErr r (λ e. e ≢ faults.DiskFault → A)
by_no_other (Ok v) A kinds = tt
by_no_other (Err e) A kinds = λ other. absurd (other kinds)

pub returns-clause-done : goal.returns-clause-done
returns-clause-done g c = λ enough limit handed start runs.
    let r : Report = record { result = c.args.answer.now; facts = c.args.facts.now } in
    c.make_sure.ensures.done limit handed r start (c.in_ok-log_held.ensures.done enough limit handed start runs)

pub returns-clause-sure : goal.returns-clause-sure
returns-clause-sure g c = λ tells enough limit handed start runs.
    let d = g.D.Disk in
    let r : Report = record { result = c.args.answer.now; facts = c.args.facts.now } in
    let held = c.in_ok-log_held.ensures.done enough limit handed start runs in
    on_both c.make_sure.result (Runs d limit (handed ++ Handed.sure r ∷ []) c.make_sure.new.self start c.make_sure.new.disk) (IsSettled (d.held c.make_sure.new.disk)) (IsAllSure d (handed ++ Handed.sure r ∷ []) start c.make_sure.new.disk)
    (λ now settled. all_sure d g.met.D.Disk.only_now limit start g.met.D.Disk.counts_now handed r c.make_sure.new.self c.make_sure.new.disk tells now.rests settled)
    (c.make_sure.ensures.done limit handed r start held) (c.make_sure.ensures.settled tells limit (handed ++ Handed.held r ∷ []) start held)

pub returns-clause-stops : goal.returns-clause-stops
returns-clause-stops g c = λ enough limit handed start runs.
    let d = g.D.Disk in
    let r : Report = record { result = c.args.answer.now; facts = c.args.facts.now } in
    let held = c.in_ok-log_held.ensures.done enough limit handed start runs in
    by_disk c.make_sure.result (Fails d limit (handed ++ Handed.held r ∷ []) c.make_sure.new.self start c.make_sure.new.disk) (λ e. Stops d limit handed r c.make_sure.new.self start c.make_sure.new.disk e) c.make_sure.ensures.kinds
    (c.make_sure.ensures.failed limit (handed ++ Handed.held r ∷ []) start held) (λ f. inr f)

pub returns-clause-counted : goal.returns-clause-counted
returns-clause-counted g c = on_ok c.make_sure.result _ (c.make_sure.ensures.same ∙ c.in_ok-log_held.ensures.counted)

pub returns-clause-held : goal.returns-clause-held
returns-clause-held g c = on_ok c.make_sure.result _ c.make_sure.ensures.held

pub returns-clause-unheld : goal.returns-clause-unheld
returns-clause-unheld g c = on_err c.make_sure.result _ (omega (arith, c.make_sure.ensures.held))

pub returns-clause-lost : goal.returns-clause-lost
returns-clause-lost g c = omega (arith, c.make_sure.ensures.lost, c.log_held.ensures.held)

pub returns-clause-cause : goal.returns-clause-cause
returns-clause-cause g c =
    let d = g.D.Disk in
    let r : Report = record { result = c.args.answer.now; facts = c.args.facts.now } in
    let before = d.faults c.args.disk.now in
    let mid = d.faults c.log_held.new.disk in
    let after = d.faults c.make_sure.new.disk in
    by_disk c.make_sure.result (Rose mid after) (λ e. MayRefuse r c.make_sure.new.self before after e) c.make_sure.ensures.kinds c.make_sure.ensures.cause (λ rose. rose_later before mid after c.log_held.ensures.later rose)

pub returns-clause-unfailed : goal.returns-clause-unfailed
returns-clause-unfailed g c = by_no_other c.make_sure.result (IsFailed c.make_sure.new.self → ⊥) c.make_sure.ensures.kinds

pub returns-clause-still : goal.returns-clause-still
returns-clause-still g c = by_no_other c.make_sure.result _ c.make_sure.ensures.kinds

pub returns-clause-quiet : goal.returns-clause-quiet
returns-clause-quiet g c = on_both c.make_sure.result _ Unit _ (λ quiet u. quiet ∙ c.in_ok-log_held.ensures.quiet) c.make_sure.ensures.quiet (on_ok c.make_sure.result Unit tt)

pub returns-in_err-log_held-clause-lost : goal.returns-in_err-log_held-clause-lost
returns-in_err-log_held-clause-lost g c = omega (arith, c.log_held.ensures.lost)

pub returns-in_err-log_held-clause-stops : goal.returns-in_err-log_held-clause-stops
returns-in_err-log_held-clause-stops g c = λ enough limit handed start runs.
    let d = g.D.Disk in
    let r : Report = record { result = c.args.answer.now; facts = c.args.facts.now } in
    let e = c.in_err-log_held.field-0.0 in
    handed_on c.from_residual.result e (λ f. Stops d limit handed r c.log_held.new.self start c.log_held.new.disk f) c.from_residual.ensures.1 (c.in_err-log_held.ensures.stops enough limit handed start runs)

pub returns-in_err-log_held-clause-cause : goal.returns-in_err-log_held-clause-cause
returns-in_err-log_held-clause-cause g c =
    let d = g.D.Disk in
    let r : Report = record { result = c.args.answer.now; facts = c.args.facts.now } in
    let e = c.in_err-log_held.field-0.0 in
    handed_on c.from_residual.result e (λ f. MayRefuse r c.log_held.new.self (d.faults c.args.disk.now) (d.faults c.log_held.new.disk) f) c.from_residual.ensures.1 c.in_err-log_held.ensures.cause

pub returns-in_err-log_held-clause-unfailed : goal.returns-in_err-log_held-clause-unfailed
returns-in_err-log_held-clause-unfailed g c =
    let e = c.in_err-log_held.field-0.0 in
    handed_on c.from_residual.result e (λ f. f ≢ faults.DiskFault → IsFailed c.log_held.new.self → ⊥) c.from_residual.ensures.1 c.in_err-log_held.ensures.unfailed

pub returns-in_err-log_held-clause-still : goal.returns-in_err-log_held-clause-still
returns-in_err-log_held-clause-still g c =
    let d = g.D.Disk in
    let e = c.in_err-log_held.field-0.0 in
    handed_on c.from_residual.result e (λ f. f ≢ faults.DiskFault → d.faults c.log_held.new.disk ≡ d.faults c.args.disk.now) c.from_residual.ensures.1 c.in_err-log_held.ensures.still
