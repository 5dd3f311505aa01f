-- What is opened is what recovery left, or a new archive.
use Rattle.std.proofs.Common.{◌≡◌, inl, inr, [], None, Result, Ok, Err, ap}
use Rattle.std.specs.Prelude.{IfErr}
use Rattle.std.proofs.lemmas.Result.{IfOk-weaker}
use Rattle.pcp_model.specs.Disk.{contents_of}
use Rattle.pcp_outside.proofs.Crash.{weaker}
use Rattle.logger_core.specs.Created.{HasNoItem, IsCreated}
use Rattle.logger_core.specs.declared.fault.LogFault.{LogFault}
use Rattle.logger_core.specs.declared.fault.LogFault.TheVariants.{NoMemory}
use Rattle.logger_core.specs.Going.{AreSmall}
use Rattle.logger_core.specs.Reopening.{IsReopened, SameFiles, ends_of}
use Rattle.logging_session.specs.Written.{starting}
use Rattle.logging_session.specs.ComingBack.{ComesBackTo}
use Rattle.logging_session.specs.Opening.{IsOpened, MayWantMemory}
use Rattle.logging_session.proofs.Openings.{created_opens, creating_comes, none_is, nothing_left, reopened_opens, standing_comes}
use Rattle.logging_session.proofs.opening.open.Goals as goal

every_err : {T E : Type 0} (r : Result T E) (Q : E → Type 0) → ((e : E) → Q e) → IfErr r Q
every_err (Ok v) Q each = tt
every_err (Err e) Q each = each e

err_weaker : {T E : Type 0} (r : Result T E) (P Q : E → Type 0) → ((e : E) → P e → Q e) → IfErr r P → IfErr r Q
err_weaker (Ok v) P Q f p = tt
err_weaker (Err e) P Q f p = f e p

pub returns-then-is_none-clause-opened :
    goal.returns-then-is_none-clause-opened
returns-then-is_none-clause-opened g c = λ tells left.
    let d = g.D.Disk in
    let a = c.args.archive in
    let l = starting c.args.label.now c.args.stamp in
    let n = c.args.limit in
    let old = d.held c.args.disk.now in
    let new = d.held c.create.new.disk in
    let none : a.label ≡ None = none_is a.label c.is_none.result c.is_none.ensures c.if-is_none.true in
    IfOk-weaker c.create.result (λ k. IsCreated l n k new) (λ k. IsOpened l (contents_of old) k new) (λ k is. created_opens l n a old new k none left is) (c.create.ensures.opened tells (nothing_left a old none left))

pub returns-then-is_none-clause-any_moment :
    goal.returns-then-is_none-clause-any_moment
returns-then-is_none-clause-any_moment g c = λ tells left.
    let d = g.D.Disk in
    let a = c.args.archive in
    let old = d.held c.args.disk.now in
    let none : a.label ≡ None = none_is a.label c.is_none.result c.is_none.ensures c.if-is_none.true in
    weaker d.moment d.left_since d.held c.args.disk.now c.create.new.disk HasNoItem (ComesBackTo [] 0 (contents_of old)) (c.create.ensures.any_moment tells (nothing_left a old none left)) (creating_comes a old none left [])

pub returns-clause-opened : goal.returns-clause-opened
returns-clause-opened g c = λ tells left.
    let d = g.D.Disk in
    let a = c.args.archive in
    let l = starting c.args.label.now c.args.stamp in
    let n = c.args.limit in
    let old = d.held c.args.disk.now in
    let new = d.held c.reopen.new.disk in
    IfOk-weaker c.reopen.result (λ k. IsReopened n k new) (λ k. IsOpened l (contents_of old) k new) (λ k is. reopened_opens l n a old new k (ap d.held c.reopen.ensures.untouched) left is) (c.reopen.ensures.reopened tells left)

pub returns-clause-any_moment : goal.returns-clause-any_moment
returns-clause-any_moment g c = λ tells left.
    let d = g.D.Disk in
    let old = d.held c.args.disk.now in
    weaker d.moment d.left_since d.held c.args.disk.now c.reopen.new.disk (SameFiles old) (ComesBackTo [] 0 (contents_of old)) (c.reopen.ensures.any_moment tells left) (standing_comes old [])

pub returns-then-is_none-clause-cause : goal.returns-then-is_none-clause-cause
returns-then-is_none-clause-cause g c =
    let a = c.args.archive in
    let none : a.label ≡ None = none_is a.label c.is_none.result c.is_none.ensures c.if-is_none.true in
    every_err c.create.result (λ (e : LogFault). e ≡ NoMemory → MayWantMemory a) (λ e is. inl none)

pub returns-clause-cause : goal.returns-clause-cause
returns-clause-cause g c =
    let a = c.args.archive in
    err_weaker c.reopen.result (λ (e : LogFault). (e ≡ NoMemory) × (AreSmall (ends_of a) → ⊥)) (λ (e : LogFault). e ≡ NoMemory → MayWantMemory a) (λ e why is. inr why.1) c.reopen.ensures.fault

pub returns-then-is_none-clause-labelled : goal.returns-then-is_none-clause-labelled
returns-then-is_none-clause-labelled g c = λ labelled. absurd (labelled (none_is c.args.archive.label c.is_none.result c.is_none.ensures c.if-is_none.true))
