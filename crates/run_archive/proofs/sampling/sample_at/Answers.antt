-- At a moment a sample is taken, and logged.
use Rattle.std.proofs.Common.{◌≡◌, ℕ, List, length, Some, refl, sym, ap, ◌∙◌}
use Rattle.script_runs.specs.declared.ending.Ending.{Ending}
use Rattle.script_runs.specs.Groups.{Plan, asked_for}
use Rattle.script_runs.specs.Steps.{plans_at}
use Rattle.run_archive.specs.declared.sampler.Sampler.{Sampler}
use Rattle.run_archive.specs.Sampling.{StopsAt}
use Rattle.run_archive.proofs.AtMoment.{err_handed, starts_by, stops, takes, wants}
use Rattle.run_archive.proofs.Loading.{all_loaded, not_loaded}
use Rattle.run_archive.proofs.sampling.sample_at.Goals as goal

pub returns-in_default-clause-loads : goal.returns-in_default-clause-loads
returns-in_default-clause-loads g c = not_loaded c.args.seat.now.tokens

pub returns-in_default-clause-stops : goal.returns-in_default-clause-stops
returns-in_default-clause-stops g c =
    let was : Sampler = c.args.sampler.now in
    let seat = c.args.seat.now.tokens in
    wants g.D.Disk c.args.script.now.config.groups c.args.server.now was seat c.args.disk.now c.args.now (record was { plans = c.replace-plans.new.dest }) seat (not_loaded seat) refl

pub returns-in_err-log_shown-clause-loads : goal.returns-in_err-log_shown-clause-loads
returns-in_err-log_shown-clause-loads g c = all_loaded c.args.seat.now.tokens c.ask.new.seat.tokens c.log_shown.new.seat.tokens c.ask.ensures.loads c.log_shown.ensures.loads

pub returns-clause-loads : goal.returns-clause-loads
returns-clause-loads g c = all_loaded c.args.seat.now.tokens c.ask.new.seat.tokens c.log_shown.new.seat.tokens c.ask.ensures.loads c.log_shown.ensures.loads

pub returns-in_err-log_shown-clause-stops : goal.returns-in_err-log_shown-clause-stops
returns-in_err-log_shown-clause-stops g c =
    let d = g.D.Disk in
    let groups = c.args.script.now.config.groups in
    let server = c.args.server.now in
    let now = c.args.now in
    let was : Sampler = c.args.sampler.now in
    let is : Sampler = record { session = c.log_shown.new.session; plans = c.replace-plans.new.dest } in
    let before = c.args.seat.now.tokens in
    let middle = c.ask.new.seat.tokens in
    let after = c.log_shown.new.seat.tokens in
    let old = c.args.disk.now in
    let new = c.log_shown.new.disk in
    let first : List Plan = c.in-Ok.plans in
    let asked : List Plan = c.ask.new.plans in
    let pmids : List ℕ = c.as_slice.result.now in
    let starts : first ≡ plans_at groups was.plans now = starts_by d groups c.args.server.now was c.args.seat.now.tokens c.args.disk.now now c.replace-plans.result first c.replace-plans.ensures.value c.in-Ok.ensures in
    let asks = c.in-Ok-ask.ensures.asks in
    let are : pmids ≡ asked_for now asked = c.as_slice.ensures ∙ asks.3 in
    let loaded = all_loaded before middle after c.ask.ensures.loads c.log_shown.ensures.loads in
    err_handed c.from_residual.result c.in_err-log_shown.field-0.0 (λ (e : Ending). StopsAt d groups server was is before after old new now e) c.from_residual.ensures.1
    (stops d groups server was before old now asks.0 middle asks.1 first asked pmids starts asks.2 are is after new c.in_err-log_shown.field-0.0 loaded c.in_err-log_shown.ensures.stops)

pub returns-clause-goes : goal.returns-clause-goes
returns-clause-goes g c =
    let d = g.D.Disk in
    let groups = c.args.script.now.config.groups in
    let now = c.args.now in
    let was : Sampler = c.args.sampler.now in
    let later : List Plan = c.passed.new.self in
    let is : Sampler = record { session = c.log_shown.new.session; plans = Some later } in
    let first : List Plan = c.in-Ok.plans in
    let asked : List Plan = c.ask.new.plans in
    let pmids : List ℕ = c.as_slice.result.now in
    let starts : first ≡ plans_at groups was.plans now = starts_by d groups c.args.server.now was c.args.seat.now.tokens c.args.disk.now now c.replace-plans.result first c.replace-plans.ensures.value c.in-Ok.ensures in
    let asks = c.in-Ok-ask.ensures.asks in
    let are : pmids ≡ asked_for now asked = c.as_slice.ensures ∙ asks.3 in
    takes d groups c.args.server.now was c.args.seat.now.tokens c.args.disk.now now asks.0 c.ask.new.seat.tokens asks.1 first asked pmids starts asks.2 are is c.log_shown.new.seat.tokens c.log_shown.new.disk later c.len.result
    c.passed.ensures refl (c.len.ensures ∙ ap length (sym c.as_slice.ensures)) c.in_ok-log_shown.ensures.logs
