use Rattle.std.proofs.Common.{◌≡◌, ℕ, ◌<◌, Some, sym, ap, ◌∙◌, subst}
use Rattle.std.proofs.lemmas.Option.{slice_get_within}
use Rattle.run_script.specs.Recording.{place_of}
use Rattle.run_passes.proofs.WriterPlaces.{ready_at}
use Rattle.run_passes.proofs.Stepped.{region_there, step_away, step_present, step_run, step_writers}
use Rattle.run_passes.proofs.hand.run_step.Goals as goal

pub position_in-at-requires : goal.position_in-at-requires
position_in-at-requires g c =
    let named : place_of c.args.line.now ≡ Some (c.in-Some.region, c.args.number) = sym c.in-Some.ensures ∙ ap (λ (n : ℕ). Some (c.in-Some.region, n)) c.if-pass-number.false in
    subst (λ (n : ℕ). c.in-Some.region < n) (sym c.requires.places.as_many) (region_there c.args.script.now c.args.line.now c.in-Some.region c.args.number c.requires.line.0 named)

pub run_at-requires-clause-there : goal.run_at-requires-clause-there
run_at-requires-clause-there g c =
    let place = c.requires.places.each c.in-Some.region c.position_in-at.result c.position_in-at.ensures in
    slice_get_within c.args.server.now c.position_in-at.result place.mounted place.there

pub run_at-requires-clause-ready : goal.run_at-requires-clause-ready
run_at-requires-clause-ready g c =
    let named : place_of c.args.line.now ≡ Some (c.in-Some.region, c.args.number) = sym c.in-Some.ensures ∙ ap (λ (n : ℕ). Some (c.in-Some.region, n)) c.if-pass-number.false in
    ready_at c.args.script.now c.args.server.now c.requires.serves.0 c.requires.rules c.requires.serves.1 c.args.number c.in-Some.region c.position_in-at.result (c.requires.places.each c.in-Some.region c.position_in-at.result c.position_in-at.ensures) c.args.line.now named c.args.writers.now.items c.requires.writers c.requires.present c.requires.line.0 c.requires.line.1 c.requires.comes

pub returns-clause-writers : goal.returns-clause-writers
returns-clause-writers g c =
    let named : place_of c.args.line.now ≡ Some (c.in-Some.region, c.args.number) = sym c.in-Some.ensures ∙ ap (λ (n : ℕ). Some (c.in-Some.region, n)) c.if-pass-number.false in
    step_writers c.args.script.now c.args.server.now c.requires.serves.0 c.requires.rules c.requires.serves.1 c.args.number c.in-Some.region c.position_in-at.result (c.requires.places.each c.in-Some.region c.position_in-at.result c.position_in-at.ensures) c.args.line.now named c.args.writers.now.items c.run_at.new.writers.items c.requires.writers c.requires.present c.requires.line.0 c.run_at.result c.run_at.ensures

pub returns-clause-present : goal.returns-clause-present
returns-clause-present g c =
    let named : place_of c.args.line.now ≡ Some (c.in-Some.region, c.args.number) = sym c.in-Some.ensures ∙ ap (λ (n : ℕ). Some (c.in-Some.region, n)) c.if-pass-number.false in
    step_present c.args.script.now c.args.server.now c.requires.serves.0 c.requires.rules c.requires.serves.1 c.args.number c.in-Some.region c.position_in-at.result (c.requires.places.each c.in-Some.region c.position_in-at.result c.position_in-at.ensures) c.args.line.now named c.args.writers.now.items c.run_at.new.writers.items c.requires.writers c.requires.present c.requires.line.0 c.run_at.result c.run_at.ensures

pub returns-clause-away : goal.returns-clause-away
returns-clause-away g c =
    let named : place_of c.args.line.now ≡ Some (c.in-Some.region, c.args.number) = sym c.in-Some.ensures ∙ ap (λ (n : ℕ). Some (c.in-Some.region, n)) c.if-pass-number.false in
    step_away c.args.script.now c.args.server.now c.requires.serves.0 c.requires.rules c.requires.serves.1 c.args.number c.in-Some.region c.position_in-at.result (c.requires.places.each c.in-Some.region c.position_in-at.result c.position_in-at.ensures) c.args.line.now named c.args.writers.now.items c.run_at.new.writers.items c.requires.writers c.requires.present c.requires.line.0 c.run_at.result c.run_at.ensures

pub returns-clause-run : goal.returns-clause-run
returns-clause-run g c =
    let named : place_of c.args.line.now ≡ Some (c.in-Some.region, c.args.number) = sym c.in-Some.ensures ∙ ap (λ (n : ℕ). Some (c.in-Some.region, n)) c.if-pass-number.false in
    step_run c.args.script.now c.args.server.now c.requires.serves.0 c.requires.rules c.requires.serves.1 c.args.number c.in-Some.region c.position_in-at.result (c.requires.places.each c.in-Some.region c.position_in-at.result c.position_in-at.ensures) c.args.line.now named c.args.writers.now.items c.run_at.new.writers.items c.requires.writers c.requires.present c.requires.line.0 c.run_at.result c.run_at.ensures
