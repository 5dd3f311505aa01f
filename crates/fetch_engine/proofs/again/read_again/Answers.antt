-- The words are those of the generation still, with the values that were read again.
use Rattle.std.proofs.Common.{rules, ◌≡◌, ℕ, Err, List, Result, length, ap, subst, sym, ◌∙◌}
use Rattle.std.specs.Prelude.{IfErr}
use Rattle.region_rule.specs.declared.fault.ValueFault.{ValueFault}
use Rattle.fetch_engine.specs.Kept.{IsKeptBy, ReadsAgainBy, ValuesFail}
use Rattle.fetch_engine.proofs.Holding.{IsFresh, fail_kept, freshened, indexes_below, indexes_inside, values_fail}
use Rattle.fetch_engine.proofs.Keeping.{refilled, wrote}
use Rattle.fetch_engine.proofs.Staying.{told_stays}
use Rattle.fetch_engine.proofs.again.read_again.Goals as goal

pub read_values-requires-clause-below : goal.read_values-requires-clause-below
read_values-requires-clause-below c =
    let kept : IsKeptBy c.args.pass.now c.told.inside.words.items = search rules in
    indexes_below c.args.pass.now c.args.region.now c.told.inside.words.items c.deref.result.now c.requires.here kept c.told.invariant.image (c.deref.ensures.value ∙ c.told.invariant.indexes_are)

pub returns-in_err-read_values-clause-kept : goal.returns-in_err-read_values-clause-kept
returns-in_err-read_values-clause-kept c =
    let kept : IsKeptBy c.args.pass.now c.told.inside.words.items = search rules in
    fail_kept c.args.pass.now c.read_values.new.pass c.told.inside.words.items c.told.inside.generation c.deref.result.now c.in_err-read_values.field-0.0 kept c.in_err-read_values.ensures.reads
    c.in_err-read_values.ensures.stays

pub returns-in_err-read_values-clause-fails : goal.returns-in_err-read_values-clause-fails
returns-in_err-read_values-clause-fails c =
    let told : c.told.inside.words.items ≡ c.args.told.now = search rules in
    let is : c.from_residual.result ≡ Err c.in_err-read_values.field-0.0 = search rules in
    subst (λ (r : Result (Unit {0}) ValueFault). IfErr r (ValuesFail c.args.told.now c.args.pass.now.view c.read_values.new.pass.view)) (sym is)
    (subst (λ (ws : List ℕ). ValuesFail ws c.args.pass.now.view c.read_values.new.pass.view c.in_err-read_values.field-0.0) told
    (values_fail c.args.pass.now c.read_values.new.pass c.told.inside.words.items c.told.inside.generation c.deref.result.now c.in_err-read_values.field-0.0 c.told.invariant.generation_is
    (c.deref.ensures.value ∙ c.told.invariant.indexes_are) c.in_err-read_values.ensures.reads))

pub write_all-requires-clause-below : goal.write_all-requires-clause-below
write_all-requires-clause-below c = indexes_inside c.told.inside.words.items c.deref-2.result.now c.told.invariant.image (c.deref-2.ensures.value ∙ c.told.invariant.indexes_are)

pub invariant_of-told-2 : goal.invariant_of-told-2
invariant_of-told-2 c =
    let kept : IsKeptBy c.args.pass.now c.told.inside.words.items = search rules in
    let long : c.told.inside.found.len ≡ length c.read_values.new.out = search rules in
    let out = c.read_values.new.out in
    let back = refilled c.told.inside.found.len out c.told.inside.found.items long in
    let values : c.deref-3.result.now ≡ out = c.deref-3.ensures.value ∙ back in
    let room : length out ≡ length c.told.inside.found.items = search rules in
    let f : IsFresh c.args.pass.now c.read_values.new.pass c.told.inside.words.items c.write_all.new.words.items =
    freshened c.args.pass.now c.read_values.new.pass c.told.inside.words.items c.deref.result.now out c.write_all.new.words.items c.told.inside.generation kept c.told.invariant.image
    (c.deref.ensures.value ∙ c.told.invariant.indexes_are) c.told.invariant.generation_is (room ∙ c.told.invariant.room_is ∙ ap (λ (xs : List ℕ). length xs) (sym c.deref.ensures.value))
    (wrote c.told.inside.words.items c.write_all.new.words.items c.deref-2.result.now c.deref.result.now c.deref-3.result.now out c.write_all.ensures (c.deref-2.ensures.value ∙ sym c.deref.ensures.value) values)
    c.in_ok-read_values.ensures.reads c.in_ok-read_values.ensures.stays in
    told_stays c.told.inside.words.items c.write_all.new.words.items c.told.inside.generation c.told.inside.indexes.items c.told.inside.found.items _ c.told.inside.flags c.told.inside.indoms c.told.inside.metrics
    c.told.inside.places c.told.inside.numbers c.told.invariant f.image f.form f.generation (ap (λ (xs : List ℕ). length xs) back ∙ room)

pub returns-clause-reads : goal.returns-clause-reads
returns-clause-reads c =
    let kept : IsKeptBy c.args.pass.now c.told.inside.words.items = search rules in
    let long : c.told.inside.found.len ≡ length c.read_values.new.out = search rules in
    let out = c.read_values.new.out in
    let back = refilled c.told.inside.found.len out c.told.inside.found.items long in
    let values : c.deref-3.result.now ≡ out = c.deref-3.ensures.value ∙ back in
    let room : length out ≡ length c.told.inside.found.items = search rules in
    let f : IsFresh c.args.pass.now c.read_values.new.pass c.told.inside.words.items c.write_all.new.words.items =
    freshened c.args.pass.now c.read_values.new.pass c.told.inside.words.items c.deref.result.now out c.write_all.new.words.items c.told.inside.generation kept c.told.invariant.image
    (c.deref.ensures.value ∙ c.told.invariant.indexes_are) c.told.invariant.generation_is (room ∙ c.told.invariant.room_is ∙ ap (λ (xs : List ℕ). length xs) (sym c.deref.ensures.value))
    (wrote c.told.inside.words.items c.write_all.new.words.items c.deref-2.result.now c.deref.result.now c.deref-3.result.now out c.write_all.ensures (c.deref-2.ensures.value ∙ sym c.deref.ensures.value) values)
    c.in_ok-read_values.ensures.reads c.in_ok-read_values.ensures.stays in
    let told : c.told.inside.words.items ≡ c.args.told.now = search rules in
    subst (λ (ws : List ℕ). ReadsAgainBy ws c.args.pass.now.view c.write_all.new.words.items c.read_values.new.pass.view) told f.reads

pub returns-clause-kept : goal.returns-clause-kept
returns-clause-kept c =
    let kept : IsKeptBy c.args.pass.now c.told.inside.words.items = search rules in
    let long : c.told.inside.found.len ≡ length c.read_values.new.out = search rules in
    let out = c.read_values.new.out in
    let back = refilled c.told.inside.found.len out c.told.inside.found.items long in
    let values : c.deref-3.result.now ≡ out = c.deref-3.ensures.value ∙ back in
    let room : length out ≡ length c.told.inside.found.items = search rules in
    let f : IsFresh c.args.pass.now c.read_values.new.pass c.told.inside.words.items c.write_all.new.words.items =
    freshened c.args.pass.now c.read_values.new.pass c.told.inside.words.items c.deref.result.now out c.write_all.new.words.items c.told.inside.generation kept c.told.invariant.image
    (c.deref.ensures.value ∙ c.told.invariant.indexes_are) c.told.invariant.generation_is (room ∙ c.told.invariant.room_is ∙ ap (λ (xs : List ℕ). length xs) (sym c.deref.ensures.value))
    (wrote c.told.inside.words.items c.write_all.new.words.items c.deref-2.result.now c.deref.result.now c.deref-3.result.now out c.write_all.ensures (c.deref-2.ensures.value ∙ sym c.deref.ensures.value) values)
    c.in_ok-read_values.ensures.reads c.in_ok-read_values.ensures.stays in
    f.kept
