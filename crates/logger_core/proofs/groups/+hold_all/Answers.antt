-- The first result is judged, and then those behind it.
use Rattle.std.proofs.Common.{[], ◌∷◌, ◌++◌, ◌+◌, ◌<◌, ◌≤◌, length, rules, refl, sym, ap, ◌∙◌, subst, append_assoc, arith}
use Rattle.std.specs.List.{AllByRecursion}
use Rattle.logger_core.specs.Going.{AreSmall}
use Rattle.logger_core.specs.Grouping.{MayBeAsked}
use Rattle.logger_core.specs.Held.{AreRuns, counts_of}
use Rattle.logger_core.proofs.HeldRuns.{count_after, held_runs, refused_first, refused_later, rest_asked, small_after, some_sets}
use Rattle.logger_core.proofs.groups.+hold_all.Goals as goal

pub hold_all-requires : goal.hold_all-requires
hold_all-requires t c =
    let g = c.in-Some.one.now in
    let some = some_sets c.args.all.now c.in-Some.rest.now g c.in-Some.ensures.cases.0 c.requires.each in
    let small : AreSmall c.hold.new.group.planned = small_after c.args.group.now c.hold.new.group c.args.meta.now c.hold.new.meta c.args.limit g c.requires.small c.requires.limited c.in-Ok.ensures.held some in
    let limited : c.args.limit ≤ 1073741824 = c.requires.limited in
    let few : counts_of c.hold.new.group.runs + length c.in-Some.rest.now ≤ 64 =
    omega (arith, c.requires.few, count_after c.args.group.now c.hold.new.group c.args.meta.now c.hold.new.meta c.args.limit g c.in-Ok.ensures.held, ap length c.in-Some.ensures.cases.0) in
    let each : AllByRecursion MayBeAsked c.in-Some.rest.now = rest_asked c.args.all.now c.in-Some.rest.now g c.in-Some.ensures.cases.0 c.requires.each in
    let less : length c.in-Some.rest.now < length c.args.all.now = omega (arith, ap length c.in-Some.ensures.cases.0) in
    search rules

pub returns-in-Err-clause-refused : goal.returns-in-Err-clause-refused
returns-in-Err-clause-refused t c = λ records e done small all.
    refused_first records e c.args.limit done c.args.all.now c.in-Some.rest.now c.args.meta.now c.hold.new.meta c.args.group.now c.hold.new.group c.in-Some.one.now c.in-Err.fault c.in-Some.ensures.cases.0 all c.in-Err.ensures.known c.in-Err.ensures.same c.in-Err.ensures.fault

pub returns-in-Ok-hold_all-clause-held : goal.returns-in-Ok-hold_all-clause-held
returns-in-Ok-hold_all-clause-held t c = λ records e done small all.
    let g = c.in-Some.one.now in
    let limit = c.args.limit in
    let some = some_sets c.args.all.now c.in-Some.rest.now g c.in-Some.ensures.cases.0 c.requires.each in
    subst (λ gs. AreRuns records e limit c.hold_all.new.group.runs gs c.hold_all.new.meta c.hold_all.new.group.planned) (append_assoc done (g ∷ []) c.in-Some.rest.now ∙ ap (λ gs. done ++ gs) (sym c.in-Some.ensures.cases.0))
    (c.in-Ok-hold_all.ensures.held records e (done ++ g ∷ []) small (held_runs records e limit done c.args.meta.now c.hold.new.meta c.args.group.now c.hold.new.group g small all c.in-Ok.ensures.held some c.requires.limited))

pub returns-in-Err-hold_all-clause-refused : goal.returns-in-Err-hold_all-clause-refused
returns-in-Err-hold_all-clause-refused t c = λ records e done small all.
    let g = c.in-Some.one.now in
    let limit = c.args.limit in
    let some = some_sets c.args.all.now c.in-Some.rest.now g c.in-Some.ensures.cases.0 c.requires.each in
    refused_later records e limit done c.args.all.now c.in-Some.rest.now c.hold_all.new.meta c.hold_all.new.group g c.in-Err-hold_all.k (c.in-Err-hold_all.k + 1) c.in-Err-hold_all.fault c.in-Some.ensures.cases.0 refl
    (c.in-Err-hold_all.ensures.refused records e (done ++ g ∷ []) small (held_runs records e limit done c.args.meta.now c.hold.new.meta c.args.group.now c.hold.new.group g small all c.in-Ok.ensures.held some c.requires.limited))
