use Rattle.std.proofs.Common.{◌≤◌, ℕ, length, List, sym, subst, ap, ◌∙◌, refl, arith}
use Rattle.std.specs.List.{list_all}
use Rattle.std.proofs.lemmas.Option.{slice_get_within}
use Rattle.run_passes.specs.declared.worker.Worker.{Worker}
use Rattle.run_passes.specs.Crews.{rests}
use Rattle.run_passes.proofs.Idling.{IdleSoFar, idle_more, not_idle, idle_all}
use Rattle.run_passes.proofs.Seated.{plus_one}
use Rattle.run_passes.proofs.Turning.{was_there}
use Rattle.run_passes.proofs.running.Running.is_idle.Goals as goal

pub returns-then-not-is_idle : goal.returns-then-not-is_idle
returns-then-not-is_idle c = not_idle c.args.script.now c.args.server.now c.args.self.now c.loop-region.region c.place-at.result c.place-at.ensures c.index.result.now (was_there c.args.self.now.crews.items c.place-at.result c.index.result.now c.index.result.now (let w = slice_get_within c.args.server.now c.place-at.result c.place-at.ensures.mounted c.place-at.ensures.there in let m = c.requires.manned.as_many in omega arith) c.index.ensures refl) (sym (c.is_idle.ensures ∙ ap (λ (l : List Worker). list_all rests l) c.deref.ensures.value) ∙ c.if-not-is_idle.true)

pub loop-region-preserved : goal.loop-region-preserved
loop-region-preserved c =
    subst (λ (n : ℕ). IdleSoFar c.args.script.now c.args.server.now c.args.self.now n) (plus_one c.loop-region.region)
    (idle_more c.args.script.now c.args.server.now c.args.self.now c.loop-region.region c.place-at.result c.place-at.ensures c.index.result.now (was_there c.args.self.now.crews.items c.place-at.result c.index.result.now c.index.result.now (let w = slice_get_within c.args.server.now c.place-at.result c.place-at.ensures.mounted c.place-at.ensures.there in let m = c.requires.manned.as_many in omega arith) c.index.ensures refl) (sym (c.is_idle.ensures ∙ ap (λ (l : List Worker). list_all rests l) c.deref.ensures.value) ∙ c.if-not-is_idle.false) c.loop-region.invariant)

pub returns : goal.returns
returns c =
    let past : length c.args.script.now.regions ≤ c.loop-region.region = omega (arith, c.loop-region-test.false, c.len-region-end.ensures) in
    idle_all c.args.script.now c.args.server.now c.args.self.now c.loop-region.region past c.loop-region.invariant
