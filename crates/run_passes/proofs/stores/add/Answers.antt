use Rattle.std.proofs.Common.{ℤ, Option, MatchResult, sym, subst}
use Rattle.std.specs.Int.{w128}
use Rattle.std.proofs.lemmas.Int.{to_z-of_z}
use Rattle.region_words.specs.Calls.{Loads}
use Rattle.script_runs.specs.PassSteps as steps
use Rattle.run_passes.specs.declared.said.Said.{Said}
use Rattle.run_passes.specs.declared.worker.Worker.{Worker}
use Rattle.run_passes.specs.declared.worker.Worker.TheVariants as workers
use Rattle.run_passes.specs.Works.{Works, Rests}
use Rattle.run_passes.specs.Storing.{slot_seen, add_seen, StoresOrLoads}
use Rattle.run_passes.proofs.Slotted.{no_add, adds_so, add_stores, stored_answer}
use Rattle.run_passes.proofs.stores.add.Goals as goal

pub returns-in_default : goal.returns-in_default
returns-in_default c = no_add c.args.region.now c.args.item c.args.instance c.args.number c.args.worker c.in_default.not-Inside

pub returns : goal.returns
returns c =
    let stored = subst (λ (z : ℤ). MatchResult c.add_in-stored.result (StoresOrLoads (add_seen c.in-Inside.stint.view c.args.item c.args.instance z) c.in-Inside.stint.view c.add_in-stored.new.stint.view) (λ _. Loads c.in-Inside.stint.view c.add_in-stored.new.stint.view)) (to_z-of_z w128 c.args.number c.ranges.number) c.add_in-stored.ensures.stored in
    subst (λ (w : Worker). MatchResult c.stored_or_not.result (λ (line : Option Said). Works c.args.region.now (λ r k doing. steps.adds r k c.args.item c.args.instance c.args.number doing) w (workers.Inside c.add_in-stored.new.stint) line) (λ _. Rests c.args.region.now w (workers.Inside c.add_in-stored.new.stint))) (sym c.in-Inside.is)
    (stored_answer c.args.region.now (λ r k doing. steps.adds r k c.args.item c.args.instance c.args.number doing) c.in-Inside.stint c.add_in-stored.new.stint (add_seen c.in-Inside.stint.view c.args.item c.args.instance c.args.number) c.add_in-stored.result c.stored_or_not.result c.stored_or_not.ensures (adds_so c.in-Inside.stint.view c.args.item c.args.instance c.args.number) (add_stores (slot_seen c.in-Inside.stint.view c.args.item c.args.instance) c.args.number) stored c.add_in-stored.ensures.stays)
