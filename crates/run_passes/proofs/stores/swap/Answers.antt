use Rattle.std.proofs.Common.{Option, MatchResult, sym, subst}
use Rattle.script_runs.specs.PassSteps as steps
use Rattle.run_passes.specs.declared.said.Said.{Said}
use Rattle.run_passes.specs.declared.worker.Worker.{Worker}
use Rattle.run_passes.specs.declared.worker.Worker.TheVariants as workers
use Rattle.run_passes.specs.Works.{Works, Rests}
use Rattle.run_passes.specs.Storing.{texts_seen, slot_seen, swap_seen}
use Rattle.run_passes.proofs.Slotted.{no_swap, swaps_so, swap_stores, stored_answer}
use Rattle.run_passes.proofs.stores.swap.Goals as goal

pub returns-in_default : goal.returns-in_default
returns-in_default c = no_swap c.args.region.now c.args.item c.args.instance c.args.value.now c.args.worker c.in_default.not-Inside

pub returns : goal.returns
returns c =
    subst (λ (w : Worker). MatchResult c.stored_or_not.result (λ (line : Option Said). Works c.args.region.now (λ r k doing. steps.swaps r k c.args.item c.args.instance c.args.value.now doing) w (workers.Inside c.swap_in-stored.new.stint) line) (λ _. Rests c.args.region.now w (workers.Inside c.swap_in-stored.new.stint))) (sym c.in-Inside.is)
    (stored_answer c.args.region.now (λ r k doing. steps.swaps r k c.args.item c.args.instance c.args.value.now doing) c.in-Inside.stint c.swap_in-stored.new.stint (swap_seen c.in-Inside.stint.view c.args.item c.args.instance c.args.value.now) c.swap_in-stored.result c.stored_or_not.result c.stored_or_not.ensures (swaps_so c.in-Inside.stint.view c.args.item c.args.instance c.args.value.now) (swap_stores (texts_seen c.in-Inside.stint.view) (slot_seen c.in-Inside.stint.view c.args.item c.args.instance) c.args.value.now) c.swap_in-stored.ensures.stored c.swap_in-stored.ensures.stays)
