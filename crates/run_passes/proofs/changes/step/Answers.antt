use Rattle.std.proofs.Common.{Some, sym, subst}
use Rattle.script_runs.specs.PassSteps as steps
use Rattle.run_passes.specs.declared.said.Said.TheVariants as said
use Rattle.run_passes.specs.declared.worker.Worker.{Worker}
use Rattle.run_passes.specs.declared.worker.Worker.TheVariants as workers
use Rattle.run_passes.specs.Works.{Works}
use Rattle.run_passes.proofs.Relays.{no_change, stepped}
use Rattle.run_passes.proofs.changes.step.Goals as goal

pub returns-in-Changing : goal.returns-in-Changing
returns-in-Changing c =
    subst (λ (w : Worker). Works c.args.region.now steps.steps_on w (workers.Changing c.step-left.new.self) (Some said.Nothing)) (sym c.in-Changing.is)
    (stepped c.args.region.now c.in-Changing.change c.step-left.new.self c.step-left.ensures.stores c.step-left.ensures.stays)

pub returns-in_default : goal.returns-in_default
returns-in_default c = no_change c.args.region.now c.args.worker c.in_default.not-Changing
