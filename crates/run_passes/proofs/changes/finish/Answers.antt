use Rattle.std.proofs.Common.{Some, sym, subst}
use Rattle.script_runs.specs.PassSteps as steps
use Rattle.run_passes.specs.declared.said.Said.TheVariants as said
use Rattle.run_passes.specs.declared.worker.Worker.{Worker}
use Rattle.run_passes.specs.declared.worker.Worker.TheVariants as workers
use Rattle.run_passes.proofs.Ending.{finish_kept}
use Rattle.run_passes.specs.Works.{Works}
use Rattle.run_passes.proofs.Relays.{no_finish, finished}
use Rattle.run_passes.proofs.changes.finish.Goals as goal

pub returns-in-Changing-clause-works : goal.returns-in-Changing-clause-works
returns-in-Changing-clause-works c =
    subst (λ (w : Worker). Works c.args.region.now steps.finishes w (workers.Idle c.finish.result) (Some said.Nothing)) (sym c.in-Changing.is)
    (finished c.args.region.now c.in-Changing.change c.finish.result c.finish.ensures.finishes c.finish.ensures.stays)

pub returns-in_default-clause-works : goal.returns-in_default-clause-works
returns-in_default-clause-works c = no_finish c.args.region.now c.args.worker c.in_default.not-Changing

pub returns-in_default-clause-ends : goal.returns-in_default-clause-ends
returns-in_default-clause-ends c = finish_kept c.args.worker c.in_default.not-Changing
