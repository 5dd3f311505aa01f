use Rattle.std.proofs.Common.{Some, sym, subst}
use Rattle.script_runs.specs.PassSteps as steps
use Rattle.run_passes.specs.declared.said.Said.TheVariants as said
use Rattle.run_passes.specs.declared.worker.Worker.{Worker}
use Rattle.run_passes.specs.declared.worker.Worker.TheVariants as workers
use Rattle.run_passes.proofs.Ending.{detach_kept}
use Rattle.run_passes.specs.Works.{Works}
use Rattle.run_passes.proofs.Calling.{detached, no_detach}
use Rattle.run_passes.proofs.deeds.detach.Goals as goal

pub returns-in-Inside-clause-works : goal.returns-in-Inside-clause-works
returns-in-Inside-clause-works c = subst (λ (w : Worker). Works c.args.region.now steps.detaches w (workers.Idle c.detach.result) (Some said.Nothing)) (sym c.in-Inside.is)
    (detached c.args.region.now c.in-Inside.stint c.detach.result c.detach.ensures.detaches c.detach.ensures.stays)

pub returns-in_default-clause-works : goal.returns-in_default-clause-works
returns-in_default-clause-works c = no_detach c.args.region.now c.args.worker c.in_default.not-Inside

pub returns-in_default-clause-ends : goal.returns-in_default-clause-ends
returns-in_default-clause-ends c = detach_kept c.args.worker c.in_default.not-Inside
