use Rattle.std.proofs.Common.{Some, sym, subst}
use Rattle.script_runs.specs.PassSteps as steps
use Rattle.run_passes.specs.declared.said.Said.TheVariants as said
use Rattle.run_passes.specs.declared.worker.Worker.{Worker}
use Rattle.run_passes.specs.declared.worker.Worker.TheVariants as workers
use Rattle.run_passes.specs.Works.{Works}
use Rattle.run_passes.proofs.Calling.{loaded, no_load}
use Rattle.run_passes.proofs.deeds.load.Goals as goal

pub returns-in-Idle : goal.returns-in-Idle
returns-in-Idle c = subst (λ (w : Worker). Works c.args.region.now steps.loads w (workers.Reading c.start_read.result) (Some said.Nothing)) (sym c.in-Idle.is)
    (loaded c.args.region.now c.in-Idle.pass c.start_read.result c.start_read.ensures.reads c.start_read.ensures.stays)

pub returns-in_default : goal.returns-in_default
returns-in_default c = no_load c.args.region.now c.args.worker c.in_default.not-Idle c.requires.here
