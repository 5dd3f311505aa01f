use Rattle.std.proofs.Common.{Some, sym, subst}
use Rattle.region_rule.specs.Seats.{Token}
use Rattle.script_runs.specs.PassSteps as steps
use Rattle.run_passes.specs.declared.said.Said.TheVariants as said
use Rattle.run_passes.specs.declared.worker.Worker.{Worker}
use Rattle.run_passes.specs.declared.worker.Worker.TheVariants as workers
use Rattle.run_passes.specs.Works.{Works}
use Rattle.run_passes.proofs.Calling.{attached, bounced, no_attach}
use Rattle.run_passes.proofs.deeds.attach.Goals as goal

pub returns-in-Ok : goal.returns-in-Ok
returns-in-Ok c = subst (λ (w : Worker). Works c.args.region.now steps.attaches w (workers.Inside c.new.result) (Some said.Attached)) (sym c.in-Idle.is)
    (subst (λ (t : Token). Works c.args.region.now steps.attaches (workers.Idle c.in-Idle.pass) (workers.Inside t) (Some said.Attached)) (sym c.new.ensures)
    (attached c.args.region.now c.in-Idle.pass c.in-Ok.stint c.in-Ok.ensures.attaches c.in-Ok.ensures.stays))

pub returns-in-Err : goal.returns-in-Err
returns-in-Err c = subst (λ (w : Worker). Works c.args.region.now steps.attaches w (workers.Idle c.in-Err.pass) (Some (said.Bounced c.in-Err.fault.gate))) (sym c.in-Idle.is)
    (bounced c.args.region.now c.in-Idle.pass c.in-Err.pass c.in-Err.fault.gate c.in-Err.ensures.attaches c.in-Err.ensures.stays)

pub returns-in_default : goal.returns-in_default
returns-in_default c = no_attach c.args.region.now c.args.worker c.in_default.not-Idle c.requires.here
