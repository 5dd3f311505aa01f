use Rattle.std.proofs.Common.{ℕ, List, length, Some, sym, subst}
use Rattle.script_runs.specs.PassSteps as steps
use Rattle.region_rule.specs.Changes.{Starts, Fails}
use Rattle.region_words.specs.Images.{mmv}
use Rattle.run_passes.specs.declared.said.Said.{Said}
use Rattle.run_passes.specs.declared.said.Said.TheVariants as said
use Rattle.run_passes.specs.declared.worker.Worker.{Worker}
use Rattle.run_passes.specs.declared.worker.Worker.TheVariants as workers
use Rattle.run_passes.specs.Works.{Works, Rests}
use Rattle.run_passes.proofs.Relays.{no_begin, rests, begun, refused}
use Rattle.run_passes.proofs.changes.begin.Goals as goal

pub returns-in_default : goal.returns-in_default
returns-in_default c = no_begin c.args.region.now c.args.image.now c.args.moment c.args.worker c.in_default.not-Idle c.requires.here

pub returns-in_default-copy : goal.returns-in_default-copy
returns-in_default-copy c = subst (λ (w : Worker). Rests c.args.region.now w (workers.Idle c.in-Idle.pass)) (sym c.in-Idle.is) (rests c.args.region.now (workers.Idle c.in-Idle.pass))

pub returns-in-Ok-begin_change : goal.returns-in-Ok-begin_change
returns-in-Ok-begin_change c =
    let change = c.in-Ok-begin_change.change in
    let starts = subst (λ (image : List ℕ). Starts mmv c.in-Idle.pass.view (length c.args.region.now.words) image c.args.moment change) c.in-Ok.ensures c.in-Ok-begin_change.ensures.begins in
    subst (λ (w : Worker). Works c.args.region.now (λ r k doing. steps.begins r k c.args.image.now c.args.moment doing) w (workers.Changing change) (Some (said.Begun c.generation-generation.result))) (sym c.in-Idle.is)
    (begun c.args.region.now c.in-Idle.pass c.args.image.now c.args.moment change c.generation-generation.result c.generation-generation.ensures starts c.in-Ok-begin_change.ensures.stays)

pub returns-in-Err : goal.returns-in-Err
returns-in-Err c =
    let fails = subst (λ (image : List ℕ). Fails mmv c.in-Idle.pass.view (length c.args.region.now.words) image c.in-Err.pass.view c.in-Err.fault) c.in-Ok.ensures c.in-Err.ensures.begins in
    subst (λ (w : Worker). Works c.args.region.now (λ r k doing. steps.begins r k c.args.image.now c.args.moment doing) w (workers.Idle c.in-Err.pass) (Some c.fault_said.result)) (sym c.in-Idle.is)
    (subst (λ (l : Said). Works c.args.region.now (λ r k doing. steps.begins r k c.args.image.now c.args.moment doing) (workers.Idle c.in-Idle.pass) (workers.Idle c.in-Err.pass) (Some l)) (sym c.fault_said.ensures)
    (refused c.args.region.now c.in-Idle.pass c.in-Err.pass c.args.image.now c.args.moment c.in-Err.fault fails c.in-Err.ensures.stays.0))
