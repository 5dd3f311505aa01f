use Rattle.std.proofs.Common.{Some, sym, subst}
use Rattle.script_runs.specs.PassSteps as steps
use Rattle.run_passes.specs.declared.said.Said.{Said}
use Rattle.run_passes.specs.declared.said.Said.TheVariants as said
use Rattle.run_passes.specs.declared.worker.Worker.{Worker}
use Rattle.run_passes.specs.declared.worker.Worker.TheVariants as workers
use Rattle.run_passes.proofs.Ending.{done_kept}
use Rattle.run_passes.specs.Works.{Works}
use Rattle.run_passes.proofs.Calling.{ended, says_stable, says_again, no_end}
use Rattle.run_passes.proofs.deeds.done.Goals.{in-Ok, in-Err}
use Rattle.run_passes.proofs.deeds.done.Goals as goal

pub returns-after-answer-clause-works : goal.returns-after-answer-clause-works
returns-after-answer-clause-works c = elim c.match-answer.branch [
  | in-Ok w ↦ let h = rw w.in-Ok.is at c.end-pass.ensures.reads in
      subst (λ (w : Worker). Works c.args.region.now steps.ends w (workers.Idle c.end-pass.result.0) (Some c.match-answer.said)) (sym c.in-Reading.is)
      (subst (λ (l : Said). Works c.args.region.now steps.ends (workers.Reading c.in-Reading.reading) (workers.Idle c.end-pass.result.0) (Some l)) (sym w.said-is)
      (ended c.args.region.now c.in-Reading.reading c.end-pass.result.0 h.0 (said.Stable w.in-Ok.stable.generation) h.1 c.end-pass.ensures.stays (says_stable c.in-Reading.reading.first h.0 w.in-Ok.stable.generation h.2.0 h.2.1)))
  | in-Err w ↦ let h = rw w.in-Err.is at c.end-pass.ensures.reads in
      subst (λ (w : Worker). Works c.args.region.now steps.ends w (workers.Idle c.end-pass.result.0) (Some c.match-answer.said)) (sym c.in-Reading.is)
      (subst (λ (l : Said). Works c.args.region.now steps.ends (workers.Reading c.in-Reading.reading) (workers.Idle c.end-pass.result.0) (Some l)) (sym w.said-is)
      (ended c.args.region.now c.in-Reading.reading c.end-pass.result.0 h.0 (said.Again w.in-Err.again.first w.in-Err.again.last) h.1 c.end-pass.ensures.stays (says_again c.in-Reading.reading.first h.0 w.in-Err.again.first w.in-Err.again.last h.2.0 h.2.1 h.2.2)))
]

pub returns-in_default-clause-works : goal.returns-in_default-clause-works
returns-in_default-clause-works c = no_end c.args.region.now c.args.worker c.in_default.not-Reading

pub returns-in_default-clause-ends : goal.returns-in_default-clause-ends
returns-in_default-clause-ends c = done_kept c.args.worker c.in_default.not-Reading
