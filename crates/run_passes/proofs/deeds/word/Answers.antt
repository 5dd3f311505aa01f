use Rattle.std.proofs.Common.{ℕ, ◌<◌, ◌≤◌, Some, None, sym, subst}
use Rattle.script_runs.specs.PassSteps as steps
use Rattle.run_passes.specs.declared.said.Said.TheVariants as said
use Rattle.run_passes.specs.declared.worker.Worker.{Worker}
use Rattle.run_passes.specs.declared.worker.Worker.TheVariants as workers
use Rattle.run_passes.specs.Works.{Works}
use Rattle.run_passes.proofs.Calling.{read_on, read_past, no_word}
use Rattle.run_passes.proofs.deeds.word.Goals as goal

pub returns-then-index-capacity : goal.returns-then-index-capacity
returns-then-index-capacity c =
    subst (λ (w : Worker). Works c.args.region.now (λ r k doing. steps.reads r k c.args.index doing) w (workers.Reading c.in-Reading.reading) None) (sym c.in-Reading.is)
    (read_past c.args.region.now c.in-Reading.reading c.args.index (subst (λ (n : ℕ). n ≤ c.args.index) c.capacity.ensures c.if-index-capacity.true))

pub returns-else-index-capacity : goal.returns-else-index-capacity
returns-else-index-capacity c =
    subst (λ (w : Worker). Works c.args.region.now (λ r k doing. steps.reads r k c.args.index doing) w (workers.Reading c.word-value.new.self) (Some (said.Word c.word-value.result))) (sym c.in-Reading.is)
    (read_on c.args.region.now c.in-Reading.reading c.word-value.new.self c.args.index c.word-value.result (subst (λ (n : ℕ). c.args.index < n) c.capacity.ensures c.if-index-capacity.false) c.word-value.ensures.reads c.word-value.ensures.first c.word-value.ensures.stays)

pub returns-in_default : goal.returns-in_default
returns-in_default c = no_word c.args.region.now c.args.index c.args.worker c.in_default.not-Reading
