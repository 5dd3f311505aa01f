use Rattle.std.proofs.Common.{sym, subst}
use Rattle.run_passes.specs.declared.writer.Writer.{Writer}
use Rattle.run_passes.specs.declared.writer.Writer.TheVariants as writers
use Rattle.run_passes.specs.LineEntries.{StepsOn}
use Rattle.run_passes.specs.Writers.{Did, writing_of}
use Rattle.run_passes.proofs.WriterCalls.{stepped_did}
use Rattle.run_passes.proofs.writer.step.Goals as goal

pub returns-in-Changing : goal.returns-in-Changing
returns-in-Changing c =
    subst (λ (w : Writer). Did c.args.region.now (λ k s entries next. StepsOn k (writing_of w) entries next) w (writers.Changing c.step.new.self)) (sym c.in-Changing.is)
    (stepped_did c.args.region.now c.in-Changing.change c.step.new.self c.step.ensures.stores c.step.ensures.stays)
