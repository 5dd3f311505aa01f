use Rattle.std.proofs.Common.{sym, subst}
use Rattle.run_passes.specs.declared.writer.Writer.{Writer}
use Rattle.run_passes.specs.declared.writer.Writer.TheVariants as writers
use Rattle.run_passes.specs.LineEntries.{Finishes}
use Rattle.run_passes.specs.Writers.{Did, writing_of}
use Rattle.run_passes.proofs.WriterCalls.{did_in_place, finished_did}
use Rattle.run_passes.proofs.writer.finish.Goals as goal

pub returns-in-Changing : goal.returns-in-Changing
returns-in-Changing c =
    did_in_place c.args.region.now (λ at k s entries next. Finishes k at entries next) c.args.writer.now c.take-taken.result (writers.Idle c.finish.result) c.put.new.writer c.take-taken.ensures.taken c.put.ensures
    (subst (λ (w : Writer). Did c.args.region.now (λ k s entries next. Finishes k (writing_of w) entries next) w (writers.Idle c.finish.result)) (sym c.in-Changing.is)
    (finished_did c.args.region.now c.in-Changing.change c.finish.result c.finish.ensures.finishes c.finish.ensures.stays))
