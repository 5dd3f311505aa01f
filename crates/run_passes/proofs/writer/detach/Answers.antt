use Rattle.std.proofs.Common.{◌≡◌, [], ◌∷◌, sym, subst}
use Rattle.region_core.specs.declared.act.Act.TheVariants.{Leave}
use Rattle.run_passes.specs.declared.writer.Writer.{Writer}
use Rattle.run_passes.specs.declared.writer.Writer.TheVariants as writers
use Rattle.run_passes.specs.LineEntries.{Makes, Writing}
use Rattle.run_passes.specs.Writers.{Did, writing_of}
use Rattle.run_passes.proofs.WriterCalls.{detached_did, did_in_place}
use Rattle.run_passes.proofs.writer.detach.Goals as goal

pub returns : goal.returns
returns c =
    did_in_place c.args.region.now (λ at k s entries next. (at ≡ Writing.attached) × Makes k (Leave ∷ []) entries × (next ≡ Writing.idle)) c.args.writer.now c.take-taken.result (writers.Idle c.detach.result) c.put.new.writer c.take-taken.ensures.taken c.put.ensures
    (subst (λ (w : Writer). Did c.args.region.now (λ k s entries next. (writing_of w ≡ Writing.attached) × Makes k (Leave ∷ []) entries × (next ≡ Writing.idle)) w (writers.Idle c.detach.result)) (sym c.in-Inside.is)
    (detached_did c.args.region.now c.in-Inside.stint c.detach.result c.detach.ensures.detaches c.detach.ensures.stays))
