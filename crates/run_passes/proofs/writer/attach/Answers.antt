use Rattle.std.proofs.Common.{◌≡◌, sym, subst}
use Rattle.region_rule.specs.Seats.{Token}
use Rattle.run_passes.specs.declared.writer.Writer.{Writer}
use Rattle.run_passes.specs.declared.writer.Writer.TheVariants as writers
use Rattle.run_passes.specs.LineEntries.{Attaches, Writing}
use Rattle.run_passes.specs.Writers.{Did, writing_of}
use Rattle.run_passes.proofs.WriterCalls.{attached_did, did_in_place}
use Rattle.run_passes.proofs.writer.attach.Goals as goal

pub returns : goal.returns
returns g c =
    did_in_place c.args.region.now (λ at k s entries next. (at ≡ Writing.idle) × Attaches k s entries × (next ≡ Writing.attached)) c.args.writer.now c.take-taken.result (writers.Inside c.new.result) c.put.new.writer c.take-taken.ensures.taken c.put.ensures
    (subst (λ (w : Writer). Did c.args.region.now (λ k s entries next. (writing_of w ≡ Writing.idle) × Attaches k s entries × (next ≡ Writing.attached)) w (writers.Inside c.new.result)) (sym c.in-Idle.is)
    (subst (λ (t : Token). Did c.args.region.now (λ k s entries next. (Writing.idle ≡ Writing.idle) × Attaches k s entries × (next ≡ Writing.attached)) (writers.Idle c.in-Idle.pass) (writers.Inside t)) (sym c.new.ensures)
    (attached_did c.args.region.now c.in-Idle.pass c.attach_wait-stint.result c.attach_wait-stint.ensures.attaches c.attach_wait-stint.ensures.stays)))
