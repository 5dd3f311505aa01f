use Rattle.std.proofs.Common.{◌≡◌, ℕ, List, sym, subst}
use Rattle.std.specs.Prelude.{length}
use Rattle.region_rule.specs.Waits.{StartsAtLast}
use Rattle.region_words.specs.Images.{mmv}
use Rattle.run_passes.specs.declared.writer.Writer.{Writer}
use Rattle.run_passes.specs.declared.writer.Writer.TheVariants as writers
use Rattle.run_passes.specs.LineEntries.{BeginsChange, Writing}
use Rattle.run_passes.specs.Writers.{Did, writing_of}
use Rattle.run_passes.proofs.WriterCalls.{begun_did, did_in_place, refused_by}
use Rattle.run_passes.proofs.writer.begin.Goals as goal

pub returns-in-Ok-begin_change_wait : goal.returns-in-Ok-begin_change_wait
returns-in-Ok-begin_change_wait g c =
    let change = c.in-Ok-begin_change_wait.change in
    let starts = subst (λ (image : List ℕ). StartsAtLast mmv c.in-Idle.pass.view (length c.args.region.now.words) image c.args.moment change) c.in-Ok.ensures c.in-Ok-begin_change_wait.ensures.begins in
    did_in_place c.args.region.now (λ at k s entries next. (at ≡ Writing.idle) × BeginsChange k s c.args.image.now c.args.moment entries next) c.args.writer.now c.take-taken.result (writers.Changing change) c.put.new.writer c.take-taken.ensures.taken c.put.ensures
    (subst (λ (w : Writer). Did c.args.region.now (λ k s entries next. (writing_of w ≡ Writing.idle) × BeginsChange k s c.args.image.now c.args.moment entries next) w (writers.Changing change)) (sym c.in-Idle.is)
    (begun_did c.args.region.now c.in-Idle.pass c.args.image.now c.args.moment change starts c.in-Ok-begin_change_wait.ensures.stays))

pub returns-in-Err : goal.returns-in-Err
returns-in-Err g c =
    did_in_place c.args.region.now (λ at k s entries next. (at ≡ Writing.idle) × BeginsChange k s c.args.image.now c.args.moment entries next) c.args.writer.now c.take-taken.result (writers.Refused c.in-Err.pass) c.put-in-Err.new.writer c.take-taken.ensures.taken c.put-in-Err.ensures
    (subst (λ (w : Writer). Did c.args.region.now (λ k s entries next. (writing_of w ≡ Writing.idle) × BeginsChange k s c.args.image.now c.args.moment entries next) w (writers.Refused c.in-Err.pass)) (sym c.in-Idle.is)
    (refused_by c.args.region.now c.in-Idle.pass c.in-Err.pass c.args.image.now c.in-Ok.copy c.args.moment _ c.in-Ok.ensures c.requires.fits c.in-Err.ensures.begins c.in-Err.ensures.stays.0))
