use Rattle.std.proofs.Common.{◌≡◌, sym, subst}
use Rattle.std.specs.Prelude.{MatchResult}
use Rattle.script_runs.specs.Slots.{swap_of}
use Rattle.run_passes.specs.Storing.{swap_seen}
use Rattle.run_passes.specs.declared.writer.Writer.{Writer}
use Rattle.run_passes.specs.declared.writer.Writer.TheVariants as writers
use Rattle.run_passes.specs.LineEntries.{Stores, Writing}
use Rattle.run_passes.specs.Writers.{Did, IsHere, StaysWriter, writing_of}
use Rattle.run_passes.proofs.Stored.{stored_answer, tells_swap}
use Rattle.run_passes.proofs.writer.swap.Goals as goal

pub returns : goal.returns
returns c =
    subst (λ (w : Writer). MatchResult c.answer_of.result (λ _. Did c.args.region.now (λ k s entries next. (writing_of w ≡ Writing.attached) × Stores k s (λ words. swap_of words c.args.item c.args.instance c.args.value.now) entries × (next ≡ Writing.attached)) w (writers.Inside c.swap_in-stored.new.stint)) (λ _. StaysWriter c.args.region.now w (writers.Inside c.swap_in-stored.new.stint))) (sym c.in-Inside.is)
    (stored_answer c.args.region.now c.in-Inside.stint c.swap_in-stored.new.stint (λ words. swap_of words c.args.item c.args.instance c.args.value.now) (λ v. swap_seen v c.args.item c.args.instance c.args.value.now) c.swap_in-stored.result c.answer_of.result c.answer_of.ensures (tells_swap c.args.item c.args.instance c.args.value.now) (subst (λ (w : Writer). IsHere c.args.region.now w) c.in-Inside.is c.requires.here) c.swap_in-stored.ensures.stored c.swap_in-stored.ensures.stays)
