use Rattle.std.proofs.Common.{◌≡◌, ℤ, sym, subst}
use Rattle.std.specs.Prelude.{MatchResult}
use Rattle.std.specs.Int.{w128}
use Rattle.std.proofs.lemmas.Int.{to_z-of_z}
use Rattle.region_words.specs.Calls.{Loads}
use Rattle.script_runs.specs.Slots.{add_of}
use Rattle.run_passes.specs.Storing.{StoresOrLoads, add_seen}
use Rattle.run_passes.specs.declared.writer.Writer.{Writer}
use Rattle.run_passes.specs.declared.writer.Writer.TheVariants as writers
use Rattle.run_passes.specs.LineEntries.{Stores, Writing}
use Rattle.run_passes.specs.Writers.{Did, IsHere, StaysWriter, writing_of}
use Rattle.run_passes.proofs.Stored.{stored_answer, tells_add}
use Rattle.run_passes.proofs.writer.add.Goals as goal

pub returns : goal.returns
returns c =
    let stored = subst (λ (z : ℤ). MatchResult c.add_in-stored.result (StoresOrLoads (add_seen c.in-Inside.stint.view c.args.item c.args.instance z) c.in-Inside.stint.view c.add_in-stored.new.stint.view) (λ _. Loads c.in-Inside.stint.view c.add_in-stored.new.stint.view)) (to_z-of_z w128 c.args.number c.ranges.number) c.add_in-stored.ensures.stored in
    subst (λ (w : Writer). MatchResult c.answer_of.result (λ _. Did c.args.region.now (λ k s entries next. (writing_of w ≡ Writing.attached) × Stores k s (λ words. add_of words c.args.item c.args.instance c.args.number) entries × (next ≡ Writing.attached)) w (writers.Inside c.add_in-stored.new.stint)) (λ _. StaysWriter c.args.region.now w (writers.Inside c.add_in-stored.new.stint))) (sym c.in-Inside.is)
    (stored_answer c.args.region.now c.in-Inside.stint c.add_in-stored.new.stint (λ words. add_of words c.args.item c.args.instance c.args.number) (λ v. add_seen v c.args.item c.args.instance c.args.number) c.add_in-stored.result c.answer_of.result c.answer_of.ensures (tells_add c.args.item c.args.instance c.args.number) (subst (λ (w : Writer). IsHere c.args.region.now w) c.in-Inside.is c.requires.here) stored c.add_in-stored.ensures.stays)
