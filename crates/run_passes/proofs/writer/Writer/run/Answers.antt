use Rattle.std.proofs.Common.{◌≡◌, ℕ, List, sym, subst}
use Rattle.std.specs.Prelude.{MatchResult}
use Rattle.run_script.specs.declared.script.Line.{Line}
use Rattle.run_passes.specs.LineEntries.{BeginsChange, Writing}
use Rattle.run_passes.specs.Writers.{Did, RunsLine, StaysWriter, writing_of}
use Rattle.run_passes.proofs.writer.Writer.run.Goals as goal

pub returns-in-Begin : goal.returns-in-Begin
returns-in-Begin g c =
    subst (λ (line : Line). MatchResult c.begin.result (λ _. RunsLine c.args.region.now c.args.script.now.images line c.args.self.now c.begin.new.writer) (λ _. StaysWriter c.args.region.now c.args.self.now c.begin.new.writer)) (sym c.in-Begin.is)
    (subst (λ (image : List ℕ). MatchResult c.begin.result (λ _. Did c.args.region.now (λ k s entries next. (writing_of c.args.self.now ≡ Writing.idle) × BeginsChange k s image c.in-Begin.moment entries next) c.args.self.now c.begin.new.writer) (λ _. StaysWriter c.args.region.now c.args.self.now c.begin.new.writer)) c.image_at-image.ensures c.begin.ensures)
