use Rattle.std.proofs.Common.{subst, ◌∙◌}
use Rattle.archive_loading.specs.Parts.{IsIndexPart}
use Rattle.archive_loading.proofs.loading.load_index.Goals as goal

pub returns-clause-index : goal.returns-clause-index
returns-clause-index g c = λ tells. subst (λ bytes. IsIndexPart c.args.label.now bytes c.in_ok-part.part) (c.as_slice.ensures ∙ c.in_ok-bytes.ensures.whole tells) c.in_ok-part.ensures
