use Rattle.std.proofs.Common.{sym, ap, ◌∙◌}
use Rattle.archive_meta.specs.Said.{description_of}
use Rattle.archive_meta.proofs.Woven.{woven_description}
use Rattle.archive_meta.proofs.state.MetaState.description_of.Goals as goal

pub returns-clause-value : goal.returns-clause-value
returns-clause-value c =
    c.description_of.ensures ∙ sym (woven_description c.args.pmid c.self.inside.marks c.self.inside.records c.self.invariant.marked) ∙ ap (description_of c.args.pmid) c.self.view_is
