use Rattle.std.proofs.Common.{length, sym, ap, ◌∙◌}
use Rattle.archive_meta.proofs.Woven.{woven_length}
use Rattle.archive_meta.proofs.state.MetaState.count.Goals as goal

pub returns-clause-value : goal.returns-clause-value
returns-clause-value c = c.len.ensures ∙ sym (woven_length c.self.inside.marks c.self.inside.records c.self.invariant.marked) ∙ ap length c.self.view_is
