use Rattle.std.proofs.Common.{length, sym, ap, ◌∙◌}
use Rattle.result_form.proofs.Walks.{sets_length}
use Rattle.result_form.proofs.sets.SetsView.len.Goals as goal

pub returns : goal.returns
returns c = sym (sets_length c.self.inside.payload.now c.self.inside.left c.self.inside.words.now) ∙ ap length c.self.view_is
