-- The theorem itself.
use Rattle.mmv_writer.proofs.Sayings.{drafts_are_said}
use Rattle.mmv_writer.proofs.laws.drafts_are_said.Goals as goal

pub returns : goal.returns
returns c = drafts_are_said
