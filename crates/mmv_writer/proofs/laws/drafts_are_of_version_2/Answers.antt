-- A draft meets the rules of version 2.
use Rattle.mmv_writer.proofs.Lifted.{drafts_are_of_version_2}
use Rattle.mmv_writer.proofs.laws.drafts_are_of_version_2.Goals as goal

pub returns : goal.returns
returns c = drafts_are_of_version_2
