-- What an image says is a draft.
use Rattle.mmv_writer.proofs.ImageDrafts.{layouts_are_drafts}
use Rattle.mmv_writer.proofs.laws.layouts_are_drafts.Goals as goal

pub returns : goal.returns
returns c = layouts_are_drafts
