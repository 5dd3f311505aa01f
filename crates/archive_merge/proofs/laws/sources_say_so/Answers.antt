use Rattle.archive_merge.proofs.Listing.{say_so}
use Rattle.archive_merge.proofs.laws.sources_say_so.Goals as goal

pub returns : goal.returns
returns c = say_so
