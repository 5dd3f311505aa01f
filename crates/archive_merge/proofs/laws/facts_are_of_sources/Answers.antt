use Rattle.archive_merge.proofs.Listing.{of_sources}
use Rattle.archive_merge.proofs.laws.facts_are_of_sources.Goals as goal

pub returns : goal.returns
returns c = of_sources
