use Rattle.archive_merge.proofs.Listing.{listed_so}
use Rattle.archive_merge.proofs.laws.domains_are_listed.Goals as goal

pub returns : goal.returns
returns c = listed_so
