use Rattle.log_summary.proofs.Listing.{lines_tell}
use Rattle.log_summary.proofs.laws.lines_tell.Goals as goal

pub returns : goal.returns
returns c = lines_tell
