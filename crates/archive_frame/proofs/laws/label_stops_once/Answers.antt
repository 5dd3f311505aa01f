use Rattle.archive_frame.proofs.Unique.{stops_once}
use Rattle.archive_frame.proofs.laws.label_stops_once.Goals as goal

pub returns : goal.returns
returns c = stops_once
