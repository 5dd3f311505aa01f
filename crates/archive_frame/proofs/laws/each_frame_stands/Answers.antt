use Rattle.archive_frame.proofs.Records.{each_stands}
use Rattle.archive_frame.proofs.laws.each_frame_stands.Goals as goal

pub returns : goal.returns
returns c = each_stands
