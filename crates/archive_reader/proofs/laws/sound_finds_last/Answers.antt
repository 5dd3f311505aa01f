use Rattle.archive_reader.proofs.Finds.{sound_finds_last}
use Rattle.archive_reader.proofs.laws.sound_finds_last.Goals as goal

pub returns : goal.returns
returns c = sound_finds_last
