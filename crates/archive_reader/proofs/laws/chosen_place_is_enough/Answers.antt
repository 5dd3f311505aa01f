use Rattle.archive_reader.proofs.Searching.{chosen_is_enough}
use Rattle.archive_reader.proofs.laws.chosen_place_is_enough.Goals as goal

pub returns : goal.returns
returns c = chosen_is_enough
