-- The region that was found, as a reading.
use Rattle.std.proofs.Common.{ap, ◌∙◌}
use Rattle.std.specs.Prelude.{option_map}
use Rattle.fetch_answers.specs.Answers.{is_of}
use Rattle.fetch_answers.specs.Readings.{reading_of}
use Rattle.fetch_answers.proofs.Found.{found_by}
use Rattle.fetch_answers.proofs.reading.region_of.Goals as goal

pub returns : goal.returns
returns c = ap (option_map reading_of) c.find_region.ensures ∙ found_by reading_of (is_of c.args.word) c.args.regions.now
