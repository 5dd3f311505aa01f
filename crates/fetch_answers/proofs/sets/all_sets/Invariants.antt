-- The sets so far.
use Rattle.std.proofs.Common.{◌≡◌, take, map}
use Rattle.fetch_answers.specs.Answers.{set_of}
use Rattle.fetch_answers.specs.Readings.{reading_of}
use Rattle.fetch_answers.proofs.sets.all_sets.Given as goal

abbrev pub invariant-loop-pmid : goal.invariant-loop-pmid
invariant-loop-pmid l = l.sets ≡ map (set_of (map reading_of l.regions) l.profile) (take l.pmid-index l.pmids)
