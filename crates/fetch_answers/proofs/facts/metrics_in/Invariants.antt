-- The facts so far and those of the metrics that are left are all.
use Rattle.std.proofs.Common.{◌≡◌, ◌++◌, map}
use Rattle.std.specs.List.{flat_map}
use Rattle.fetch_answers.specs.Answers.{fact_of}
use Rattle.fetch_answers.specs.Readings.{reading_of}
use Rattle.fetch_answers.proofs.facts.metrics_in.Given as goal

abbrev pub invariant-loop-pmid : goal.invariant-loop-pmid
invariant-loop-pmid l = l.metrics ++ flat_map (fact_of (map reading_of l.regions)) l.pmid-iterator ≡ flat_map (fact_of (map reading_of l.regions)) l.pmids.keys
