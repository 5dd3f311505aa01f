-- As many sets are answered as metrics are asked for.
use Rattle.std.proofs.Common.{◌≡◌, List, [], ◌∷◌, length, map, refl, arith, ℕ}
use Rattle.fetch_answers.specs.Answers.{set_of}
use Rattle.fetch_answers.specs.Readings.{RegionReading}
use Rattle.script_runs.specs.Steps.{every_instance}

pub many : (regions : List RegionReading) (pmids : List ℕ) → length (map (set_of regions every_instance) pmids) ≡ length pmids
many regions [] = refl
many regions (pmid ∷ pmids) = let more : length (map (set_of regions every_instance) pmids) ≡ length pmids = many regions pmids in omega arith
