-- The metrics so far.
use Rattle.std.proofs.Common.{take}
use Rattle.fetch_answers.specs.Indexes.{HasPlaces}
use Rattle.fetch_answers.proofs.index.places_by_item.Given as goal

abbrev pub invariant-loop-place : goal.invariant-loop-place
invariant-loop-place l = HasPlaces l.table (take l.place l.rows)
