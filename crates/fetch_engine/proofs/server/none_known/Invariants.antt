-- So many regions, of which nothing is known.
use Rattle.fetch_engine.specs.Kept.{AreUnknown}
use Rattle.fetch_engine.proofs.server.none_known.Given as goal

abbrev pub invariant-loop-row : goal.invariant-loop-row
invariant-loop-row l = AreUnknown l.row-index l.known.items
