-- No wrong one stands before the place.
use Rattle.std.proofs.Common.{◌≡◌, [], take, drop}
use Rattle.fetch_engine.specs.Servers.{wrong_cluster}
use Rattle.fetch_engine.proofs.server.wrong_cluster.Given as goal

abbrev pub invariant-loop-at : goal.invariant-loop-at
invariant-loop-at l = wrong_cluster [] l.rows ≡ wrong_cluster (take l.at l.rows) (drop l.at l.rows)
