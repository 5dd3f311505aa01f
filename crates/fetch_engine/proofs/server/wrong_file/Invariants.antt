-- No wrong one stands before the place.
use Rattle.std.proofs.Common.{◌≡◌, [], take, drop}
use Rattle.fetch_engine.specs.Servers.{wrong_file}
use Rattle.fetch_engine.proofs.server.wrong_file.Given as goal

abbrev pub invariant-loop-at : goal.invariant-loop-at
invariant-loop-at l = wrong_file [] l.rows ≡ wrong_file (take l.at l.rows) (drop l.at l.rows)
