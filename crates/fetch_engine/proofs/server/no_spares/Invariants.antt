-- A place for each region so far.
use Rattle.std.proofs.Common.{◌≡◌, take}
use Rattle.fetch_engine.specs.Servers.{none_kept}
use Rattle.fetch_engine.proofs.server.no_spares.Given as goal

abbrev pub invariant-loop-row : goal.invariant-loop-row
invariant-loop-row l = l.spares.items ≡ none_kept (take l._row-index l.rows)
