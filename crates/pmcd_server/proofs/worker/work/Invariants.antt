use Rattle.std.proofs.Common.{◌≡◌, ℕ, List, [], length}
use Rattle.fetch_engine.specs.Servers.{IsSeated}
use Rattle.pmcd_server.specs.Turns.{Turn}
use Rattle.pmcd_server.specs.Works.{Drew, Nowhere, WorksOn}
use Rattle.pmcd_server.proofs.worker.work.Given as goal

-- so far a place was drawn in each round, and a rows served for it
abbrev pub invariant-loop : goal.invariant-loop
invariant-loop g l = record {
  seated : IsSeated l.server l.seat.tokens;
  given : List ℕ;
  turns : List Turn;
  worked : WorksOn l.server g.P.Door l.count l.fn.seat l.fn.door given turns Nowhere l.seat l.door;
  drew : Drew l.count given [] l.fn.drawer l.drawer;
  many : length given ≡ l.counter;
}
