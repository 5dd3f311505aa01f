-- The lists so far are ended, and have no pass any more; the others are as they were.
use Rattle.std.specs.Prelude.{◌≡◌, length}
use Rattle.fetch_engine.specs.Servers.{IsSeated}
use Rattle.record_run.proofs.Joined.{GathersUpTo}
use Rattle.record_run.proofs.gathering.gather_all.Given as goal

abbrev pub invariant-loop-at : goal.invariant-loop-at
invariant-loop-at l =
    IsSeated l.server l.seat.tokens × (l.at-end ≡ length l.fn.passes.items) × GathersUpTo l.at l.fn.passes.items l.passes.items l.fn.seat.tokens l.seat.tokens
