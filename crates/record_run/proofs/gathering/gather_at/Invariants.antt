-- The passes so far are ended; those, and those that are left, are all.
use Rattle.std.specs.Prelude.{◌≡◌, ◌++◌}
use Rattle.std.specs.Vec.Iter.{into_iter_items}
use Rattle.fetch_engine.specs.Servers.{IsSeated}
use Rattle.record_run.proofs.Joined.{GathersAt}
use Rattle.record_run.proofs.gathering.gather_at.Given as goal

abbrev pub invariant-loop-pass : goal.invariant-loop-pass
invariant-loop-pass l = IsSeated l.server l.seat.tokens × (l.fn.passes.items ≡ l.yielded ++ into_iter_items l.pass-iterator) × GathersAt l.at l.fn.seat.tokens l.yielded l.seat.tokens
