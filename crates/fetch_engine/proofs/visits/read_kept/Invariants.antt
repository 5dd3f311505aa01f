-- So many tries were refused, and what is kept stays.
use Rattle.std.proofs.Common.{◌≡◌}
use Rattle.std.specs.Prelude.{IfSome}
use Rattle.fetch_engine.specs.Kept.{IsKeptBy}
use Rattle.fetch_engine.proofs.Tries.{HasFailed}
use Rattle.fetch_engine.proofs.visits.read_kept.Given as goal

abbrev pub invariant-loop-tries : goal.invariant-loop-tries
invariant-loop-tries l = record {
  failed : HasFailed l.initial.kept l._tries l.initial.pass l.pass;
  same : l.kept ≡ l.initial.kept;
  kept : IfSome l.kept (IsKeptBy l.pass);
}
