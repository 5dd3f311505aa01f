-- The domains so far and those that are left are all.
use Rattle.std.proofs.Common.{◌≡◌, ◌++◌, drop}
use Rattle.archive_meta.specs.Missing.{shown_domains}
use Rattle.archive_meta.proofs.missing.shown_domains.Given as goal

abbrev pub invariant-loop-set : goal.invariant-loop-set
invariant-loop-set l = l.keys ++ shown_domains l.metrics (drop l.set-index l.sets) ≡ shown_domains l.metrics l.sets
