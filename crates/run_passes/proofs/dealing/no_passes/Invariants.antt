-- So many places so far.
use Rattle.std.specs.Prelude.{◌≡◌, None, replicate}
use Rattle.run_passes.proofs.dealing.no_passes.Given as goal

abbrev pub invariant-loop : goal.invariant-loop
invariant-loop l = l.passes.items ≡ replicate l.counter None
