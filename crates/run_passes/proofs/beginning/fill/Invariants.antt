use Rattle.std.proofs.Common.{◌≡◌, ◌≤◌, length, vec_capacity}
use Rattle.run_passes.specs.Openings.{idle_crew}
use Rattle.run_passes.proofs.beginning.fill.Given as goal

abbrev pub invariant-loop-pass : goal.invariant-loop-pass
invariant-loop-pass l = (l.crew.items ≡ idle_crew l.yielded) × (length l.fn.passes.items ≤ vec_capacity l.crew)
