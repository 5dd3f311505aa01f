-- The instances so far.
use Rattle.std.proofs.Common.{take}
use Rattle.profile_filter.specs.Lists.{HasListed}
use Rattle.profile_filter.proofs.choices.set_of.Given as goal

abbrev pub invariant-loop-instance : goal.invariant-loop-instance
invariant-loop-instance l = HasListed l.set (take l.instance-index l.instances)
