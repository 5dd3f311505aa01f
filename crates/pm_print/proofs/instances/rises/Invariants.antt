-- The numbers rise up to here.
use Rattle.std.proofs.Common.{◌≡◌, drop}
use Rattle.pm_print.specs.Rising.{rises, rises_above}
use Rattle.pm_print.proofs.instances.rises.Given as goal

abbrev pub invariant-loop-at : goal.invariant-loop-at
invariant-loop-at l = rises l.listed ≡ rises_above l.before (drop l.at l.listed)
