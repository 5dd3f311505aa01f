-- The profiles so far keep every instance.
use Rattle.std.proofs.Common.{◌≡◌}
use Rattle.std.specs.Prelude.{replicate}
use Rattle.pmcd_session.specs.Contexts.{keeps_all}
use Rattle.pmcd_session.proofs.contexts.Contexts.new.Given as goal

abbrev pub invariant-loop : goal.invariant-loop
invariant-loop l = l.profiles.items ≡ replicate l.counter keeps_all
