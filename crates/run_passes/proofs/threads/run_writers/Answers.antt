use Rattle.std.proofs.Common.{ℕ, List, sym, subst}
use Rattle.run_passes.specs.Hands.{AreServedAt}
use Rattle.run_passes.proofs.threads.run_writers.Goals as goal

pub write_all-is_well-requires-clause-places : goal.write_all-is_well-requires-clause-places
write_all-is_well-requires-clause-places g c _ _ = subst (λ (l : List ℕ). AreServedAt c.args.script.now c.args.server.now l) (sym c.deref-2.ensures.value) c.in-Ok.ensures
