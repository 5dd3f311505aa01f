-- The domains up to here hold.
use Rattle.std.proofs.Common.{drop}
use Rattle.std.specs.List.{AllByRecursion}
use Rattle.pcp_model.specs.Described.{HoldsAt}
use Rattle.archive_meta.proofs.state.MetaState.hold_all.Given as goal

abbrev pub invariant-loop-indom : goal.invariant-loop-indom
invariant-loop-indom l = AllByRecursion (λ d. HoldsAt l.self d.0 l.t d.1) (drop l.indom-index l.domains) → AllByRecursion (λ d. HoldsAt l.self d.0 l.t d.1) l.domains
