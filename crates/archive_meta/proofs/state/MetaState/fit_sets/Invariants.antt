-- The sets up to here fit.
use Rattle.std.proofs.Common.{drop}
use Rattle.archive_meta.specs.declared.facts.Changed.{Changed}
use Rattle.archive_meta.specs.Facts.{FitSets, IsFirstChange}
use Rattle.archive_meta.proofs.state.MetaState.fit_sets.Given as goal

abbrev pub invariant-loop-set : goal.invariant-loop-set
invariant-loop-set l = let rest = drop l.set-index l.sets in record {
  all : FitSets l.self l.metrics rest → FitSets l.self l.metrics l.sets;
  first : (e : Changed) → IsFirstChange l.self l.metrics rest e → IsFirstChange l.self l.metrics l.sets e;
}
