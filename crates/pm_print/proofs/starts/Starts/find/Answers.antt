-- What is found there is said.
use Rattle.std.proofs.Common.{List, sym, subst}
use Rattle.pm_print.specs.declared.starts.Start.{Start}
use Rattle.pm_print.specs.Starts.{AreSaid}
use Rattle.pm_print.proofs.starts.Starts.find.Goals as goal

pub returns-in-Some-clause-said : goal.returns-in-Some-clause-said
returns-in-Some-clause-said c = λ records said. c.in-Some.ensures.said records (subst (λ (l : List Start). AreSaid records l) (sym c.deref.ensures.value) said)

pub returns-in-Some-get-clause-said : goal.returns-in-Some-get-clause-said
returns-in-Some-get-clause-said c = λ records said. c.start_at-in-Some-get.ensures.said records (subst (λ (l : List Start). AreSaid records l) (sym c.deref-in-Some-get.ensures.value) said)
