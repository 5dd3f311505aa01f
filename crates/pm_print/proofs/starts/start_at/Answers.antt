-- All are said, and so is the one that is found.
use Rattle.std.proofs.Common.{length, sym, subst}
use Rattle.std.proofs.lemmas.Bool.{ltb-true}
use Rattle.std.proofs.lemmas.List.Elements.{All-get_or}
use Rattle.pm_print.specs.Starts.{IsSaid}
use Rattle.pm_print.proofs.starts.start_at.Goals as goal

pub returns-then-eq-clause-said : goal.returns-then-eq-clause-said
returns-then-eq-clause-said c = λ records said.
    let found = c.in-Some.ensures.lookup in
    subst (IsSaid records) (sym found.1) (All-get_or (IsSaid records) c.args.list.now c.args.place c.in-Some.start.now (ltb-true c.args.place (length c.args.list.now) (sym found.0)) said)
