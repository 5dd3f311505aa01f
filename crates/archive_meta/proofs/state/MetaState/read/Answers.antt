use Rattle.std.proofs.Common.{◌≡◌, ◌++◌, sym, ap, subst, ◌∙◌}
use Rattle.pcp_model.specs.Records.{AreConsistent}
use Rattle.archive_meta.proofs.Frames.{no_room}
use Rattle.archive_meta.proofs.state.MetaState.read.Goals as goal

pub returns-in_err-meta-clause-only : goal.returns-in_err-meta-clause-only
returns-in_err-meta-clause-only c = λ records all consistent. no_room (λ m all. m ≡ all) records c.from_residual.result c.from_residual.ensures.1

pub returns-in-Ok-clause-only : goal.returns-in-Ok-clause-only
returns-in-Ok-clause-only c = λ records all consistent.
    c.in-Ok.ensures.only records all (subst (λ l. AreConsistent (l ++ records)) (sym c.in_ok-meta.ensures) consistent) ∙ ap (λ l. l ++ records) c.in_ok-meta.ensures
