use Rattle.std.proofs.Common.{true, ◌∷◌, [], ◌++◌, sym, subst}
use Rattle.std.specs.Prelude.{◌↔◌, IsTrue}
use Rattle.pcp_model.specs.Records.{AreConsistent}
use Rattle.archive_meta.proofs.Consistent.{agrees_domain, agrees_other}
use Rattle.archive_meta.proofs.state.MetaState.agrees.Goals as goal

pub returns-in-Domain : goal.returns-in-Domain
returns-in-Domain c = subst (λ r. IsTrue true ↔ AreConsistent (c.args.self.now ++ r ∷ [])) (sym c.in-Domain.is) (agrees_domain c.args.self.now c.in-Domain.field-0 c.in-Domain.field-1 c.in-Domain.field-2 c.requires)

pub returns-in-Other : goal.returns-in-Other
returns-in-Other c = subst (λ r. IsTrue true ↔ AreConsistent (c.args.self.now ++ r ∷ [])) (sym c.in-Other.is) (agrees_other c.args.self.now c.requires)
