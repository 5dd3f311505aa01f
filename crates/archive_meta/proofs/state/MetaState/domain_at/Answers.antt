use Rattle.std.proofs.Common.{ℕ, ℤ, List, subst}
use Rattle.std.specs.Prelude.{MatchOption}
use Rattle.std.specs.Option.{option_copied}
use Rattle.pcp_model.specs.Described.{HoldsAt}
use Rattle.archive_meta.proofs.Woven.{holds_told}
use Rattle.archive_meta.proofs.state.MetaState.domain_at.Goals as goal

pub returns : goal.returns
returns c =
    subst (λ l. MatchOption (option_copied c.domain_at.result) ((pairs : List (ℤ × List ℕ)) → HoldsAt l c.args.indom c.args.t pairs → ⊥) (HoldsAt l c.args.indom c.args.t)) c.self.view_is
    (holds_told c.self.inside.marks c.self.inside.records c.args.indom c.args.t c.self.invariant.marked (option_copied c.domain_at.result) c.domain_at.ensures)
