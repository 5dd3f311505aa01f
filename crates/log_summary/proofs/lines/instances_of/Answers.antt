-- What holds of the domain is what is found.
use Rattle.std.proofs.Common.{◌≡◌, ℕ, List, [], sym, ap, ◌∙◌, Option, Some, None}
use Rattle.std.specs.Option.{unwrap_or, MatchOption}
use Rattle.pcp_base.specs.Time.{Moment}
use Rattle.pcp_model.specs.declared.records.MetaRecord.{MetaRecord}
use Rattle.pcp_model.specs.Described.{HoldsAt}
use Rattle.pm_print.specs.Holding.{Pairs, holding, pairs_or_none, instances_at}
use Rattle.pm_print.proofs.Held.{held_is_found, nothing_held}
use Rattle.log_summary.proofs.lines.instances_of.Goals as goal

held : (records : List MetaRecord) (indom : ℕ) (t : Moment) (o : Option Pairs) → MatchOption o ((pairs : Pairs) → HoldsAt records indom t pairs → ⊥) (HoldsAt records indom t)
    → unwrap_or o [] ≡ pairs_or_none (holding records indom t)
held records indom t None none = sym (nothing_held indom t records none)
held records indom t (Some pairs) holds = sym (held_is_found indom t records pairs holds)

pub returns-in-Some : goal.returns-in-Some
returns-in-Some c = held c.args.meta.now c.in-Some.desc.now.indom c.args.stamp _ c.domain_at.ensures ∙ ap (λ d. instances_at c.args.meta.now d c.args.stamp) c.in-Some.ensures
