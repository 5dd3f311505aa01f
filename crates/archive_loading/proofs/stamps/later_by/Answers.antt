use Rattle.std.proofs.Common.{Option, Some, sym, subst}
use Rattle.std.specs.Prelude.{option_to_list}
use Rattle.pcp_base.specs.Time.{Moment}
use Rattle.archive_loading.specs.Stamps.{IsLatestOn}
use Rattle.archive_loading.proofs.stamps.later_by.Goals as goal

pub returns-in-Some : goal.returns-in-Some
returns-in-Some c = subst (λ (o : Option Moment). IsLatestOn c.args.last (option_to_list o) (Some c.later.result)) (sym c.in-Some.is) c.later.ensures
