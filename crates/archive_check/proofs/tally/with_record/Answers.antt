use Rattle.std.proofs.Common.{[], ◌∷◌, ◌++◌, Some, refl, sym, subst}
use Rattle.std.specs.Prelude.{option_to_list}
use Rattle.archive_check.specs.declared.tally.Tally.{Tally}
use Rattle.archive_check.specs.Tallies.{IsTally}
use Rattle.archive_check.proofs.Tallied.{one_stamped, one_unstamped}
use Rattle.archive_check.proofs.tally.with_record.Goals as goal

pub returns-in-Some : goal.returns-in-Some
returns-in-Some c = λ records is.
    let t : Tally = record { count = c.saturating_add-count.result; time = c.later_time.result; last = Some c.in-Some.stamp; fall = c.fall_with.result } in
    subst (λ o. IsTally (records ++ option_to_list o ∷ []) t) (sym c.in-Some.is) (one_stamped records c.args.tally t is c.saturating_add-count.ensures c.in-Some.stamp c.later_time.ensures refl c.fall_with.ensures)

pub returns-in-None : goal.returns-in-None
returns-in-None c = λ records is.
    let t : Tally = record { count = c.saturating_add-count.result; time = c.args.tally.time; last = c.args.tally.last; fall = c.args.tally.fall } in
    subst (λ o. IsTally (records ++ option_to_list o ∷ []) t) (sym c.in-None.is) (one_unstamped records c.args.tally t is c.saturating_add-count.ensures refl refl refl)
