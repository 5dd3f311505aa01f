-- So many days after the first.
use Rattle.std.proofs.Common.{◌≡◌, pos, ◌+ℤ◌, ◌∙◌, arith, w64, to_z, true, false}
use Rattle.std.proofs.lemmas.Int.{to_z_pos}
use Rattle.jiff.specs.Words.{epoch_day, IsEpochDay}
use Rattle.jiff.proofs.SpanFacts.{signed_arith, date_add-days, can_add-days}
use Rattle.pm_print.proofs.Days.{first_day}
use Rattle.pm_print.proofs.stamps.date_of.Goals as goal

pub returns-in-Ok : goal.returns-in-Ok
returns-in-Ok c =
    let first : epoch_day c.date-first.result ≡ pos 0 = first_day c.date-first.result c.date-first.ensures in
    let days : to_z w64 c.args.number ≡ pos c.args.number = to_z_pos w64 c.args.number (omega (arith, c.requires)) in
    c.in-Ok.ensures.value ∙ date_add-days c.date-first.result (to_z w64 c.args.number) c.days.result c.days.ensures ∙ omega (arith, signed_arith, first, days)

pub returns-in-Err : goal.returns-in-Err
returns-in-Err c =
    let first : epoch_day c.date-first.result ≡ pos 0 = first_day c.date-first.result c.date-first.ensures in
    let days : to_z w64 c.args.number ≡ pos c.args.number = to_z_pos w64 c.args.number (omega (arith, c.requires)) in
    let day : IsEpochDay (epoch_day c.date-first.result +ℤ to_z w64 c.args.number) = (omega (arith, signed_arith, first, days), omega (arith, signed_arith, first, days, c.requires)) in
    let done : false ≡ true = c.in-Err.ensures.succeeds.1 ((can_add-days c.date-first.result (to_z w64 c.args.number) c.days.result c.days.ensures).1 day) in
    absurd cc
