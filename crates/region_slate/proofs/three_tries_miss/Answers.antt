use Rattle.std.proofs.Common.{◌+◌, refl, arith}
use Rattle.region_core.specs.State.{opening}
use Rattle.region_core.specs.Readings.{IsAgainBetween}
use Rattle.region_slate.specs.Journals.{one_counter, busy_day}
use Rattle.region_slate.proofs.three_tries_miss.Goals as goal

again_0 : IsAgainBetween (opening one_counter 3) busy_day 0 2 5 6 0 3
again_0 = record { since = omega arith; order = omega arith; opens = refl; closes = refl; first_is = refl; last_is = refl; differ = λ e. omega arith }

again_1 : IsAgainBetween (opening one_counter 3) busy_day (3 + 1) 2 5 6 4 5
again_1 = record { since = omega arith; order = omega arith; opens = refl; closes = refl; first_is = refl; last_is = refl; differ = λ e. omega arith }

again_2 : IsAgainBetween (opening one_counter 3) busy_day (5 + 1) 2 5 6 6 8
again_2 = record { since = omega arith; order = omega arith; opens = refl; closes = refl; first_is = refl; last_is = refl; differ = λ e. omega arith }

pub returns-clause-missed : goal.returns-clause-missed
returns-clause-missed c = (5, 6, 0, 3, again_0, (5, 6, 4, 5, again_1, (5, 6, 6, 8, again_2, tt)))
