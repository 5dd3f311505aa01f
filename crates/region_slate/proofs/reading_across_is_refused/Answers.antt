use Rattle.std.proofs.Common.{refl, arith}
use Rattle.region_slate.proofs.reading_across_is_refused.Goals as goal

pub returns : goal.returns
returns c = (0, 8, record { since = omega arith; order = omega arith; opens = refl; closes = refl; first_is = refl; last_is = refl; differ = λ e. omega arith })
