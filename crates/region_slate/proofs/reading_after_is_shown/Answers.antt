use Rattle.std.proofs.Common.{rules, zero, suc, [], ◌∷◌, All, refl, arith}
use Rattle.region_slate.specs.Slate.{slate}
use Rattle.region_slate.proofs.SlateLaws.{slate_laws}
use Rattle.region_slate.specs.Journals.{one_counter, whole_day, IsLegalSlate}
use Rattle.region_core.specs.State.{opening}
use Rattle.region_core.specs.Readings.{IsFoundBetween}
use Rattle.region_core.proofs.Positions.{layout_at}
use Rattle.region_slate.proofs.reading_after_is_shown.Goals as goal

legal : IsLegalSlate whole_day
legal = search rules

counter_found : All (IsFoundBetween slate (opening one_counter 3) whole_day 2 9 11) ((3, 9) ∷ [])
counter_found zero d h = (10, omega arith, omega arith, refl, refl)
counter_found (suc k) d h = absurd (omega arith)

pub returns : goal.returns
returns c = (
  9,
  11,
  record {
    since = omega arith;
    order = omega arith;
    opens = refl;
    closes = refl;
    each = counter_found;
    stretch = λ r after before. layout_at slate slate_laws one_counter 3 whole_day legal 9 r 11 after before refl;
  },
)
