-- Civil dates, day by day from 1970-01-01 on.
use Rattle.std.specs.Prelude.{ℕ, zero, suc, pos, nat_lt, if◌then◌else◌}
use Rattle.jiff.specs.Words.{days_in_month}
use Rattle.pm_print.specs.declared.stamps.Day.{Day}

-- the day after another one
unfoldable pub next_day : Day → Day
next_day d =
    if nat_lt d.day (days_in_month (pos d.year) d.month) then record { year = d.year; month = d.month; day = suc d.day } else
    if nat_lt d.month 12 then record { year = d.year; month = suc d.month; day = 1 } else record { year = suc d.year; month = 1; day = 1 }

-- the day so many days after 1970-01-01
unfoldable pub day_at : ℕ → Day
day_at zero = record { year = 1970; month = 1; day = 1 }
day_at (suc n) = next_day (day_at n)
