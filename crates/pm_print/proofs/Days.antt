-- The civil date of a day number is the one that the calendar has.
use Rattle.std.proofs.Common.{◌≡◌, ℕ, zero, suc, ◌+◌, ◌<◌, ◌≤◌, ℤ, pos, Bool, true, false, cond, nat_lt, refl, sym, ap, ◌∙◌, arith, FitsSigned, to_z, of_z}
use Rattle.std.specs.Prelude.{unsigned_abs}
use Rattle.std.specs.Int.{IsInRange, w8, w16}
use Rattle.std.proofs.lemmas.Int.{to_z-of_z}
use Rattle.std.proofs.lemmas.Bool.{ltb-true, ltb-false}
use Rattle.jiff.specs.Words.{epoch_day, days_in_month, IsYmd}
use Rattle.jiff_core.specs.declared.civil.date.Date.{Date}
use Rattle.jiff_core.specs.Calendar.{days_from_civil}
use Rattle.jiff_core.proofs.SignedLemmas.{signed_arith}
use Rattle.jiff_core.proofs.CalendarLemmas.{days_in_month_bounds, day_count-lt_year, days_from_civil-day_count}
use Rattle.jiff_core.proofs.DateLemmas.{epoch_day_injective, days_from_civil-day, days_from_civil-next_month, days_from_civil-next_year, days_from_civil-max}
use Rattle.jiff_core.proofs.StandardFacts.{known_days}
use Rattle.pm_print.specs.declared.stamps.Day.{Day}
use Rattle.pm_print.specs.Calendar.{next_day, day_at}

-- a date of the calendar, with its day number
record IsDay (n : ℕ) (d : Day) : Type 0 where
  pub month : IsInRange 1 12 d.month
  pub day : IsInRange 1 (days_in_month (pos d.year) d.month) d.day
  pub number : days_from_civil (pos d.year) d.month d.day ≡ pos n

next_in_month : (n : ℕ) (d : Day) → IsDay n d → d.day < days_in_month (pos d.year) d.month → IsDay (suc n) record { year = d.year; month = d.month; day = suc d.day }
next_in_month n d h more =
    let e = days_from_civil-day (pos d.year) d.month d.day (suc d.day) h.day.0 (omega arith) in
    record {
      month = h.month;
      day = (omega arith, omega arith);
      number = omega (arith, signed_arith, e, h.number);
    }

next_in_year : (n : ℕ) (d : Day) → IsDay n d → days_in_month (pos d.year) d.month ≤ d.day → d.month < 12 → IsDay (suc n) record { year = d.year; month = suc d.month; day = 1 }
next_in_year n d h last more =
    let same : d.day ≡ days_in_month (pos d.year) d.month = omega (arith, h.day.1) in
    let next : suc d.month ≡ d.month + 1 = omega arith in
    let e = days_from_civil-next_month (pos d.year) d.month d.day h.month.0 same in
    record {
      month = (omega arith, omega arith);
      day = (omega arith, omega (arith, days_in_month_bounds (pos d.year) (suc d.month)));
      number = ap (λ m. days_from_civil (pos d.year) m 1) next ∙ omega (arith, signed_arith, e, h.number);
    }

december : (y : ℤ) → days_in_month y 12 ≡ 31
december y = refl

january : (y : ℤ) → days_in_month y 1 ≡ 31
january y = refl

next_year : (n : ℕ) (d : Day) → IsDay n d → days_in_month (pos d.year) d.month ≤ d.day → 12 ≤ d.month → IsDay (suc n) record { year = suc d.year; month = 1; day = 1 }
next_year n d h last end =
    let twelve : d.month ≡ 12 = omega (arith, h.month.1) in
    let long : days_in_month (pos d.year) d.month ≡ 31 = ap (days_in_month (pos d.year)) twelve ∙ december (pos d.year) in
    let same : d.day ≡ 31 = omega (arith, h.day.1, long) in
    let before : days_from_civil (pos d.year) 12 31 ≡ pos n = ap (λ m. days_from_civil (pos d.year) m 31) (sym twelve) ∙ ap (λ k. days_from_civil (pos d.year) d.month k) (sym same) ∙ h.number in
    let e = days_from_civil-next_year (pos d.year) (pos (suc d.year)) (omega (arith, signed_arith)) (omega (arith, signed_arith)) in
    record {
      month = (omega arith, omega arith);
      day = (omega arith, omega (arith, days_in_month_bounds (pos (suc d.year)) 1));
      number = omega (arith, signed_arith, e, before);
    }

next : (n : ℕ) (d : Day) → IsDay n d → IsDay (suc n) (next_day d)
unfolding next_day
next n d h = by (nat_lt d.day (days_in_month (pos d.year) d.month)) refl
  where
    later : (q : Bool) → nat_lt d.month 12 ≡ q → days_in_month (pos d.year) d.month ≤ d.day
        → IsDay (suc n) (cond q (record { year = d.year; month = suc d.month; day = 1 }) (record { year = suc d.year; month = 1; day = 1 }))
    later true e last = next_in_year n d h last (ltb-true d.month 12 e)
    later false e last = next_year n d h last (ltb-false d.month 12 e)

    by : (q : Bool) → nat_lt d.day (days_in_month (pos d.year) d.month) ≡ q
        → IsDay (suc n) (cond q (record { year = d.year; month = d.month; day = suc d.day }) (cond (nat_lt d.month 12) (record { year = d.year; month = suc d.month; day = 1 }) (record { year = suc d.year; month = 1; day = 1 })))
    by true e = next_in_month n d h (ltb-true d.day (days_in_month (pos d.year) d.month) e)
    by false e = later (nat_lt d.month 12) refl (ltb-false d.day (days_in_month (pos d.year) d.month) e)

is_day : (n : ℕ) → IsDay n (day_at n)
unfolding day_at
is_day zero = record { month = (omega arith, omega arith); day = (omega arith, omega (arith, days_in_month_bounds (pos 1970) 1)); number = known_days.0 }
is_day (suc n) = next n (day_at n) (is_day n)

-- no day of a stamp is behind the year 9999
year_small : (n : ℕ) (d : Day) → IsDay n d → n < 24856 → d.year ≤ 9999
year_small n d h few = by (nat_lt 9999 d.year) refl
  where
    by : (q : Bool) → nat_lt 9999 d.year ≡ q → d.year ≤ 9999
    by false e = ltb-false 9999 d.year e
    by true e =
        let above : 9999 < d.year = ltb-true 9999 d.year e in
        let far = day_count-lt_year (pos 9999) 12 31 (pos d.year) d.month d.day ((omega (arith, signed_arith), omega (arith, signed_arith)), (omega arith, omega arith), (omega arith, omega arith)) h.day.0 (omega (arith, signed_arith)) in
        absurd (omega (arith, signed_arith, far, days_from_civil-day_count (pos 9999) 12 31, days_from_civil-day_count (pos d.year) d.month d.day, days_from_civil-max, h.number))

pub record IsSameDay (date : Date) (d : Day) : Type 0 where
  pub year : date.year ≡ pos d.year
  pub month : date.month ≡ d.month
  pub day : date.day ≡ d.day

pub same_day : (n : ℕ) (date : Date) → n < 24856 → epoch_day date ≡ pos n → IsSameDay date (day_at n)
same_day n date few e =
    let d : Day = day_at n in
    let h : IsDay n d = is_day n in
    let small : d.year ≤ 9999 = year_small n d h few in
    let mine : Date = record { year = pos d.year; month = d.month; day = d.day; year_in = (omega (arith, signed_arith), omega (arith, signed_arith)); month_in = h.month; day_in = h.day } in
    let same = epoch_day_injective date mine (e ∙ sym h.number) in
    record { year = same.0; month = same.1; day = same.2 }

pub first_day : (date : Date) → IsYmd (pos 1970) (pos 1) (pos 1) date → epoch_day date ≡ pos 0
first_day date h =
    let month : date.month ≡ 1 = omega (arith, signed_arith, h.1) in
    let day : date.day ≡ 1 = omega (arith, signed_arith, h.2) in
    ap (λ (y : ℤ). days_from_civil y date.month date.day) h.0 ∙ ap (λ m. days_from_civil (pos 1970) m date.day) month ∙ ap (λ k. days_from_civil (pos 1970) 1 k) day ∙ known_days.0

-- the numbers that a date gives are the day's
pub is_day_of : (n : ℕ) (date : Date) → n < 24856 → epoch_day date ≡ pos n → (y m k : ℕ) (year month day : ℤ) → y ≡ unsigned_abs (to_z w16 (of_z w16 year)) → m ≡ unsigned_abs (to_z w8 (of_z w8 month)) → k ≡ unsigned_abs (to_z w8 (of_z w8 day))
    → year ≡ date.year → month ≡ pos date.month → day ≡ pos date.day → (record { year = y; month = m; day = k }) ≡ day_at n
is_day_of n date few e y m k year month day ys ms ks year_is month_is day_is =
    let same : IsSameDay date (day_at n) = same_day n date few e in
    let small : (day_at n).year ≤ 9999 = year_small n (day_at n) (is_day n) few in
    let year_fits : FitsSigned w16 year = omega (arith, signed_arith, year_is, same.year, small) in
    let month_fits : FitsSigned w8 month = omega (arith, signed_arith, month_is, date.month_in.1) in
    let day_fits : FitsSigned w8 day = omega (arith, signed_arith, day_is, date.day_in.1, days_in_month_bounds date.year date.month) in
    let y_is : y ≡ (day_at n).year = ys ∙ ap unsigned_abs (to_z-of_z w16 year year_fits ∙ year_is ∙ same.year) in
    let m_is : m ≡ (day_at n).month = ms ∙ ap unsigned_abs (to_z-of_z w8 month month_fits ∙ month_is) ∙ same.month in
    let k_is : k ≡ (day_at n).day = ks ∙ ap unsigned_abs (to_z-of_z w8 day day_fits ∙ day_is) ∙ same.day in
    rw (y_is, m_is, k_is) refl
