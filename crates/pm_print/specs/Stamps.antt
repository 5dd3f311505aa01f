-- A stamp as text, in UTC: `YYYY-MM-DDTHH:MM:SS.uuuuuuZ`.
use Rattle.std.specs.Prelude.{ℕ, zero, suc, ◌+◌, ◌/◌, ◌%◌, List, [], ◌∷◌, ◌++◌}
use Rattle.pcp_base.specs.Time.{Moment}
use Rattle.pm_print.specs.declared.stamps.Day.{Day}
use Rattle.pm_print.specs.Calendar.{day_at}

-- so many decimal digits of a number, the last ones
unfoldable pub digits : ℕ → ℕ → List ℕ
digits zero n = []
digits (suc k) n = digits k (n / 10) ++ (48 + n % 10) ∷ []

unfoldable pub date_text : Day → List ℕ
date_text d = digits 4 d.year ++ (45 ∷ (digits 2 d.month ++ (45 ∷ digits 2 d.day)))

unfoldable pub clock_text : Moment → List ℕ
clock_text t = digits 2 (t.sec / 3600 % 24) ++ (58 ∷ (digits 2 (t.sec / 60 % 60) ++ (58 ∷ (digits 2 (t.sec % 60) ++ (46 ∷ digits 6 t.usec)))))

unfoldable pub stamp_text : Moment → List ℕ
stamp_text t = date_text (day_at (t.sec / 86400)) ++ (84 ∷ (clock_text t ++ 90 ∷ []))
