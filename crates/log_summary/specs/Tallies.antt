-- What numbers come to: how many, the least, the greatest, their sum, and the moment of the last.
use Rattle.std.specs.Prelude.{ℤ, ◌+◌, ◌-◌, ◌^◌, ◌+ℤ◌, min}
use Rattle.std.specs.Int.{w128, int_min, int_max, int_wrap}
use Rattle.pcp_base.specs.Time.{Moment}
use Rattle.log_summary.specs.declared.tally.Tally.{Tally}

-- a number alone
abbrev pub single : ℤ → Moment → Tally
single n t = record { count = 1; least = n; greatest = n; sum = int_wrap w128 n; last = t }

-- of numbers and others behind them: the counts and the sums add up, least and greatest are those of both
abbrev pub joined : Tally → Tally → Tally
joined a b = record {
  count = min (a.count + b.count) (2 ^ 64 - 1);
  least = int_min a.least b.least;
  greatest = int_max a.greatest b.greatest;
  sum = int_wrap w128 (a.sum +ℤ b.sum);
  last = b.last;
}
