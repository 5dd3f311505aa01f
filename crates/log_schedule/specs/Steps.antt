-- A number's multiples from a start on.
use Rattle.std.specs.Prelude.{◌≡◌, ℕ, ◌+◌, ◌*◌, ◌≤◌}

-- the least of start, start + period, start + 2 * period, .. that is not below from
pub record IsFirstStep (start period from found : ℕ) : Type 0 where
  pub count : ℕ
  pub step : found ≡ start + count * period
  pub not_below : from ≤ found
  pub least : (k : ℕ) → from ≤ start + k * period → found ≤ start + k * period
