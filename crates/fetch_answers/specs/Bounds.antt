-- Bounds of what an image says: items and serials have 10 bits, and a text is no longer than its string.
use Rattle.std.specs.Prelude.{ℕ, ◌<◌, ◌≤◌, Option, None, Some, length, All}
use Rattle.mmv_layout.specs.declared.rows.Content.{Content}
use Rattle.mmv_layout.specs.declared.rows.Content.TheVariants.{Number, Choice, Raw}
use Rattle.mmv_layout.specs.declared.rows.Layout.{Layout}
use Rattle.mmv_layout.specs.declared.rows.MetricRow.{MetricRow}

abbrev pub FitsSerial : Option ℕ → Type 0
FitsSerial None = Unit {0}
FitsSerial (Some serial) = serial < 1024

pub record FitsMetric (metric : MetricRow) : Type 0 where
  pub item : metric.item < 1024
  pub serial : FitsSerial metric.serial

abbrev pub FitsContent : Content → Type 0
FitsContent (Number n) = Unit {0}
FitsContent (Choice text) = length text ≤ 256
FitsContent (Raw n extra) = Unit {0}

pub record IsBounded (layout : Layout) : Type 0 where
  pub metrics : All FitsMetric layout.metrics
  pub values : All (λ row. FitsContent row.content) layout.values
