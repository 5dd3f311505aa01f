-- What regions tell of one metric, and of one instance domain (pmLookupDesc(3), pmGetInDom(3)); or else a status: -12358
-- where none of them has the metric, -12359 where none has the domain, -12389 where the region was missed.
use Rattle.std.specs.Prelude.{◌≡◌, ℕ, ℤ, negsuc, ◌==◌, List, find, Option, Some, None, Result, Ok, Err}
use Rattle.pcp_base.specs.Ids.{item_of}
use Rattle.pcp_base.specs.declared.desc.Desc.{Desc}
use Rattle.mmv_layout.specs.declared.rows.IndomRow.{IndomRow}
use Rattle.mmv_layout.specs.declared.rows.Layout.{Layout}
use Rattle.mmv_layout.specs.declared.rows.MetricRow.{MetricRow}
use Rattle.fetch_answers.specs.Answers.{region_of, metric_with, desc_of, ascending}
use Rattle.fetch_answers.specs.Readings.{RegionReading}
use Rattle.fetch_answers.specs.declared.asks.AskFault.{AskFault}
use Rattle.fetch_answers.specs.declared.asks.AskFault.TheVariants.{Status, NoMemory}

abbrev pub metric_asked : ℕ → ℕ → Option MetricRow → Result Desc ℤ
metric_asked cluster pmid None = Err (negsuc 12357)
metric_asked cluster pmid (Some metric) = Ok (desc_of cluster pmid metric)

abbrev pub layout_metric : ℕ → ℕ → Option Layout → Result Desc ℤ
layout_metric cluster pmid None = Err (negsuc 12388)
layout_metric cluster pmid (Some layout) = metric_asked cluster pmid (metric_with (item_of pmid) layout.metrics)

abbrev pub region_metric : ℕ → Option RegionReading → Result Desc ℤ
region_metric pmid None = Err (negsuc 12357)
region_metric pmid (Some region) = layout_metric region.cluster pmid region.layout

-- the description of a metric
abbrev pub desc_asked : List RegionReading → ℕ → Result Desc ℤ
desc_asked regions pmid = region_metric pmid (region_of regions pmid)

abbrev pub row_asked : Option IndomRow → Result (List (ℤ × List ℕ)) ℤ
row_asked None = Err (negsuc 12358)
row_asked (Some row) = Ok (ascending row.instances)

abbrev pub layout_domain : ℕ → Option Layout → Result (List (ℤ × List ℕ)) ℤ
layout_domain serial None = Err (negsuc 12388)
layout_domain serial (Some layout) = row_asked (find (λ row. row.serial == serial) layout.indoms)

abbrev pub region_domain : ℕ → Option RegionReading → Result (List (ℤ × List ℕ)) ℤ
region_domain indom None = Err (negsuc 12358)
region_domain indom (Some region) = layout_domain (item_of indom) region.layout

-- the instances of a domain, in ascending number
abbrev pub instances_asked : List RegionReading → ℕ → Result (List (ℤ × List ℕ)) ℤ
instances_asked regions indom = region_domain indom (region_of regions indom)

-- a call tells what was asked, or its status, unless memory was refused
abbrev pub Tells : {X : Type 0} → Result X AskFault → Result X ℤ → Type 0
Tells (Ok x) asked = asked ≡ Ok x
Tells (Err (Status n)) asked = asked ≡ Err n
Tells (Err NoMemory) asked = Unit {0}

-- what a call told, or its status, has this, unless memory was refused
abbrev pub AnswerHas : {X : Type 0} → Result X AskFault → (Result X ℤ → Type 0) → Type 0
AnswerHas (Ok x) P = P (Ok x)
AnswerHas (Err (Status n)) P = P (Err n)
AnswerHas (Err NoMemory) P = Unit {0}
