-- The answer of a fetch over regions (pmFetch(3)), and the facts that describe it (pmLookupDesc(3), pmGetInDom(3)).
use Rattle.std.specs.Prelude.{ℕ, ℤ, negsuc, ◌+◌, ◌*◌, ◌/◌, ◌==◌, Bool, if◌then◌else◌, List, [], ◌∷◌, map, fold, find, flat_map, Option, Some, None, option_map, unwrap_or}
use Rattle.std.specs.Ordering.{nat_cmp, int_cmp}
use Rattle.std.specs.BTreeMap.{insert_entry}
use Rattle.std.specs.BTreeSet.{insert_key}
use Rattle.pcp_base.specs.Codes.{code_of_kind, code_of_semantics}
use Rattle.pcp_base.specs.Ids.{item_of, null_indom}
use Rattle.pcp_base.specs.Time.{Moment}
use Rattle.pcp_base.specs.declared.desc.Desc.{Desc}
use Rattle.pcp_base.specs.declared.kind.Kind.{Kind}
use Rattle.pcp_base.specs.declared.kind.Kind.TheVariants as kinds
use Rattle.pcp_base.specs.declared.result.Body.{Body}
use Rattle.pcp_base.specs.declared.result.Body.TheVariants.{Status}
use Rattle.pcp_base.specs.declared.result.PmResult.{PmResult}
use Rattle.pcp_base.specs.declared.result.ValueSet.{ValueSet}
use Rattle.mmv_layout.specs.declared.rows.IndomRow.{IndomRow}
use Rattle.mmv_layout.specs.declared.rows.MetricRow.{MetricRow}
use Rattle.mmv_layout.specs.declared.rows.Layout.{Layout}
use Rattle.profile_filter.specs.Kept.{Settings}
use Rattle.archive_meta.specs.Facts.{has_values}
use Rattle.archive_meta.specs.declared.facts.Facts.{Facts}
use Rattle.fetch_answers.specs.Names.{served_word, full_name}
use Rattle.fetch_answers.specs.Readings.{RegionReading}
use Rattle.fetch_answers.specs.Values.{body_of_values, values_with}

-- the number of a metric or of an instance domain is of the region that is served in its cluster, in domain 70
abbrev pub is_of : ℕ → RegionReading → Bool
is_of word region = word / 1024 == 70 * 4096 + region.cluster

abbrev pub region_of : List RegionReading → ℕ → Option RegionReading
region_of regions word = find (is_of word) regions

-- the metric of an item
abbrev pub metric_with : ℕ → List MetricRow → Option MetricRow
metric_with item metrics = find (λ metric. metric.item == item) metrics

-- the domain of a metric in a cluster
abbrev pub indom_in : ℕ → MetricRow → Option ℕ
indom_in cluster metric = option_map (served_word cluster) metric.serial

-- what a metric shows: no such metric, or its values
abbrev pub metric_body : Settings → ℕ → Layout → Option MetricRow → Body
metric_body profile cluster layout None = Status (negsuc 12357)
metric_body profile cluster layout (Some metric) = body_of_values metric.kind profile (indom_in cluster metric) (values_with metric.item layout.values)

abbrev pub layout_body : Settings → ℕ → ℕ → Option Layout → Body
layout_body profile cluster pmid None = Status (negsuc 12388)
layout_body profile cluster pmid (Some layout) = metric_body profile cluster layout (metric_with (item_of pmid) layout.metrics)

abbrev pub region_body : Settings → ℕ → Option RegionReading → Body
region_body profile pmid None = Status (negsuc 12357)
region_body profile pmid (Some region) = layout_body profile region.cluster pmid region.layout

abbrev pub body_of : List RegionReading → Settings → ℕ → Body
body_of regions profile pmid = region_body profile pmid (region_of regions pmid)

abbrev pub set_of : List RegionReading → Settings → ℕ → ValueSet
set_of regions profile pmid = record { pmid = pmid; body = body_of regions profile pmid }

-- the answer: a set for each metric that was asked for, in the order asked
abbrev pub answer_of : List RegionReading → Settings → List ℕ → Moment → PmResult
answer_of regions profile pmids stamp = record { stamp = stamp; sets = map (set_of regions profile) pmids }

-- The facts: the description of each metric with values, in ascending number, and each of its domains whole

-- an elapsed time is described by the type code 2
abbrev pub code_of : Kind → ℕ
code_of kinds.Elapsed = 2
code_of kind = code_of_kind kind

abbrev pub desc_of : ℕ → ℕ → MetricRow → Desc
desc_of cluster pmid metric = record {
  pmid = pmid;
  code = code_of metric.kind;
  indom = unwrap_or (indom_in cluster metric) null_indom;
  semantics = code_of_semantics metric.semantics;
  units = metric.units;
}

abbrev pub metric_fact : ℕ → List ℕ → ℕ → Layout → Option MetricRow → List (Desc × List ℕ)
metric_fact cluster file pmid layout None = []
metric_fact cluster file pmid layout (Some metric) = (desc_of cluster pmid metric, full_name file layout.flags metric.name) ∷ []

abbrev pub layout_fact : ℕ → List ℕ → ℕ → Option Layout → List (Desc × List ℕ)
layout_fact cluster file pmid None = []
layout_fact cluster file pmid (Some layout) = metric_fact cluster file pmid layout (metric_with (item_of pmid) layout.metrics)

abbrev pub region_fact : ℕ → Option RegionReading → List (Desc × List ℕ)
region_fact pmid None = []
region_fact pmid (Some region) = layout_fact region.cluster region.file pmid region.layout

abbrev pub fact_of : List RegionReading → ℕ → List (Desc × List ℕ)
fact_of regions pmid = region_fact pmid (region_of regions pmid)

-- the metrics of the sets with values, ascending, each once
abbrev pub with_shown : List ℕ → ValueSet → List ℕ
with_shown pmids set = if has_values set.body then insert_key nat_cmp pmids set.pmid else pmids

abbrev pub shown_of : List ValueSet → List ℕ
shown_of sets = fold with_shown [] sets

-- their domains, ascending, each once
abbrev pub with_indom : List ℕ → ℕ → List ℕ
with_indom indoms indom = if indom == null_indom then indoms else insert_key nat_cmp indoms indom

abbrev pub domains_of : List (Desc × List ℕ) → List ℕ
domains_of metrics = fold (λ indoms fact. with_indom indoms fact.0.indom) [] metrics

-- a domain's instances in ascending number
abbrev pub ascending : List (ℤ × List ℕ) → List (ℤ × List ℕ)
ascending instances = fold (λ list one. insert_entry int_cmp list one.0 one.1) [] instances

abbrev pub row_instances : Option IndomRow → List (ℤ × List ℕ)
row_instances None = []
row_instances (Some row) = ascending row.instances

abbrev pub layout_instances : ℕ → Option Layout → List (ℤ × List ℕ)
layout_instances serial None = []
layout_instances serial (Some layout) = row_instances (find (λ row. row.serial == serial) layout.indoms)

abbrev pub region_instances : ℕ → Option RegionReading → List (ℤ × List ℕ)
region_instances indom None = []
region_instances indom (Some region) = layout_instances (item_of indom) region.layout

abbrev pub instances_of : List RegionReading → ℕ → List (ℤ × List ℕ)
instances_of regions indom = region_instances indom (region_of regions indom)

abbrev pub metrics_in : List RegionReading → List ℕ → List (Desc × List ℕ)
metrics_in regions pmids = flat_map (fact_of regions) pmids

abbrev pub domains_in : List RegionReading → List ℕ → List (ℕ × List (ℤ × List ℕ))
domains_in regions indoms = map (λ indom. (indom, instances_of regions indom)) indoms

abbrev pub facts_of : List RegionReading → List ValueSet → Facts
facts_of regions sets = record {
  metrics = metrics_in regions (shown_of sets);
  domains = domains_in regions (domains_of (metrics_in regions (shown_of sets)));
}
