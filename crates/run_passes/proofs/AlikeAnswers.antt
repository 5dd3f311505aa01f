-- Readings that are alike answer alike: a fetch, its facts and the names are those of readings without what no metric shows.
use Rattle.std.proofs.Common.{◌≡◌, ℕ, ℤ, Bool, true, false, List, [], ◌∷◌, ◌++◌, map, fold, Option, Some, None, option_map, if◌then◌else◌, ◌==◌, ap, ap₂, sym, ◌∙◌, refl}
use Rattle.std.specs.List.{AllZip, flat_map}
use Rattle.std.specs.Ordering.{int_cmp, match_ordering}
use Rattle.std.specs.declared.cmp.Ordering.{Ordering}
use Rattle.std.specs.declared.cmp.Ordering.TheVariants.{Less, Equal, Greater}
use Rattle.std.specs.BTreeMap.{insert_entry}
use Rattle.pcp_base.specs.Ids.{item_of}
use Rattle.pcp_base.specs.Time.{Moment}
use Rattle.pcp_base.specs.Typed.{TypedBytes}
use Rattle.pcp_base.specs.declared.desc.Desc.{Desc}
use Rattle.pcp_base.specs.declared.kind.Kind.{Kind}
use Rattle.pcp_base.specs.declared.kind.Kind.TheVariants as kinds
use Rattle.pcp_base.specs.declared.result.ValueSet.{ValueSet}
use Rattle.pmns_core.specs.Pairs.{Pair}
use Rattle.profile_filter.specs.Kept.{Settings}
use Rattle.mmv_layout.specs.declared.rows.Content.{Content}
use Rattle.mmv_layout.specs.declared.rows.Content.TheVariants.{Number, Choice, Raw}
use Rattle.mmv_layout.specs.declared.rows.Layout.{Layout}
use Rattle.mmv_layout.specs.declared.rows.MetricRow.{MetricRow}
use Rattle.mmv_layout.specs.declared.rows.ValueRow.{ValueRow}
use Rattle.fetch_answers.specs.Answers.{is_of, region_of, metric_with, indom_in, metric_body, layout_body, region_body, set_of, answer_of, metric_fact, layout_fact, region_fact, fact_of, layout_instances, region_instances, instances_of, metrics_in, domains_in, domains_of, shown_of, facts_of}
use Rattle.fetch_answers.specs.Names.{with_region, with_layout}
use Rattle.fetch_answers.specs.Readings.{RegionReading}
use Rattle.fetch_answers.specs.Values.{ByInstance, instance_in, with_value, values_with, shown_word, shown_block, words_or_none, blocks_or_none, body_of_values}
use Rattle.fetch_engine.specs.Visits.{names_in}
use Rattle.run_passes.specs.Alike.{LayoutsAlike, ReadAlike, AlikeAnswersAlike}
use Rattle.run_passes.proofs.AlikeRows.{plain, plain_row, plain_layout, say_plain}

abbrev pub plain_reading : RegionReading → RegionReading
plain_reading reading = record { file = reading.file; cluster = reading.cluster; layout = option_map plain_layout reading.layout }

abbrev plain_value : ℤ × Content → ℤ × Content
plain_value value = (value.0, plain value.1)

-- Readings that are alike are the same without it

layouts_plain : (layout other : Option Layout) → LayoutsAlike layout other → option_map plain_layout layout ≡ option_map plain_layout other
layouts_plain None None h = refl
layouts_plain None (Some other) h = absurd h
layouts_plain (Some layout) None h = absurd h
layouts_plain (Some layout) (Some other) h = ap Some (say_plain layout other h)

reading_plain : (reading other : RegionReading) → ReadAlike reading other → plain_reading reading ≡ plain_reading other
reading_plain reading other h =
    let layouts = layouts_plain reading.layout other.layout h.layouts in
    λ i. record { file = h.file i; cluster = h.cluster i; layout = layouts i }

readings_plain : (readings others : List RegionReading) → AllZip ReadAlike readings others → map plain_reading readings ≡ map plain_reading others
readings_plain [] [] h = refl
readings_plain [] (other ∷ others) h = absurd h
readings_plain (reading ∷ readings) [] h = absurd h
readings_plain (reading ∷ readings) (other ∷ others) h = ap₂ (λ (x : RegionReading) (xs : List RegionReading). x ∷ xs) (reading_plain reading other h.0) (readings_plain readings others h.1)

-- Values

insert_plain : (values : ByInstance) (instance : ℤ) (content : Content) → insert_entry int_cmp (map plain_value values) instance (plain content) ≡ map plain_value (insert_entry int_cmp values instance content)
insert_plain [] instance content = refl
insert_plain (value ∷ values) instance content =
    ap (λ (more : ByInstance). match_ordering (int_cmp instance value.0) ((instance, plain content) ∷ plain_value value ∷ map plain_value values) ((value.0, plain content) ∷ map plain_value values) (plain_value value ∷ more)) (insert_plain values instance content)
    ∙ by_order (int_cmp instance value.0)
  where
    by_order : (o : Ordering) → match_ordering o ((instance, plain content) ∷ plain_value value ∷ map plain_value values) ((value.0, plain content) ∷ map plain_value values) (plain_value value ∷ map plain_value (insert_entry int_cmp values instance content))
        ≡ map plain_value (match_ordering o ((instance, content) ∷ value ∷ values) ((value.0, content) ∷ values) (value ∷ insert_entry int_cmp values instance content))
    by_order Less = refl
    by_order Equal = refl
    by_order Greater = refl

with_plain : (item : ℕ) (values : ByInstance) (row : ValueRow) → with_value item (map plain_value values) (plain_row row) ≡ map plain_value (with_value item values row)
with_plain item values row = by_test (row.item == item)
  where
    by_test : (b : Bool) → (if b then insert_entry int_cmp (map plain_value values) (instance_in row) (plain row.content) else map plain_value values) ≡ map plain_value (if b then insert_entry int_cmp values (instance_in row) row.content else values)
    by_test true = insert_plain values (instance_in row) row.content
    by_test false = refl

values_plain : (item : ℕ) (values : ByInstance) (rows : List ValueRow) → fold (with_value item) (map plain_value values) (map plain_row rows) ≡ map plain_value (fold (with_value item) values rows)
values_plain item values [] = refl
values_plain item values (row ∷ rows) =
    ap (λ (more : ByInstance). fold (with_value item) more (map plain_row rows)) (with_plain item values row) ∙ values_plain item (with_value item values row) rows

-- What is stored of them

word_plain : (profile : Settings) (indom : Option ℕ) (instance : ℤ) (content : Content) → shown_word profile indom (instance, plain content) ≡ shown_word profile indom (instance, content)
word_plain profile indom instance (Number n) = refl
word_plain profile indom instance (Choice text) = refl
word_plain profile indom instance (Raw n extra) = refl

words_plain : (profile : Settings) (indom : Option ℕ) (values : ByInstance) → flat_map (shown_word profile indom) (map plain_value values) ≡ flat_map (shown_word profile indom) values
words_plain profile indom [] = refl
words_plain profile indom (value ∷ values) = ap₂ (λ (x y : List (ℤ × ℕ)). x ++ y) (word_plain profile indom value.0 value.1) (words_plain profile indom values)

block_plain : (profile : Settings) (indom : Option ℕ) (code : ℕ) (instance : ℤ) (content : Content) → shown_block profile indom code (instance, plain content) ≡ shown_block profile indom code (instance, content)
block_plain profile indom code instance (Number n) = refl
block_plain profile indom code instance (Choice text) = refl
block_plain profile indom code instance (Raw n extra) = refl

blocks_plain : (profile : Settings) (indom : Option ℕ) (code : ℕ) (values : ByInstance) → flat_map (shown_block profile indom code) (map plain_value values) ≡ flat_map (shown_block profile indom code) values
blocks_plain profile indom code [] = refl
blocks_plain profile indom code (value ∷ values) = ap₂ (λ (x y : List (ℤ × TypedBytes)). x ++ y) (block_plain profile indom code value.0 value.1) (blocks_plain profile indom code values)

stored_plain : (kind : Kind) (profile : Settings) (indom : Option ℕ) (values : ByInstance) → body_of_values kind profile indom (map plain_value values) ≡ body_of_values kind profile indom values
stored_plain kinds.I32 profile indom values = ap words_or_none (words_plain profile indom values)
stored_plain kinds.U32 profile indom values = ap words_or_none (words_plain profile indom values)
stored_plain kinds.I64 profile indom values = ap blocks_or_none (blocks_plain profile indom 2 values)
stored_plain kinds.U64 profile indom values = ap blocks_or_none (blocks_plain profile indom 3 values)
stored_plain kinds.Float profile indom values = refl
stored_plain kinds.Double profile indom values = refl
stored_plain kinds.Text profile indom values = ap blocks_or_none (blocks_plain profile indom 6 values)
stored_plain kinds.Elapsed profile indom values = refl

-- What a region answers

metric_plain : (profile : Settings) (cluster : ℕ) (layout : Layout) (metric : Option MetricRow) → metric_body profile cluster (plain_layout layout) metric ≡ metric_body profile cluster layout metric
metric_plain profile cluster layout None = refl
metric_plain profile cluster layout (Some metric) =
    ap (λ (values : ByInstance). body_of_values metric.kind profile (indom_in cluster metric) values) (values_plain metric.item [] layout.values)
    ∙ stored_plain metric.kind profile (indom_in cluster metric) (values_with metric.item layout.values)

layout_same : (profile : Settings) (cluster pmid : ℕ) (layout : Option Layout) → layout_body profile cluster pmid (option_map plain_layout layout) ≡ layout_body profile cluster pmid layout
layout_same profile cluster pmid None = refl
layout_same profile cluster pmid (Some layout) = metric_plain profile cluster layout (metric_with (item_of pmid) layout.metrics)

body_plain : (profile : Settings) (pmid : ℕ) (region : Option RegionReading) → region_body profile pmid (option_map plain_reading region) ≡ region_body profile pmid region
body_plain profile pmid None = refl
body_plain profile pmid (Some region) = layout_same profile region.cluster pmid region.layout

region_plain : (readings : List RegionReading) (word : ℕ) → region_of (map plain_reading readings) word ≡ option_map plain_reading (region_of readings word)
region_plain [] word = refl
region_plain (reading ∷ readings) word =
    ap (λ (o : Option RegionReading). if is_of word reading then Some (plain_reading reading) else o) (region_plain readings word) ∙ by_test (is_of word reading)
  where
    by_test : (b : Bool) → (if b then Some (plain_reading reading) else option_map plain_reading (region_of readings word)) ≡ option_map plain_reading (if b then Some reading else region_of readings word)
    by_test true = refl
    by_test false = refl

set_plain : (readings : List RegionReading) (profile : Settings) (pmid : ℕ) → set_of (map plain_reading readings) profile pmid ≡ set_of readings profile pmid
set_plain readings profile pmid =
    let body = ap (λ (o : Option RegionReading). region_body profile pmid o) (region_plain readings pmid) ∙ body_plain profile pmid (region_of readings pmid) in
    λ i. record { pmid = pmid; body = body i }

answer_plain : (readings : List RegionReading) (profile : Settings) (pmids : List ℕ) (stamp : Moment) → answer_of (map plain_reading readings) profile pmids stamp ≡ answer_of readings profile pmids stamp
answer_plain readings profile pmids stamp = λ i. record { stamp = stamp; sets = map (λ (pmid : ℕ). set_plain readings profile pmid i) pmids }

-- Facts

layout_told : (cluster : ℕ) (file : List ℕ) (pmid : ℕ) (layout : Option Layout) → layout_fact cluster file pmid (option_map plain_layout layout) ≡ layout_fact cluster file pmid layout
layout_told cluster file pmid None = refl
layout_told cluster file pmid (Some layout) = by_metric (metric_with (item_of pmid) layout.metrics)
  where
    by_metric : (metric : Option MetricRow) → metric_fact cluster file pmid (plain_layout layout) metric ≡ metric_fact cluster file pmid layout metric
    by_metric None = refl
    by_metric (Some metric) = refl

region_told : (pmid : ℕ) (region : Option RegionReading) → region_fact pmid (option_map plain_reading region) ≡ region_fact pmid region
region_told pmid None = refl
region_told pmid (Some region) = layout_told region.cluster region.file pmid region.layout

fact_plain : (readings : List RegionReading) (pmid : ℕ) → fact_of (map plain_reading readings) pmid ≡ fact_of readings pmid
fact_plain readings pmid = ap (λ (o : Option RegionReading). region_fact pmid o) (region_plain readings pmid) ∙ region_told pmid (region_of readings pmid)

metrics_plain : (readings : List RegionReading) (pmids : List ℕ) → metrics_in (map plain_reading readings) pmids ≡ metrics_in readings pmids
metrics_plain readings pmids = λ i. flat_map (λ (pmid : ℕ). fact_plain readings pmid i) pmids

layout_listed : (serial : ℕ) (layout : Option Layout) → layout_instances serial (option_map plain_layout layout) ≡ layout_instances serial layout
layout_listed serial None = refl
layout_listed serial (Some layout) = refl

region_listed : (indom : ℕ) (region : Option RegionReading) → region_instances indom (option_map plain_reading region) ≡ region_instances indom region
region_listed indom None = refl
region_listed indom (Some region) = layout_listed (item_of indom) region.layout

instances_plain : (readings : List RegionReading) (indom : ℕ) → instances_of (map plain_reading readings) indom ≡ instances_of readings indom
instances_plain readings indom = ap (λ (o : Option RegionReading). region_instances indom o) (region_plain readings indom) ∙ region_listed indom (region_of readings indom)

domains_plain : (readings : List RegionReading) (indoms : List ℕ) → domains_in (map plain_reading readings) indoms ≡ domains_in readings indoms
domains_plain readings indoms = λ i. map (λ (indom : ℕ). (indom, instances_plain readings indom i)) indoms

facts_plain : (readings : List RegionReading) (sets : List ValueSet) → facts_of (map plain_reading readings) sets ≡ facts_of readings sets
facts_plain readings sets =
    let metrics = metrics_plain readings (shown_of sets) in
    let domains = ap (λ (facts : List (Desc × List ℕ)). domains_in (map plain_reading readings) (domains_of facts)) metrics ∙ domains_plain readings (domains_of (metrics_in readings (shown_of sets))) in
    λ i. record { metrics = metrics i; domains = domains i }

-- Names

layout_named : (names : List Pair) (cluster : ℕ) (file : List ℕ) (layout : Option Layout) → with_layout names cluster file (option_map plain_layout layout) ≡ with_layout names cluster file layout
layout_named names cluster file None = refl
layout_named names cluster file (Some layout) = refl

names_plain : (names : List Pair) (readings : List RegionReading) → fold with_region names (map plain_reading readings) ≡ fold with_region names readings
names_plain names [] = refl
names_plain names (reading ∷ readings) =
    ap (λ (more : List Pair). fold with_region more (map plain_reading readings)) (layout_named names reading.cluster reading.file reading.layout) ∙ names_plain (with_region names reading) readings

-- The law

pub alike_answers : AlikeAnswersAlike
alike_answers readings others h =
    let same : map plain_reading readings ≡ map plain_reading others = readings_plain readings others h in
    record {
      answers = λ profile pmids stamp.
          sym (answer_plain readings profile pmids stamp) ∙ (ap (λ (l : List RegionReading). answer_of l profile pmids stamp) same ∙ answer_plain others profile pmids stamp);
      facts = λ sets. sym (facts_plain readings sets) ∙ (ap (λ (l : List RegionReading). facts_of l sets) same ∙ facts_plain others sets);
      names = sym (names_plain [] readings) ∙ (ap (λ (l : List RegionReading). names_in l) same ∙ names_plain [] others);
    }
