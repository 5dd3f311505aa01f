-- Each set of an answer can be written: a set with values has one, and a status isn't above 0.
use Rattle.std.proofs.Common.{ℕ, ℤ, List, [], ◌∷◌, map, Option, Some, None, arith}
use Rattle.std.specs.List.{AllByRecursion, flat_map}
use Rattle.pcp_base.specs.Ids.{item_of}
use Rattle.pcp_base.specs.Results.{HasContent, Fits}
use Rattle.pcp_base.specs.Typed.{TypedBytes}
use Rattle.pcp_base.specs.declared.kind.Kind.{Kind}
use Rattle.pcp_base.specs.declared.kind.Kind.TheVariants as kinds
use Rattle.mmv_layout.specs.declared.rows.Layout.{Layout}
use Rattle.mmv_layout.specs.declared.rows.MetricRow.{MetricRow}
use Rattle.profile_filter.specs.Kept.{Settings}
use Rattle.fetch_answers.specs.Answers.{region_of, metric_with, indom_in, region_body, layout_body, metric_body, set_of}
use Rattle.fetch_answers.specs.Readings.{RegionReading}
use Rattle.fetch_answers.specs.Values.{ByInstance, shown_word, shown_block, words_or_none, blocks_or_none, body_of_values, values_with}

some_words : (pairs : List (ℤ × ℕ)) → HasContent (words_or_none pairs)
some_words [] = omega arith
some_words (p ∷ pairs) = omega arith

some_blocks : (pairs : List (ℤ × TypedBytes)) → HasContent (blocks_or_none pairs)
some_blocks [] = omega arith
some_blocks (p ∷ pairs) = omega arith

stored_has : (kind : Kind) (profile : Settings) (indom : Option ℕ) (values : ByInstance) → HasContent (body_of_values kind profile indom values)
stored_has kinds.I32 profile indom values = some_words (flat_map (shown_word profile indom) values)
stored_has kinds.U32 profile indom values = some_words (flat_map (shown_word profile indom) values)
stored_has kinds.I64 profile indom values = some_blocks (flat_map (shown_block profile indom 2) values)
stored_has kinds.U64 profile indom values = some_blocks (flat_map (shown_block profile indom 3) values)
stored_has kinds.Float profile indom values = omega arith
stored_has kinds.Double profile indom values = omega arith
stored_has kinds.Text profile indom values = some_blocks (flat_map (shown_block profile indom 6) values)
stored_has kinds.Elapsed profile indom values = omega arith

metric_has : (profile : Settings) (cluster : ℕ) (layout : Layout) (o : Option MetricRow) → HasContent (metric_body profile cluster layout o)
metric_has profile cluster layout None = omega arith
metric_has profile cluster layout (Some metric) = stored_has metric.kind profile (indom_in cluster metric) (values_with metric.item layout.values)

layout_has : (profile : Settings) (cluster pmid : ℕ) (o : Option Layout) → HasContent (layout_body profile cluster pmid o)
layout_has profile cluster pmid None = omega arith
layout_has profile cluster pmid (Some layout) = metric_has profile cluster layout (metric_with (item_of pmid) layout.metrics)

region_has : (profile : Settings) (pmid : ℕ) (o : Option RegionReading) → HasContent (region_body profile pmid o)
region_has profile pmid None = omega arith
region_has profile pmid (Some region) = layout_has profile region.cluster pmid region.layout

pub sets_fit : (regions : List RegionReading) (profile : Settings) (pmids : List ℕ) → AllByRecursion Fits (map (set_of regions profile) pmids)
sets_fit regions profile [] = tt
sets_fit regions profile (pmid ∷ pmids) = (region_has profile pmid (region_of regions pmid), sets_fit regions profile pmids)
