-- The name space of regions (pmns(5)), and the regions that were missed.
use Rattle.std.specs.Prelude.{ℕ, ◌%◌, ◌==◌, if◌then◌else◌, codes, List, [], ◌∷◌, ◌++◌, map, fold, Option, Some, None, Result, Ok, Err}
use Rattle.pcp_base.specs.Ids.{pmid_word}
use Rattle.mmv_layout.specs.declared.rows.Layout.{Layout}
use Rattle.mmv_layout.specs.declared.rows.MetricRow.{MetricRow}
use Rattle.pmns_core.specs.Pairs.{Pair}
use Rattle.pmns_core.specs.Adding.{after_adding}
use Rattle.pmns_core.specs.declared.fault.NamesFault.{NamesFault}
use Rattle.fetch_answers.specs.Readings.{RegionReading, reading_of}
use Rattle.fetch_answers.specs.declared.shot.Shot.{Shot}

-- the number of a metric or of an instance domain: performance domain 70, then the cluster, then the item or serial
abbrev pub served_word : ℕ → ℕ → ℕ
served_word cluster item = pmid_word 70 cluster item

-- a metric's name is mmv.FILE.NAME, or mmv.NAME with flag 1
abbrev pub front_of : List ℕ → ℕ → List ℕ
front_of file flags = if flags % 2 == 0 then codes "mmv." ++ (file ++ (46 ∷ [])) else codes "mmv."

abbrev pub full_name : List ℕ → ℕ → List ℕ → List ℕ
full_name file flags name = front_of file flags ++ name

-- a metric's name with its number
abbrev pub pair_of : ℕ → List ℕ → ℕ → MetricRow → Pair
pair_of cluster file flags metric = (full_name file flags metric.name, served_word cluster metric.item)

-- the names of a region's metrics
abbrev pub pairs_of : ℕ → List ℕ → Layout → List Pair
pairs_of cluster file layout = map (pair_of cluster file layout.flags) layout.metrics

-- names with those of one region: all of them, or none where one doesn't fit
abbrev pub unless_refused : List Pair → Result (List Pair) NamesFault → List Pair
unless_refused names (Ok more) = more
unless_refused names (Err fault) = names

abbrev pub with_pairs : List Pair → List Pair → List Pair
with_pairs names pairs = unless_refused names (after_adding pairs names)

abbrev pub with_layout : List Pair → ℕ → List ℕ → Option Layout → List Pair
with_layout names cluster file None = names
with_layout names cluster file (Some layout) = with_pairs names (pairs_of cluster file layout)

abbrev pub with_region : List Pair → RegionReading → List Pair
with_region names region = with_layout names region.cluster region.file region.layout

-- the names of regions, one region after another
abbrev pub names_of : List Shot → List Pair
names_of shots = fold (λ names shot. with_region names (reading_of shot)) [] shots

-- the clusters of the regions that were missed, one region after another
abbrev pub with_missed : List ℕ → ℕ → Option Layout → List ℕ
with_missed clusters cluster None = clusters ++ cluster ∷ []
with_missed clusters cluster (Some layout) = clusters

abbrev pub missed_of : List Shot → List ℕ
missed_of shots = fold (λ clusters shot. with_missed clusters (reading_of shot).cluster (reading_of shot).layout) [] shots
