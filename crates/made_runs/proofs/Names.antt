-- The names of the regions lead to few numbers.
use Rattle.std.specs.List.{AllByRecursion as Each}
use Rattle.std.proofs.Common.{◌≡◌, ℕ, ◌==◌, Bool, true, false, nat_lt, List, [], ◌∷◌, Result, Ok, Err, Option, Some, None, option_map, fold, refl, sym, ◌∙◌, subst}
use Rattle.std.specs.Prelude.{if◌then◌else◌}
use Rattle.mmv_layout.specs.Rows.{layout_of, metrics_of}
use Rattle.mmv_layout.specs.declared.rows.Layout.{Layout}
use Rattle.mmv_layout.specs.declared.rows.MetricRow.{MetricRow}
use Rattle.region_core.specs.State.{g1, g2}
use Rattle.pmns_core.specs.Pairs.{Pair}
use Rattle.pmns_core.specs.Adding.{after_adding}
use Rattle.pmns_core.specs.declared.fault.NamesFault.{NamesFault}
use Rattle.fetch_answers.specs.declared.shot.Shot.{Shot}
use Rattle.fetch_answers.specs.Names.{names_of, pair_of, pairs_of, served_word, unless_refused, with_layout, with_region}
use Rattle.fetch_answers.specs.Readings.{reading_of}
use Rattle.script_runs.specs.Regions.{Doing, ScriptRegion}
use Rattle.script_runs.specs.Groups.{shot_of, shots_of, with_shot}
use Rattle.made_runs.proofs.Asked.{AreKnown, IsKnown, KnownOk, each_mapped, known_added}
use Rattle.made_runs.proofs.Images.{IsMade, first_is, image_of, second_is, third_is}
use Rattle.made_runs.proofs.Holding.{metrics_same}
use Rattle.made_runs.proofs.Standing.{AllStand, Stands, at_work}

-- the metrics of a layout have known numbers in its cluster
abbrev pub KnownLayout : ℕ → Option Layout → Type 0
KnownLayout cluster None = Unit {0}
KnownLayout cluster (Some layout) = Each (λ metric. IsKnown (served_word cluster metric.item)) layout.metrics

-- so those of what is read of a region
abbrev pub KnownShot : Shot → Type 0
KnownShot shot = KnownLayout shot.cluster (option_map layout_of shot.image)

-- a layout that words say has their metrics
metrics_in_layout : (words : List ℕ) → (layout_of words).metrics ≡ metrics_of words
unfolding layout_of
metrics_in_layout words = refl

-- its items are among the known ones
abbrev InCluster : List MetricRow → ℕ → Type 0
InCluster metrics cluster = Each (λ metric. IsKnown (served_word cluster metric.item)) metrics

-- each region says such a layout, or is missed
region_known : (gate : ℕ) (doing : List Doing) (cluster : ℕ) (image : List ℕ) (most : ℕ) (r : ScriptRegion) → IsMade cluster image → Stands gate doing cluster image most r → KnownShot (shot_of r)
region_known gate doing cluster image most r made s = by_test (g1 r.state == g2 r.state)
  where
    by_test : (b : Bool) → KnownLayout r.cluster (option_map layout_of (if b then Some r.state.words else None))
    by_test true =
        subst (InCluster (layout_of r.state.words).metrics) (sym s.cluster_is)
        (subst (λ (metrics : List MetricRow). InCluster metrics cluster) (sym (metrics_in_layout r.state.words ∙ metrics_same r.state.words image s.contents.form)) made.known)
    by_test false = tt

-- in the order of clusters too
known_with_shot : (shot : Shot) (shots : List Shot) → KnownShot shot → Each KnownShot shots → Each KnownShot (with_shot shot shots)
known_with_shot shot [] is h = (is, tt)
known_with_shot shot (other ∷ others) is h = by_test (nat_lt shot.cluster other.cluster) (known_with_shot shot others is h.1)
  where
    by_test : (b : Bool) → Each KnownShot (with_shot shot others) → Each KnownShot (if b then shot ∷ other ∷ others else other ∷ with_shot shot others)
    by_test true rest = (is, h)
    by_test false rest = (h.0, rest)

known_shots : (rs : List ScriptRegion) → Each (λ r. KnownShot (shot_of r)) rs → Each KnownShot (shots_of rs)
known_shots [] h = tt
known_shots (r ∷ rs) h = known_with_shot (shot_of r) (shots_of rs) h.0 (known_shots rs h.1)

-- so all names lead to known numbers
unless_known : (names : List Pair) (result : Result (List Pair) NamesFault) → AreKnown names → KnownOk result → AreKnown (unless_refused names result)
unless_known names (Ok more) h k = k
unless_known names (Err fault) h k = h

known_layout : (names : List Pair) (cluster : ℕ) (file : List ℕ) (layout : Option Layout) → AreKnown names → KnownLayout cluster layout → AreKnown (with_layout names cluster file layout)
known_layout names cluster file None h k = h
known_layout names cluster file (Some layout) h k =
    unless_known names (after_adding (pairs_of cluster file layout) names) h
    (known_added (pairs_of cluster file layout) names (each_mapped (λ (pair : Pair). IsKnown pair.1) (pair_of cluster file layout.flags) layout.metrics k) h)

known_names : (names : List Pair) (shots : List Shot) → AreKnown names → Each KnownShot shots → AreKnown (fold (λ names shot. with_region names (reading_of shot)) names shots)
known_names names [] h k = h
known_names names (shot ∷ shots) h k = known_names (with_region names (reading_of shot)) shots (known_layout names shot.cluster shot.file (option_map layout_of shot.image) h k.0) k.1

-- those of the three regions
pub all_served : (most : ℕ) (rs : List ScriptRegion) → AllStand 4 at_work most rs → AreKnown (names_of (shots_of rs))
all_served most (a ∷ b ∷ c ∷ []) h =
    known_names [] (shots_of (a ∷ b ∷ c ∷ [])) tt (known_shots (a ∷ b ∷ c ∷ []) (
      region_known 4 at_work 1 (image_of 1 h.0.0) most a (first_is h.0.0) h.0.1,
      (region_known 4 at_work 2 (image_of 2 false) most b second_is h.1, (region_known 4 at_work 3 (image_of 3 false) most c third_is h.2, tt)),
    ))
all_served most [] h = absurd h
all_served most (a ∷ []) h = absurd h
all_served most (a ∷ b ∷ []) h = absurd h
all_served most (a ∷ b ∷ c ∷ d ∷ rs) h = absurd h
