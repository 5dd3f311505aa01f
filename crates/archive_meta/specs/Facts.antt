-- Facts about the metrics of a result, beside what is kept of them: the first description of a metric counts, and its
-- first name.
use Rattle.std.specs.Prelude.{◌≡◌, ℕ, ℤ, ◌⊎◌, Bool, true, false, IsTrue, nat_eq, if◌then◌else◌, List, [], ◌∷◌, Option, Some, None, slice_get}
use Rattle.std.specs.List.{AllByRecursion}
use Rattle.pcp_base.specs.declared.desc.Desc.{Desc}
use Rattle.pcp_base.specs.declared.result.Body.{Body}
use Rattle.pcp_base.specs.declared.result.Body.TheVariants.{InPlace, Blocks, Status}
use Rattle.pcp_base.specs.declared.result.ValueSet.{ValueSet}
use Rattle.pcp_model.specs.declared.records.MetaRecord.{MetaRecord}
use Rattle.pcp_model.specs.declared.records.MetaRecord.TheVariants.{Description, Domain, Other}
use Rattle.archive_meta.specs.declared.facts.Changed.{Changed}
use Rattle.archive_meta.specs.Said.{description_of}

-- whether a set shows values
abbrev pub has_values : Body → Bool
has_values (InPlace pairs) = true
has_values (Blocks pairs) = true
has_values (Status n) = false

-- the first of these under a key
abbrev pub first_under : {V : Type 0} → (V → ℕ) → List V → ℕ → Option V
first_under key [] k = None
first_under key (v ∷ vs) k = if nat_eq (key v) k then Some v else first_under key vs k

abbrev pub metric_of : Desc × List ℕ → ℕ
metric_of fact = fact.0.pmid

abbrev pub domain_of : ℕ × List (ℤ × List ℕ) → ℕ
domain_of listed = listed.0

-- the fact about a metric
abbrev pub fact_of : List (Desc × List ℕ) → ℕ → Option (Desc × List ℕ)
fact_of metrics pmid = first_under metric_of metrics pmid

-- the instances that are listed of a domain
abbrev pub listed_of : List (ℕ × List (ℤ × List ℕ)) → ℕ → Option (ℕ × List (ℤ × List ℕ))
listed_of domains indom = first_under domain_of domains indom

-- nothing is kept of a metric, or this description with this first name
abbrev pub IsKeptAs : Desc → List ℕ → Option MetaRecord → Type 0
IsKeptAs desc name None = Unit {0}
IsKeptAs desc name (Some (Description d names)) = (d ≡ desc) × (slice_get names 0 ≡ Some name)
IsKeptAs desc name (Some (Domain t indom pairs)) = ⊥
IsKeptAs desc name (Some Other) = ⊥

abbrev pub FitsFact : List MetaRecord → Desc × List ℕ → Type 0
FitsFact records fact = IsKeptAs fact.0 fact.1 (description_of fact.0.pmid records)

-- the facts about a metric are what is kept of it
abbrev pub FitsMetric : List MetaRecord → List (Desc × List ℕ) → ℕ → Type 0
FitsMetric records metrics pmid = AllByRecursion (λ fact. fact.0.pmid ≡ pmid → FitsFact records fact) metrics

-- so they are for a set, if it shows values
abbrev pub FitsSet : List MetaRecord → List (Desc × List ℕ) → ValueSet → Type 0
FitsSet records metrics set = IsTrue (has_values set.body) → FitsMetric records metrics set.pmid

abbrev pub FitSets : List MetaRecord → List (Desc × List ℕ) → List ValueSet → Type 0
FitSets records metrics sets = AllByRecursion (FitsSet records metrics) sets

-- the first set for which they aren't is of this metric
abbrev pub IsFirstChange : List MetaRecord → List (Desc × List ℕ) → List ValueSet → Changed → Type 0
IsFirstChange records metrics [] e = ⊥
IsFirstChange records metrics (set ∷ sets) e =
    ((FitsSet records metrics set → ⊥) × (e.pmid ≡ set.pmid)) ⊎ (FitsSet records metrics set × IsFirstChange records metrics sets e)
