-- The latest stamp of some records of Meta.
use Rattle.std.specs.Prelude.{◌≡◌, ◌≤◌, List, [], ◌∷◌, ◌++◌, Contains, Option, Some, None}
use Rattle.std.specs.List.{AllByRecursion}
use Rattle.pcp_base.specs.Time.{Moment, microseconds}
use Rattle.pcp_model.specs.declared.records.MetaRecord.{MetaRecord}
use Rattle.pcp_model.specs.declared.records.MetaRecord.TheVariants.{Description, Domain, Other}

-- the stamps of domains' records
abbrev pub domain_stamps : List MetaRecord → List Moment
domain_stamps [] = []
domain_stamps (Description d names ∷ records) = domain_stamps records
domain_stamps (Domain t indom pairs ∷ records) = t ∷ domain_stamps records
domain_stamps (Other ∷ records) = domain_stamps records

-- None where there is no moment; else one of them, and no other is after it.
abbrev pub IsLatest : List Moment → Option Moment → Type 0
IsLatest moments None = moments ≡ []
IsLatest moments (Some t) = Contains moments t × AllByRecursion (λ (s : Moment). microseconds s ≤ microseconds t) moments

-- where these moments come behind others
abbrev pub IsLatestOn : Option Moment → List Moment → Option Moment → Type 0
IsLatestOn old stamps new = (moments : List Moment) → IsLatest moments old → IsLatest (moments ++ stamps) new
