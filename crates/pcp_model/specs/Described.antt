-- When the metadata of an archive describes an item (LOGARCHIVE(5)).
use Rattle.std.specs.Prelude.{◌≡◌, ◌⊎◌, ℕ, ℤ, ◌<◌, ◌≤◌, List, [], ◌∷◌, ◌++◌, Contains}
use Rattle.std.specs.List.{AllByRecursion}
use Rattle.pcp_base.specs.Ids.{null_indom}
use Rattle.pcp_base.specs.Time.{Moment, microseconds}
use Rattle.pcp_base.specs.declared.desc.Desc.{Desc}
use Rattle.pcp_base.specs.declared.result.Body.{Body}
use Rattle.pcp_base.specs.declared.result.Body.TheVariants.{InPlace, Blocks, Status}
use Rattle.pcp_base.specs.declared.result.ValueSet.{ValueSet}
use Rattle.pcp_base.specs.declared.result.Item.{Item}
use Rattle.pcp_base.specs.declared.result.Item.TheVariants.{Sample, Mark}
use Rattle.pcp_model.specs.declared.records.MetaRecord.{MetaRecord}
use Rattle.pcp_model.specs.declared.records.MetaRecord.TheVariants.{Description, Domain, Other}

-- the stamps of a domain's records, by a test on each
abbrev pub EachStamp : ℕ → (Moment → Type 0) → List MetaRecord → Type 0
EachStamp indom P [] = Unit {0}
EachStamp indom P (Description d names ∷ records) = EachStamp indom P records
EachStamp indom P (Domain t i pairs ∷ records) = (i ≡ indom → P t) × EachStamp indom P records
EachStamp indom P (Other ∷ records) = EachStamp indom P records

-- These pairs hold at t: of the domain's records not stamped after t they have the greatest stamp, and no
-- later record has an equal one.
pub record HoldsAt (records : List MetaRecord) (indom : ℕ) (t : Moment) (pairs : List (ℤ × List ℕ)) : Type 0 where
  pub stamp : Moment
  pub not_after : microseconds stamp ≤ microseconds t
  pub before : List MetaRecord
  pub behind : List MetaRecord
  pub is : records ≡ before ++ Domain stamp indom pairs ∷ behind
  pub greatest : EachStamp indom (λ s. microseconds s ≤ microseconds t → microseconds s ≤ microseconds stamp) before
  pub last : EachStamp indom (λ s. microseconds s ≤ microseconds t → microseconds s < microseconds stamp) behind

-- an instance has a name in what holds of its domain
abbrev pub IsNamed : List MetaRecord → ℕ → Moment → ℤ → Type 0
IsNamed records indom t instance =
    (pairs : List (ℤ × List ℕ)) × HoldsAt records indom t pairs × (name : List ℕ) × Contains pairs (instance, name)

abbrev pub AreNamed : List MetaRecord → ℕ → Moment → Body → Type 0
AreNamed records indom t (InPlace pairs) = AllByRecursion (λ p. IsNamed records indom t p.0) pairs
AreNamed records indom t (Blocks pairs) = AllByRecursion (λ p. IsNamed records indom t p.0) pairs
AreNamed records indom t (Status n) = Unit {0}

-- The metric of a set has a description; each instance that it shows has a name, unless it has no domain.
pub record IsDescribedBy (records : List MetaRecord) (t : Moment) (set : ValueSet) : Type 0 where
  pub desc : Desc
  pub names : List (List ℕ)
  pub recorded : Contains records (Description desc names)
  pub same : desc.pmid ≡ set.pmid
  pub named : (desc.indom ≡ null_indom) ⊎ AreNamed records desc.indom t set.body

-- a set without values needs no description
abbrev pub IsDescribedSet : List MetaRecord → Moment → ValueSet → Body → Type 0
IsDescribedSet records t set (InPlace pairs) = IsDescribedBy records t set
IsDescribedSet records t set (Blocks pairs) = IsDescribedBy records t set
IsDescribedSet records t set (Status n) = Unit {0}

abbrev pub Described : List MetaRecord → Item → Type 0
Described records (Sample r) = AllByRecursion (λ set. IsDescribedSet records r.stamp set set.body) r.sets
Described records (Mark t) = Unit {0}
