-- Facts that tell enough of a result to describe it (LOGARCHIVE(5)).
use Rattle.std.specs.Prelude.{◌≡◌, ◌⊎◌, ℕ, ℤ, IsTrue, List, Some, Contains}
use Rattle.std.specs.List.{AllByRecursion}
use Rattle.pcp_base.specs.Ids.{null_indom}
use Rattle.pcp_base.specs.declared.desc.Desc.{Desc}
use Rattle.pcp_base.specs.declared.result.Body.{Body}
use Rattle.pcp_base.specs.declared.result.Body.TheVariants.{InPlace, Blocks, Status}
use Rattle.pcp_base.specs.declared.result.ValueSet.{ValueSet}
use Rattle.archive_meta.specs.declared.facts.Facts.{Facts}
use Rattle.archive_meta.specs.Facts.{has_values, fact_of, listed_of}

abbrev pub IsListed : List (ℤ × List ℕ) → ℤ → Type 0
IsListed pairs instance = (name : List ℕ) × Contains pairs (instance, name)

-- the list has every instance that a set shows
abbrev pub AreListed : List (ℤ × List ℕ) → Body → Type 0
AreListed pairs (InPlace shown) = AllByRecursion (λ p. IsListed pairs p.0) shown
AreListed pairs (Blocks shown) = AllByRecursion (λ p. IsListed pairs p.0) shown
AreListed pairs (Status n) = Unit {0}

-- the facts describe the metric of a set, and list its domain with every instance shown, unless it has none
pub record IsTold (facts : Facts) (set : ValueSet) : Type 0 where
  pub fact : Desc × List ℕ
  pub found : fact_of facts.metrics set.pmid ≡ Some fact
  pub named : (fact.0.indom ≡ null_indom)
      ⊎ ((pairs : List (ℤ × List ℕ)) × (listed_of facts.domains fact.0.indom ≡ Some (fact.0.indom, pairs)) × AreListed pairs set.body)

-- they do for each set with values
abbrev pub AreEnough : Facts → List ValueSet → Type 0
AreEnough facts sets = AllByRecursion (λ set. IsTrue (has_values set.body) → IsTold facts set) sets
