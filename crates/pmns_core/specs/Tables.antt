-- The tables of a name space: PMIDs by name, and least names by PMID.
use Rattle.std.specs.Prelude.{◌≡◌, ℕ, Bool, List, map, Option}
use Rattle.std.specs.Option.{option_and_then, IsSome}
use Rattle.std.specs.List.{AllByRecursion}
use Rattle.std.specs.Ordering.{nat_cmp}
use Rattle.std.specs.Global.{Vec}
use Rattle.std.specs.BTreeMap.{BTreeMap, get}
use Rattle.pcp_base.specs.Texts.{IsText}
use Rattle.pmns_core.specs.Pairs.{Pair, least_name, IsInOrder}

-- the pairs of a table of PMIDs by name, in the order of their names
abbrev pub pairs_of : BTreeMap (Vec ℕ) ℕ → List Pair
pairs_of table = map (λ e. (e.0.items, e.1)) table.entries

-- the name in a PMID's slot, if it has a slot and that has a name
abbrev pub least_at : BTreeMap ℕ (Option (List ℕ)) → ℕ → Option (List ℕ)
least_at table pmid = option_and_then (λ name. name) (get nat_cmp table pmid)

-- the two tables of a name space agree
pub record Agree (table : BTreeMap (Vec ℕ) ℕ) (by_pmid : BTreeMap ℕ (Option (List ℕ))) : Type 0 where
  pub order : IsInOrder (pairs_of table)
  pub least : (pmid : ℕ) → least_at by_pmid pmid ≡ least_name (pairs_of table) pmid

-- the PMID of each pair has a slot
abbrev pub HasSlots : BTreeMap ℕ (Option (List ℕ)) → List Pair → Type 0
HasSlots table pairs = AllByRecursion (λ p. IsSome (get nat_cmp table p.1)) pairs

-- the pairs of a table of components
abbrev pub parts_of : BTreeMap (Vec ℕ) Bool → List (List ℕ × Bool)
parts_of table = map (λ e. (e.0.items, e.1)) table.entries

-- components are texts
abbrev pub AreTextParts : List (List ℕ × Bool) → Type 0
AreTextParts list = AllByRecursion (λ c. IsText c.0) list
