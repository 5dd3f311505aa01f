-- A name space as its pairs of a name and a PMID, in the byte order of the names (pmns(5)).
use Rattle.std.specs.Prelude.{◌≡◌, ℕ, true, if◌then◌else◌, nat_eq, List, [], ◌∷◌, Option, Some, None}
use Rattle.std.specs.List.{AllByRecursion}
use Rattle.pcp_base.specs.Texts.{IsText}
use Rattle.pmns_core.specs.Order.{is_same, is_before}

-- a name, then its PMID
abbrev pub Pair : Type 0
Pair = List ℕ × ℕ

-- the PMID of a name
abbrev pub pmid_of : List Pair → List ℕ → Option ℕ
pmid_of [] name = None
pmid_of (p ∷ pairs) name = if is_same name p.0 then Some p.1 else pmid_of pairs name

-- the least name of a PMID is the first one
abbrev pub least_name : List Pair → ℕ → Option (List ℕ)
least_name [] pmid = None
least_name (p ∷ pairs) pmid = if nat_eq p.1 pmid then Some p.0 else least_name pairs pmid

-- the pairs with one more, which stands where the order has it
abbrev pub with_pair : List Pair → List ℕ → ℕ → List Pair
with_pair [] name pmid = (name, pmid) ∷ []
with_pair (p ∷ pairs) name pmid = if is_before name p.0 then (name, pmid) ∷ p ∷ pairs else p ∷ with_pair pairs name pmid

-- the pairs but the one of a name
abbrev pub pairs_without : List Pair → List ℕ → List Pair
pairs_without [] name = []
pairs_without (p ∷ pairs) name = if is_same name p.0 then pairs else p ∷ pairs_without pairs name

-- the names rise, and none has a zero byte
abbrev pub IsInOrder : List Pair → Type 0
IsInOrder [] = Unit {0}
IsInOrder (p ∷ pairs) = AllByRecursion (λ q. is_before p.0 q.0 ≡ true) pairs × IsText p.0 × IsInOrder pairs

-- the lesser of a name and another, where there is one
abbrev pub lesser : List ℕ → Option (List ℕ) → List ℕ
lesser name None = name
lesser name (Some other) = if is_before name other then name else other

-- the least name of a PMID, given the one before, once one more pair is there
abbrev pub least_with : ℕ → Option (List ℕ) → Pair → Option (List ℕ)
least_with pmid least p = if nat_eq p.1 pmid then Some (lesser p.0 least) else least
