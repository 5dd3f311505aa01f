-- The merge of two archives (pmlogextract(1)): one result for each stamp, in their order, with the sets of both. Marks are left out.
use Rattle.std.specs.Prelude.{◌≡◌, ℕ, Bool, nat_eq, nat_lt, false, if◌then◌else◌, fold, List, [], ◌∷◌, ◌++◌, length, map, drop}
use Rattle.std.specs.BTreeSet.{BTreeSet, contains}
use Rattle.std.specs.List.{list_any}
use Rattle.std.specs.Ordering.{nat_cmp}
use Rattle.pcp_base.specs.Time.{Moment, microseconds}
use Rattle.pcp_base.specs.declared.result.Item.{Item}
use Rattle.pcp_base.specs.declared.result.Item.TheVariants.{Sample, Mark}
use Rattle.pcp_base.specs.declared.result.PmResult.{PmResult}
use Rattle.pcp_base.specs.declared.result.ValueSet.{ValueSet}

-- the results among items
abbrev pub samples_of : List Item → List PmResult
samples_of [] = []
samples_of (Sample r ∷ items) = r ∷ samples_of items
samples_of (Mark t ∷ items) = samples_of items

-- ---- stamps

-- a stamp at its place among rising ones, where it stands once
abbrev pub with_stamp : Moment → List Moment → List Moment
with_stamp t [] = t ∷ []
with_stamp t (s ∷ stamps) =
    if nat_lt (microseconds s) (microseconds t) then s ∷ with_stamp t stamps else (if nat_lt (microseconds t) (microseconds s) then t ∷ s ∷ stamps else t ∷ stamps)

-- the stamps of results, rising, each once
abbrev pub stamps_of : List PmResult → List Moment
stamps_of [] = []
stamps_of (r ∷ results) = with_stamp r.stamp (stamps_of results)

-- ---- sets

abbrev pub is_at : Moment → PmResult → Bool
is_at t r = nat_eq (microseconds r.stamp) (microseconds t)

-- the sets of the results of a stamp, those of one behind those of another
abbrev pub sets_at : Moment → List PmResult → List ValueSet
sets_at t [] = []
sets_at t (r ∷ results) = if is_at t r then r.sets ++ sets_at t results else sets_at t results

abbrev pub has_metric : ℕ → List ValueSet → Bool
has_metric pmid sets = list_any (λ set. nat_eq set.pmid pmid) sets

-- of a metric its first set stands
abbrev pub with_set : List ValueSet → ValueSet → List ValueSet
with_set sets set = if has_metric set.pmid sets then sets else sets ++ set ∷ []

abbrev pub with_sets : List ValueSet → List ValueSet → List ValueSet
with_sets sets more = fold with_set sets more

-- the sets that stand of one stamp, where the first source has these and the second those: of the first, of both, and of the second
abbrev pub sets_of_first : List ValueSet → List ValueSet
sets_of_first ours = with_sets [] ours

abbrev pub sets_of_both : List ValueSet → List ValueSet → List ValueSet
sets_of_both ours theirs = with_sets (sets_of_first ours) theirs

abbrev pub sets_of_second : List ValueSet → List ValueSet → List ValueSet
sets_of_second ours theirs = drop (length (sets_of_first ours)) (sets_of_both ours theirs)

-- a set is of no metric of these
abbrev pub IsNew : List ValueSet → ValueSet → Type 0
IsNew front set = has_metric set.pmid front ≡ false

-- ---- the merge

-- what is made of each stamp, of the sets that the results of either source have there
abbrev pub at_each : {X : Type 0} → (Moment → List ValueSet → List ValueSet → X) → List PmResult → List PmResult → List X
at_each make first second = map (λ t. make t (sets_at t first) (sets_at t second)) (stamps_of (first ++ second))

abbrev pub merged_result : Moment → List ValueSet → List ValueSet → PmResult
merged_result t ours theirs = record { stamp = t; sets = sets_of_both ours theirs }

abbrev pub merge : List Item → List Item → List Item
merge first second = map Sample (at_each merged_result (samples_of first) (samples_of second))

-- ---- how sets are told apart

-- a table has the metrics of these sets, and no other
abbrev pub Sees : BTreeSet ℕ → List ValueSet → Type 0
Sees seen sets = (pmid : ℕ) → contains nat_cmp seen pmid ≡ has_metric pmid sets
