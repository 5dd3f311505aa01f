-- What holds of merges.
use Rattle.std.specs.Prelude.{◌≡◌, ◌≢◌, ◌⊎◌, ℕ, Bool, not, nat_eq, filter, IsTrue, List, [], ◌∷◌, ◌++◌, Option, Some, None}
use Rattle.std.specs.List.{AllByRecursion}
use Rattle.pcp_base.specs.Ids.{null_indom}
use Rattle.pcp_base.specs.Time.{Moment, microseconds}
use Rattle.pcp_base.specs.declared.desc.Desc.{Desc}
use Rattle.pcp_base.specs.declared.result.Body.{Body}
use Rattle.pcp_base.specs.declared.result.Body.TheVariants.{InPlace, Blocks, Status}
use Rattle.pcp_base.specs.declared.result.PmResult.{PmResult}
use Rattle.pcp_base.specs.declared.result.ValueSet.{ValueSet}
use Rattle.pcp_model.specs.Described.{HoldsAt}
use Rattle.pcp_model.specs.declared.records.MetaRecord.{MetaRecord}
use Rattle.pcp_model.specs.declared.records.MetaRecord.TheVariants.{Description}
use Rattle.archive_meta.specs.Enough.{AreEnough, AreListed}
use Rattle.archive_meta.specs.Facts.{fact_of, has_values, listed_of}
use Rattle.archive_meta.specs.Said.{description_of}
use Rattle.archive_merge.specs.declared.fault.MergeFault.{MergeFault}
use Rattle.archive_merge.specs.declared.fault.MergeFault.TheVariants.{Lacks, Clashes, NoMemory}
use Rattle.archive_merge.specs.Facts.{both_lists, facts_between, facts_of, misfit_between, misfit_of}
use Rattle.archive_merge.specs.Merging.{IsNew, sets_at, sets_of_both, sets_of_first, sets_of_second, stamps_of}
use Rattle.archive_merge.specs.Naming.{Pairs, fact_about, name_in, pairs_at}
use Rattle.archive_merge.specs.Order.{Rising}

-- a stamp is one of results, or a result's stamp is one of these
abbrev pub IsOfOne : List PmResult → Moment → Type 0
IsOfOne [] t = ⊥
IsOfOne (r ∷ results) t = (r.stamp ≡ t) ⊎ IsOfOne results t

abbrev pub HasStamp : List Moment → Moment → Type 0
HasStamp [] t = ⊥
HasStamp (s ∷ stamps) t = (microseconds s ≡ microseconds t) ⊎ HasStamp stamps t

-- The items' stamps rise; each is that of a result, and each result's is there.
pub record StandsOnce (results : List PmResult) : Type 0 where
  pub rises : Rising (stamps_of results)
  pub theirs : AllByRecursion (IsOfOne results) (stamps_of results)
  pub all : AllByRecursion (λ r. HasStamp (stamps_of results) r.stamp) results

abbrev pub EachStampStandsOnce : Type 0
EachStampStandsOnce = (results : List PmResult) → StandsOnce results

-- ---- sets

-- At a stamp stand the sets of the results that have it, those of one behind those of another.
pub record AreInOrder (t : Moment) (xs ys : List PmResult) (r : PmResult) : Type 0 where
  pub joined : sets_at t (xs ++ ys) ≡ sets_at t xs ++ sets_at t ys
  pub its : microseconds r.stamp ≡ microseconds t → sets_at t (r ∷ []) ≡ r.sets
  pub others : microseconds r.stamp ≢ microseconds t → sets_at t (r ∷ []) ≡ []

abbrev pub SetsAreInOrder : Type 0
SetsAreInOrder = (t : Moment) (xs ys : List PmResult) (r : PmResult) → AreInOrder t xs ys r

-- the first set of each metric: what comes first stands, and of what comes behind it the others' first ones
abbrev pub is_other : ValueSet → ValueSet → Bool
is_other set x = not (nat_eq set.pmid x.pmid)

abbrev pub first_of_each : List ValueSet → List ValueSet
first_of_each [] = []
first_of_each (set ∷ sets) = set ∷ filter (is_other set) (first_of_each sets)

-- a set is one of these
abbrev pub IsOneOf : List ValueSet → ValueSet → Type 0
IsOneOf [] set = ⊥
IsOneOf (x ∷ sets) set = (x ≡ set) ⊎ IsOneOf sets set

-- Those of the first source stand first, of each metric the first one. Each set is one of its source's, and those of the second are of metrics of
-- which the first has none.
pub record AreOfBoth (ours theirs : List ValueSet) : Type 0 where
  pub parts : sets_of_both ours theirs ≡ sets_of_first ours ++ sets_of_second ours theirs
  pub firsts : sets_of_first ours ≡ first_of_each ours
  pub all : sets_of_both ours theirs ≡ first_of_each (ours ++ theirs)
  pub first : AllByRecursion (IsOneOf ours) (sets_of_first ours)
  pub second : AllByRecursion (IsOneOf theirs) (sets_of_second ours theirs)
  pub new : AllByRecursion (IsNew (sets_of_first ours)) (sets_of_second ours theirs)

abbrev pub SetsAreOfBoth : Type 0
SetsAreOfBoth = (ours theirs : List ValueSet) → AreOfBoth ours theirs

-- Where nothing is lacking, the facts tell enough to describe the sets.
abbrev pub FactsAreEnough : Type 0
FactsAreEnough = (first second : List MetaRecord) (t : Moment) (ours theirs : List ValueSet) → misfit_of first second t ours theirs ≡ None → AreEnough (facts_of first second t ours theirs) (sets_of_both ours theirs)

-- ---- what a source says

-- Of a metric the first description counts, and its first name; of a domain what holds at a moment.
pub record SaysSo (records : List MetaRecord) (pmid indom : ℕ) (t : Moment) : Type 0 where
  pub named : (d : Desc) (name : List ℕ) (names : List (List ℕ)) → description_of pmid records ≡ Some (Description d (name ∷ names)) → fact_about records pmid ≡ Some (d, name)
  pub nameless : (d : Desc) → description_of pmid records ≡ Some (Description d []) → fact_about records pmid ≡ None
  pub unknown : description_of pmid records ≡ None → fact_about records pmid ≡ None
  pub held : (pairs : Pairs) → HoldsAt records indom t pairs → pairs_at records indom t ≡ pairs
  pub unheld : ((pairs : Pairs) → HoldsAt records indom t pairs → ⊥) → pairs_at records indom t ≡ []

abbrev pub SourcesSaySo : Type 0
SourcesSaySo = (records : List MetaRecord) (pmid indom : ℕ) (t : Moment) → SaysSo records pmid indom t

-- ---- why sets can't be described

-- the metric of a set has a description with a name, and each instance that it shows has one, unless it has no domain
pub record HasNames (records : List MetaRecord) (t : Moment) (set : ValueSet) : Type 0 where
  pub fact : Desc × List ℕ
  pub found : fact_about records set.pmid ≡ Some fact
  pub named : (fact.0.indom ≡ null_indom) ⊎ AreListed (pairs_at records fact.0.indom t) set.body

abbrev pub IsWell : List MetaRecord → Moment → ValueSet → Type 0
IsWell records t set = IsTrue (has_values set.body) → HasNames records t set

-- a set with values is of a metric of this domain
pub record Uses (records : List MetaRecord) (sets : List ValueSet) (indom : ℕ) : Type 0 where
  pub set : ValueSet
  pub stands : IsOneOf sets set
  pub shows : IsTrue (has_values set.body)
  pub fact : Desc × List ℕ
  pub found : fact_about records set.pmid ≡ Some fact
  pub its : fact.0.indom ≡ indom
  pub some : indom ≢ null_indom

-- where both are there they are one
abbrev pub AreOne : Option (List ℕ) → Option (List ℕ) → Type 0
AreOne None other = Unit {0}
AreOne (Some name) None = Unit {0}
AreOne (Some name) (Some other) = name ≡ other

abbrev pub AgreeOn : Pairs → Pairs → Body → Type 0
AgreeOn first second (InPlace shown) = AllByRecursion (λ p. AreOne (name_in p.0 first) (name_in p.0 second)) shown
AgreeOn first second (Blocks shown) = AllByRecursion (λ p. AreOne (name_in p.0 first) (name_in p.0 second)) shown
AgreeOn first second (Status n) = Unit {0}

-- a set of the second source shows no instance that the first names otherwise, where sets of the first use its domain
abbrev pub Agrees : List MetaRecord → List MetaRecord → Moment → List ValueSet → ValueSet → Type 0
Agrees first second t ours set = (fact : Desc × List ℕ) → IsTrue (has_values set.body) → fact_about second set.pmid ≡ Some fact → Uses first ours fact.0.indom
    → AgreeOn (pairs_at first fact.0.indom t) (pairs_at second fact.0.indom t) set.body

-- the first of these sets of which something doesn't hold is of this metric
pub record IsFirstOf (Good : ValueSet → Type 0) (sets : List ValueSet) (pmid : ℕ) : Type 0 where
  pub front : List ValueSet
  pub set : ValueSet
  pub behind : List ValueSet
  pub are : sets ≡ front ++ set ∷ behind
  pub metric : set.pmid ≡ pmid
  pub good : AllByRecursion Good front
  pub bad : Good set → ⊥

-- What the first source lacks comes first, then what the second does, then a clash.
abbrev pub SaysWhy : List MetaRecord → List MetaRecord → Moment → List ValueSet → List ValueSet → Option MergeFault → Type 0
SaysWhy first second t ours theirs None = AllByRecursion (IsWell first t) ours × AllByRecursion (IsWell second t) theirs × AllByRecursion (Agrees first second t ours) theirs
SaysWhy first second t ours theirs (Some (Lacks source pmid)) =
    ((source ≡ 1) × IsFirstOf (IsWell first t) ours pmid) ⊎ ((source ≡ 2) × AllByRecursion (IsWell first t) ours × IsFirstOf (IsWell second t) theirs pmid)
SaysWhy first second t ours theirs (Some (Clashes pmid)) = AllByRecursion (IsWell first t) ours × AllByRecursion (IsWell second t) theirs × IsFirstOf (Agrees first second t ours) theirs pmid
SaysWhy first second t ours theirs (Some NoMemory) = ⊥

abbrev pub MisfitsSayWhy : Type 0
MisfitsSayWhy = (first second : List MetaRecord) (t : Moment) (ours theirs : List ValueSet) → SaysWhy first second t ours theirs (misfit_between first second t ours theirs)

-- ---- what describes sets

-- the fact about a set's metric is that of its source
pub record AreOfSources (first second : List MetaRecord) (t : Moment) (ours theirs : List ValueSet) (set : ValueSet) (fact : Desc × List ℕ) : Type 0 where
  pub firsts : IsOneOf ours set → IsTrue (has_values set.body) → fact_about first set.pmid ≡ Some fact → fact_of (facts_between first second t ours theirs).metrics set.pmid ≡ Some fact
  pub seconds : IsOneOf theirs set → IsNew ours set → IsTrue (has_values set.body) → fact_about second set.pmid ≡ Some fact → fact_of (facts_between first second t ours theirs).metrics set.pmid ≡ Some fact

abbrev pub FactsAreOfSources : Type 0
FactsAreOfSources = (first second : List MetaRecord) (t : Moment) (ours theirs : List ValueSet) (set : ValueSet) (fact : Desc × List ℕ) → AreOfSources first second t ours theirs set fact

-- Of a domain that the sets of one source use its instances are listed, of one that those of both do the instances of both, and no other is listed.
pub record IsListedSo (first second : List MetaRecord) (t : Moment) (ours theirs : List ValueSet) (indom : ℕ) : Type 0 where
  pub firsts : Uses first ours indom → (Uses second theirs indom → ⊥) → listed_of (facts_between first second t ours theirs).domains indom ≡ Some (indom, pairs_at first indom t)
  pub seconds : (Uses first ours indom → ⊥) → Uses second theirs indom → listed_of (facts_between first second t ours theirs).domains indom ≡ Some (indom, pairs_at second indom t)
  pub of_both : Uses first ours indom → Uses second theirs indom → listed_of (facts_between first second t ours theirs).domains indom ≡ Some (indom, both_lists (pairs_at first indom t) (pairs_at second indom t))
  pub unused : (Uses first ours indom → ⊥) → (Uses second theirs indom → ⊥) → listed_of (facts_between first second t ours theirs).domains indom ≡ None

abbrev pub DomainsAreListed : Type 0
DomainsAreListed = (first second : List MetaRecord) (t : Moment) (ours theirs : List ValueSet) (indom : ℕ) → IsListedSo first second t ours theirs indom
