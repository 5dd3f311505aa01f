-- What describes the sets of one stamp of a merge, and why they can't be described (pmlogextract(1)).
use Rattle.std.specs.Prelude.{◌≡◌, ℕ, ℤ, Bool, true, false, not, ◌&&◌, ◌||◌, ◌==◌, nat_eq, is_none, is_some, option_to_list, if◌then◌else◌, fold, filter, List, [], ◌∷◌, ◌++◌, map, Option, Some, None}
use Rattle.std.specs.BTreeSet.{BTreeSet, contains, insert_key}
use Rattle.std.specs.List.{list_any}
use Rattle.std.specs.Ordering.{int_cmp, nat_cmp}
use Rattle.pcp_base.specs.Ids.{null_indom}
use Rattle.pcp_base.specs.Time.{Moment}
use Rattle.pcp_base.specs.declared.desc.Desc.{Desc}
use Rattle.pcp_base.specs.declared.result.ValueSet.{ValueSet}
use Rattle.pcp_model.specs.declared.records.MetaRecord.{MetaRecord}
use Rattle.archive_meta.specs.declared.facts.Facts.{Facts}
use Rattle.archive_meta.specs.Facts.{has_values}
use Rattle.archive_merge.specs.declared.fault.MergeFault.{MergeFault}
use Rattle.archive_merge.specs.declared.fault.MergeFault.TheVariants.{Lacks, Clashes}
use Rattle.archive_merge.specs.Merging.{sets_of_first, sets_of_second}
use Rattle.archive_merge.specs.Naming.{Pairs, fact_about, name_in, names_all, pairs_at, renames}

-- ---- domains

abbrev pub with_domain_of : List ℕ → Option (Desc × List ℕ) → List ℕ
with_domain_of domains None = domains
with_domain_of domains (Some fact) = if fact.0.indom == null_indom then domains else insert_key nat_cmp domains fact.0.indom

-- the domains of the sets with values but the null one, ascending, each once
abbrev pub with_used : List MetaRecord → List ℕ → ValueSet → List ℕ
with_used records domains set = if has_values set.body then with_domain_of domains (fact_about records set.pmid) else domains

abbrev pub domains_used : List MetaRecord → List ValueSet → List ℕ
domains_used records sets = fold (with_used records) [] sets

abbrev pub has_domain : ℕ → List ℕ → Bool
has_domain indom domains = list_any (nat_eq indom) domains

-- ---- what can't be described

abbrev pub is_described : List MetaRecord → Moment → ValueSet → Option (Desc × List ℕ) → Bool
is_described records t set None = false
is_described records t set (Some fact) = fact.0.indom == null_indom || names_all (pairs_at records fact.0.indom t) set.body

-- A set with values whose metric has no description with a name, or of which an instance has no name; the null domain needs none.
abbrev pub is_lacking : List MetaRecord → Moment → ValueSet → Bool
is_lacking records t set = has_values set.body && not (is_described records t set (fact_about records set.pmid))

-- the metric of the first such set
abbrev pub first_lacking : List MetaRecord → Moment → List ValueSet → Option ℕ
first_lacking records t [] = None
first_lacking records t (set ∷ sets) = if is_lacking records t set then Some set.pmid else first_lacking records t sets

abbrev pub is_renaming : List MetaRecord → List MetaRecord → Moment → List ℕ → ValueSet → Option (Desc × List ℕ) → Bool
is_renaming first second t used set None = false
is_renaming first second t used set (Some fact) = has_domain fact.0.indom used && renames (pairs_at first fact.0.indom t) (pairs_at second fact.0.indom t) set.body

-- A set of the second source, of a domain that sets of the first use, that shows an instance to whose number the first gives another name.
abbrev pub is_clashing : List MetaRecord → List MetaRecord → Moment → List ℕ → ValueSet → Bool
is_clashing first second t used set = has_values set.body && is_renaming first second t used set (fact_about second set.pmid)

abbrev pub first_clash : List MetaRecord → List MetaRecord → Moment → List ℕ → List ValueSet → Option ℕ
first_clash first second t used [] = None
first_clash first second t used (set ∷ sets) = if is_clashing first second t used set then Some set.pmid else first_clash first second t used sets

abbrev pub lack_in : ℕ → Option ℕ → Option MergeFault
lack_in source None = None
lack_in source (Some pmid) = Some (Lacks source pmid)

abbrev pub clash_of : Option ℕ → Option MergeFault
clash_of None = None
clash_of (Some pmid) = Some (Clashes pmid)

abbrev pub or_else : Option MergeFault → Option MergeFault → Option MergeFault
or_else None other = other
or_else (Some fault) other = Some fault

-- why the sets that stand of both sources can't be described: what the first lacks, what the second does, or a clash
abbrev pub misfit_between : List MetaRecord → List MetaRecord → Moment → List ValueSet → List ValueSet → Option MergeFault
misfit_between first second t ours theirs =
    or_else (lack_in 1 (first_lacking first t ours)) (or_else (lack_in 2 (first_lacking second t theirs)) (clash_of (first_clash first second t (domains_used first ours) theirs)))

abbrev pub misfit_of : List MetaRecord → List MetaRecord → Moment → List ValueSet → List ValueSet → Option MergeFault
misfit_of first second t ours theirs = misfit_between first second t (sets_of_first ours) (sets_of_second ours theirs)

-- ---- what describes them

abbrev pub fact_of_set : List MetaRecord → ValueSet → List (Desc × List ℕ)
fact_of_set records set = if has_values set.body then option_to_list (fact_about records set.pmid) else []

-- the metrics of the sets with values
abbrev pub facts_about : List MetaRecord → List ValueSet → List (Desc × List ℕ)
facts_about records [] = []
facts_about records (set ∷ sets) = fact_of_set records set ++ facts_about records sets

-- what a source lists of a domain, where its sets use it
abbrev pub listed_where : Bool → List MetaRecord → ℕ → Moment → Pairs
listed_where true records indom t = pairs_at records indom t
listed_where false records indom t = []

-- a list, and behind it the pairs of another with other numbers
abbrev pub both_lists : Pairs → Pairs → Pairs
both_lists first second = first ++ filter (λ p. is_none (name_in p.0 first)) second

abbrev pub domain_facts : List MetaRecord → List MetaRecord → Moment → List ℕ → List ℕ → ℕ → ℕ × Pairs
domain_facts first second t ours theirs indom = (indom, both_lists (listed_where (has_domain indom ours) first indom t) (listed_where (has_domain indom theirs) second indom t))

-- The facts of each set's metric in its source. Of each domain the first source's instances where its sets use it, and behind them those of
-- other numbers that the second has, where its sets do.
abbrev pub facts_between : List MetaRecord → List MetaRecord → Moment → List ValueSet → List ValueSet → Facts
facts_between first second t ours theirs = record {
  metrics = facts_about first ours ++ facts_about second theirs;
  domains = map (domain_facts first second t (domains_used first ours) (domains_used second theirs)) (fold (with_used second) (domains_used first ours) theirs);
}

abbrev pub facts_of : List MetaRecord → List MetaRecord → Moment → List ValueSet → List ValueSet → Facts
facts_of first second t ours theirs = facts_between first second t (sets_of_first ours) (sets_of_second ours theirs)

-- ---- how instances are told apart

abbrev pub pairs_in : Option Pairs → Pairs
pairs_in None = []
pairs_in (Some pairs) = pairs

-- a table has the numbers of these pairs, and no other
abbrev pub HasNumbers : BTreeSet ℤ → Pairs → Type 0
HasNumbers numbers pairs = (instance : ℤ) → contains int_cmp numbers instance ≡ is_some (name_in instance pairs)

-- a pair, unless its number is in the table
abbrev pub kept_of : BTreeSet ℤ → Option (ℤ × List ℕ) → Pairs
kept_of numbers None = []
kept_of numbers (Some p) = if contains int_cmp numbers p.0 then [] else p ∷ []
