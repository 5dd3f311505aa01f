-- Facts that are kept from one stamp to the next, and when they still describe what stands there.
use Rattle.std.specs.Prelude.{◌≡◌, ℕ, true, false, ◌||◌, ◌==◌, fold, List, [], map, take, drop, Option, Some, None}
use Rattle.std.specs.BTreeSet.{BTreeSet}
use Rattle.pcp_base.specs.Ids.{null_indom}
use Rattle.pcp_base.specs.Time.{Moment}
use Rattle.pcp_base.specs.declared.desc.Desc.{Desc}
use Rattle.pcp_base.specs.declared.result.ValueSet.{ValueSet}
use Rattle.pcp_model.specs.declared.records.MetaRecord.{MetaRecord}
use Rattle.archive_meta.specs.declared.facts.Facts.{Facts}
use Rattle.archive_meta.specs.Facts.{domain_of}
use Rattle.archive_merge.specs.Facts.{domain_facts, facts_about, first_lacking, is_described, with_domain_of}
use Rattle.archive_merge.specs.Naming.{Pairs, fact_about}

-- the domains of metrics beside these, but the null one: ascending, each once
abbrev pub with_fact : List ℕ → Desc × List ℕ → List ℕ
with_fact domains fact = with_domain_of domains (Some fact)

abbrev pub with_facts : List ℕ → List (Desc × List ℕ) → List ℕ
with_facts domains metrics = fold with_fact domains metrics

-- One table has the domains of the first so many metrics, another those of the metrics behind them, and of the domains of all the instances are listed.
pub record HasDomains (facts : Facts) (count : ℕ) (ours theirs : BTreeSet ℕ) : Type 0 where
  pub firsts : ours.keys ≡ with_facts [] (take count facts.metrics)
  pub seconds : theirs.keys ≡ with_facts [] (drop count facts.metrics)
  pub both : map domain_of facts.domains ≡ with_facts ours.keys (drop count facts.metrics)

-- a fact is the one about a set's metric, and each instance that the set shows has a name
abbrev pub IsFactOf : List MetaRecord → Moment → Desc × List ℕ → ValueSet → Type 0
IsFactOf records t fact set = (fact_about records set.pmid ≡ Some fact) × (is_described records t set (Some fact) ≡ true)

-- The first so many metrics are those of the first source's sets, the others those of the second's, and none of the sets lacks anything.
pub record AreMetricsOf (metrics : List (Desc × List ℕ)) (count : ℕ) (first second : List MetaRecord) (t : Moment) (ours theirs : List ValueSet) : Type 0 where
  pub firsts : take count metrics ≡ facts_about first ours
  pub seconds : drop count metrics ≡ facts_about second theirs
  pub first_whole : first_lacking first t ours ≡ None
  pub second_whole : first_lacking second t theirs ≡ None

-- what is listed of a domain is what the sources list of it, each where the domain is among those
abbrev pub IsListed : List MetaRecord → List MetaRecord → Moment → List ℕ → List ℕ → ℕ × Pairs → Type 0
IsListed first second t ours theirs listed = domain_facts first second t ours theirs (domain_of listed) ≡ listed
