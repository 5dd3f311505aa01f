-- Which records of Meta a result still needs, and how they are framed (LOGARCHIVE(5)).
use Rattle.std.specs.Prelude.{◌≡◌, ◌≢◌, ◌⊎◌, ◌<◌, ℕ, suc, ℤ, Bool, true, false, min, slice_get, ◌&&◌, nat_eq, nat_lt, is_none, option_to_list, if◌then◌else◌, List, [], ◌∷◌, ◌++◌, length, map, Option, Some, None}
use Rattle.pcp_base.specs.Time.{Moment}
use Rattle.pcp_base.specs.declared.desc.Desc.{Desc}
use Rattle.pcp_base.specs.declared.result.PmResult.{PmResult}
use Rattle.pcp_base.specs.declared.result.ValueSet.{ValueSet}
use Rattle.pcp_model.specs.declared.records.MetaRecord.{MetaRecord}
use Rattle.pcp_model.specs.declared.records.MetaRecord.TheVariants.{Description, Domain, Other}
use Rattle.pcp_model.specs.Described.{HoldsAt}
use Rattle.pcp_model.specs.Frame.{frame, IsFrameable}
use Rattle.pcp_model.specs.Records.{description, domain, IsRecord}
use Rattle.archive_meta.specs.declared.facts.Facts.{Facts}
use Rattle.archive_meta.specs.declared.facts.RecordsFault.{RecordsFault}
use Rattle.archive_meta.specs.declared.facts.RecordsFault.TheVariants.{Large, NoMemory}
use Rattle.archive_meta.specs.Facts.{has_values, fact_of, listed_of, domain_of}
use Rattle.archive_meta.specs.Records.{AreRecords}
use Rattle.archive_meta.specs.Said.{description_of}

-- a key leads to nothing any more
abbrev pub except_key : {V : Type 0} → ℕ → (ℕ → Option V) → ℕ → Option V
except_key k leads q = if nat_eq k q then None else leads q

-- what keys lead to, in their order, each once
abbrev pub values_of_keys : {V : Type 0} → (ℕ → Option V) → List ℕ → List V
values_of_keys leads [] = []
values_of_keys leads (k ∷ ks) = option_to_list (leads k) ++ values_of_keys (except_key k leads) ks

-- whether a set shows values of a metric that no record describes
abbrev pub is_undescribed : List MetaRecord → ValueSet → Bool
is_undescribed records set = has_values set.body && is_none (description_of set.pmid records)

-- the metrics of such sets
abbrev pub undescribed_metrics : List MetaRecord → List ValueSet → List ℕ
undescribed_metrics records [] = []
undescribed_metrics records (set ∷ sets) = if is_undescribed records set then set.pmid ∷ undescribed_metrics records sets else undescribed_metrics records sets

abbrev pub described_by : Desc × List ℕ → MetaRecord
described_by fact = Description fact.0 (fact.1 ∷ [])

-- The descriptions that are missing: of the metrics with values that no record describes, in the order of the sets.
abbrev pub missing_descriptions : List MetaRecord → List (Desc × List ℕ) → List ValueSet → List MetaRecord
missing_descriptions records metrics sets = map described_by (values_of_keys (fact_of metrics) (undescribed_metrics records sets))

-- the domain of a metric by its fact
abbrev pub domain_in : Option (Desc × List ℕ) → List ℕ
domain_in None = []
domain_in (Some fact) = fact.0.indom ∷ []

abbrev pub shown_domain : List (Desc × List ℕ) → ValueSet → List ℕ
shown_domain metrics set = if has_values set.body then domain_in (fact_of metrics set.pmid) else []

-- the domains of the sets with values
abbrev pub shown_domains : List (Desc × List ℕ) → List ValueSet → List ℕ
shown_domains metrics [] = []
shown_domains metrics (set ∷ sets) = shown_domain metrics set ++ shown_domains metrics sets

-- The domains of the facts, each once, in the order of the sets; behind them those of no set.
abbrev pub domains_of : Facts → List ValueSet → List (ℕ × List (ℤ × List ℕ))
domains_of facts sets = values_of_keys (listed_of facts.domains) (shown_domains facts.metrics sets ++ map domain_of facts.domains)

-- no instances of a domain hold at a moment, or others
abbrev pub Lacks : List MetaRecord → Moment → ℕ × List (ℤ × List ℕ) → Type 0
Lacks records t listed =
    ((pairs : List (ℤ × List ℕ)) → HoldsAt records listed.0 t pairs → ⊥)
    ⊎ ((pairs : List (ℤ × List ℕ)) × HoldsAt records listed.0 t pairs × (pairs ≢ listed.1))

-- what a test of it tells
abbrev pub Tells : List MetaRecord → Moment → ℕ × List (ℤ × List ℕ) → Bool → Type 0
Tells records t listed true = HoldsAt records listed.0 t listed.1
Tells records t listed false = Lacks records t listed

abbrev pub listed_from : Moment → ℕ × List (ℤ × List ℕ) → MetaRecord
listed_from t listed = Domain t listed.0 listed.1

-- The records of domains that are missing at a moment: of those for which none holds, or the one that holds lists
-- other pairs.
abbrev pub AreMissingDomains : List MetaRecord → Moment → List (ℕ × List (ℤ × List ℕ)) → List MetaRecord → Type 0
AreMissingDomains records t [] missing = missing ≡ []
AreMissingDomains records t (d ∷ ds) missing =
    (HoldsAt records d.0 t d.1 × AreMissingDomains records t ds missing)
    ⊎ (Lacks records t d × ((more : List MetaRecord) × (missing ≡ listed_from t d ∷ more) × AreMissingDomains records t ds more))

-- The records that a result needs beside those that stand: descriptions first, then domains.
pub record AreMissing (records : List MetaRecord) (facts : Facts) (answer : PmResult) (missing : List MetaRecord) : Type 0 where
  pub domains : List MetaRecord
  pub lacking : AreMissingDomains records answer.stamp (domains_of facts answer.sets) domains
  pub is : missing ≡ missing_descriptions records facts.metrics answer.sets ++ domains

-- a record in its one spelling, framed
abbrev pub framed_record : MetaRecord → List ℕ
framed_record (Description d names) = frame (description d names)
framed_record (Domain t indom pairs) = frame (domain t indom pairs)
framed_record Other = []

abbrev pub framed_records : List MetaRecord → List ℕ
framed_records [] = []
framed_records (r ∷ records) = framed_record r ++ framed_records records

-- the one spelling of a record is read as it, and fits a frame
abbrev pub IsSpelled : MetaRecord → Type 0
IsSpelled (Description d names) = IsFrameable (description d names) × IsRecord (description d names) (Description d names)
IsSpelled (Domain t indom pairs) = IsFrameable (domain t indom pairs) × IsRecord (domain t indom pairs) (Domain t indom pairs)
IsSpelled Other = ⊥

-- the length of the first of them that is too long for a frame
abbrev pub large_length : List MetaRecord → Option ℕ
large_length [] = None
large_length (r ∷ records) = if nat_lt 16777216 (length (framed_record r)) then Some (length (framed_record r)) else large_length records

-- a length is too long for a frame
abbrev pub IsLarge : ℕ → RecordsFault → Type 0
IsLarge n (Large bytes) = (16777216 < n) × (bytes ≡ min n 18446744073709551615)
IsLarge n NoMemory = Unit {0}

-- the first of these records that is too long is so long
abbrev pub IsLargeOf : List MetaRecord → RecordsFault → Type 0
IsLargeOf records (Large bytes) = (n : ℕ) × (large_length records ≡ Some n) × (bytes ≡ min n 18446744073709551615)
IsLargeOf records NoMemory = Unit {0}

-- The bytes are the missing records, framed, each of them fits a frame, and they are read as these records.
pub record AreMade (records : List MetaRecord) (facts : Facts) (answer : PmResult) (bytes : List ℕ) : Type 0 where
  pub missing : List MetaRecord
  pub needed : AreMissing records facts answer missing
  pub fit : large_length missing ≡ None
  pub is : bytes ≡ framed_records missing
  pub read : AreRecords bytes missing

-- one of them doesn't
abbrev pub IsRecordsFault : List MetaRecord → Facts → PmResult → RecordsFault → Type 0
IsRecordsFault records facts answer (Large bytes) = (missing : List MetaRecord) × AreMissing records facts answer missing × IsLargeOf missing (Large bytes)
IsRecordsFault records facts answer NoMemory = Unit {0}

-- ---- where keys stand in a table

-- where the first of these keys stands, the table's front not counted
abbrev pub position_from : ℕ → List ℕ → ℕ → Option ℕ
position_from at [] q = None
position_from at (k ∷ ks) q = if nat_eq k q then Some at else position_from (suc at) ks q

-- what stands at positions
abbrev pub at_positions : {V : Type 0} → List V → List ℕ → List V
at_positions vs [] = []
at_positions vs (p ∷ ps) = option_to_list (slice_get vs p) ++ at_positions vs ps
