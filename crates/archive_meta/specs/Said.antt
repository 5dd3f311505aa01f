-- What records of Meta say of metrics (LOGARCHIVE(5)): the first description of a metric counts.
use Rattle.std.specs.Prelude.{ℕ, ℤ, Bool, true, false, nat_eq, bytes_eq, if◌then◌else◌, fold, List, [], ◌∷◌, ◌++◌, Option, Some, None}
use Rattle.std.specs.List.{list_any}
use Rattle.pcp_base.specs.declared.desc.Desc.{Desc}
use Rattle.pcp_model.specs.declared.records.MetaRecord.{MetaRecord}
use Rattle.pcp_model.specs.declared.records.MetaRecord.TheVariants.{Description, Domain, Other}

-- whether a record describes a metric
abbrev pub describes : ℕ → MetaRecord → Bool
describes pmid (Description d names) = nat_eq pmid d.pmid
describes pmid (Domain t indom pairs) = false
describes pmid Other = false

-- the first record that does
abbrev pub description_of : ℕ → List MetaRecord → Option MetaRecord
description_of pmid [] = None
description_of pmid (r ∷ records) = if describes pmid r then Some r else description_of pmid records

-- the description in a record, and its names
abbrev pub desc_in : MetaRecord → Option Desc
desc_in (Description d names) = Some d
desc_in (Domain t indom pairs) = None
desc_in Other = None

abbrev pub names_in : MetaRecord → Option (List (List ℕ))
names_in (Description d names) = Some names
names_in (Domain t indom pairs) = None
names_in Other = None

-- the instances in a record
abbrev pub pairs_in : MetaRecord → Option (List (ℤ × List ℕ))
pairs_in (Description d names) = None
pairs_in (Domain t indom pairs) = Some pairs
pairs_in Other = None

abbrev pub desc_of : Option MetaRecord → Option Desc
desc_of None = None
desc_of (Some r) = desc_in r

abbrev pub names_of : Option MetaRecord → Option (List (List ℕ))
names_of None = None
names_of (Some r) = names_in r

abbrev pub pairs_of : Option MetaRecord → Option (List (ℤ × List ℕ))
pairs_of None = None
pairs_of (Some r) = pairs_in r

-- the metrics that records describe, each where it is first seen
abbrev pub seen_with : List ℕ → ℕ → List ℕ
seen_with seen pmid = if list_any (nat_eq pmid) seen then seen else seen ++ pmid ∷ []

abbrev pub seen_after : List ℕ → MetaRecord → List ℕ
seen_after seen (Description d names) = seen_with seen d.pmid
seen_after seen (Domain t indom pairs) = seen
seen_after seen Other = seen

abbrev pub described_metrics : List MetaRecord → List ℕ
described_metrics records = fold seen_after [] records

-- whether a name is among these, or among those of a metric
abbrev pub has_name : List ℕ → List (List ℕ) → Bool
has_name name [] = false
has_name name (n ∷ names) = if bytes_eq n name then true else has_name name names

abbrev pub is_named : List ℕ → Option (List (List ℕ)) → Bool
is_named name None = false
is_named name (Some names) = has_name name names

-- the first of these metrics that has a name
abbrev pub first_named : List MetaRecord → List ℕ → List ℕ → Option ℕ
first_named records name [] = None
first_named records name (pmid ∷ pmids) = if is_named name (names_of (description_of pmid records)) then Some pmid else first_named records name pmids

-- a name leads to the first metric that has it, in the order in which metrics are first described
abbrev pub metric_of_name : List MetaRecord → List ℕ → Option ℕ
metric_of_name records name = first_named records name (described_metrics records)
