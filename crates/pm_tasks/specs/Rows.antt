-- The row of a sample, which rules watch: its numbers by the first names of their metrics and by instance.
use Rattle.std.specs.Prelude.{ℕ, ℤ, if◌then◌else◌, fold, Bool, List, [], ◌∷◌, ◌++◌, map, Option, Some, None, bytes_eq, option_map, slice_get}
use Rattle.std.specs.List.{list_any, flat_map}
use Rattle.std.specs.Ordering.{int_eq}
use Rattle.pcp_base.specs.Typed.{TypedBytes}
use Rattle.pcp_base.specs.declared.result.Body.{Body}
use Rattle.pcp_base.specs.declared.result.Body.TheVariants.{InPlace, Blocks, Status}
use Rattle.pcp_base.specs.declared.result.ValueSet.{ValueSet}
use Rattle.pcp_model.specs.declared.records.MetaRecord.{MetaRecord}
use Rattle.archive_meta.specs.Said.{description_of, desc_of, names_of}
use Rattle.rule_watch.specs.Rows.{Entry, Row}
use Rattle.log_summary.specs.Numbers.{word_number, block_number}
use Rattle.log_summary.specs.Values.{code_in}

-- a pair behind others, if there is one and none of them has its key
abbrev pub with_new : {K X : Type 0} → (K → K → Bool) → List (K × X) → Option (K × X) → List (K × X)
with_new same kept None = kept
with_new same kept (Some p) = if list_any (λ k. same p.0 k.0) kept then kept else kept ++ p ∷ []

abbrev pub with_first : {A K X : Type 0} → (K → K → Bool) → (A → Option (K × X)) → List (K × X) → A → List (K × X)
with_first same pair kept x = with_new same kept (pair x)

-- the pairs of a list's items, of those with one key the first alone
abbrev pub firsts : {A K X : Type 0} → (K → K → Bool) → (A → Option (K × X)) → List A → List (K × X)
firsts same pair xs = fold (with_first same pair) [] xs

-- an instance's number, if its value is one in the storage of the type code
abbrev pub with_instance : ℤ → Option ℤ → Option (ℤ × ℤ)
with_instance i number = option_map (λ n. (i, n)) number

abbrev pub word_pair : Option ℕ → ℤ × ℕ → Option (ℤ × ℤ)
word_pair code p = with_instance p.0 (word_number code p.1)

abbrev pub block_pair : Option ℕ → ℤ × TypedBytes → Option (ℤ × ℤ)
block_pair code p = with_instance p.0 (block_number code p.1.bytes)

-- the numbers of a set by instance, of an instance that stands there twice the first
abbrev pub numbers_of : Option ℕ → Body → List (ℤ × ℤ)
numbers_of code (InPlace pairs) = firsts int_eq (word_pair code) pairs
numbers_of code (Blocks pairs) = firsts int_eq (block_pair code) pairs
numbers_of code (Status n) = []

abbrev pub entry : List ℕ → ℤ × ℤ → Entry
entry name p = (name, p.0, p.1)

-- the entries of a set under a name
abbrev pub set_entries : List MetaRecord → List ℕ × ValueSet → Row
set_entries records named = map (entry named.0) (numbers_of (code_in (desc_of (description_of named.1.pmid records))) named.1.body)

-- the first name of a description
abbrev pub first_of : Option (List (List ℕ)) → Option (List ℕ)
first_of None = None
first_of (Some names) = slice_get names 0

abbrev pub first_name : List MetaRecord → ValueSet → Option (List ℕ)
first_name records set = first_of (names_of (description_of set.pmid records))

-- a set under its metric's first name, if that has one
abbrev pub under_name : ValueSet → Option (List ℕ) → Option (List ℕ × ValueSet)
under_name set name = option_map (λ n. (n, set)) name

abbrev pub named : List MetaRecord → ValueSet → Option (List ℕ × ValueSet)
named records set = under_name set (first_name records set)

-- a name, unless it isn't watched
abbrev pub if_watched : (List ℕ → Bool) → Option (List ℕ) → Option (List ℕ)
if_watched watched None = None
if_watched watched (Some name) = if watched name then Some name else None

-- the first name of a set's metric, if it is watched
abbrev pub watched_name : (List ℕ → Bool) → List MetaRecord → ValueSet → Option (List ℕ)
watched_name watched records set = if_watched watched (first_name records set)

-- the row of a sample's sets, of those under one name the first alone
abbrev pub row_of : List MetaRecord → List ValueSet → Row
row_of records sets = flat_map (set_entries records) (firsts bytes_eq (named records) sets)

-- One step: the instances and the entries with one more number, which is left out where its instance is among them

abbrev pub instances_with : ℤ → Option ℤ → List ℤ → List ℤ
instances_with i None seen = seen
instances_with i (Some n) seen = if list_any (int_eq i) seen then seen else seen ++ i ∷ []

abbrev pub entries_with : List ℕ → List ℤ → ℤ → Option ℤ → Row → Row
entries_with name seen i None row = row
entries_with name seen i (Some n) row = if list_any (int_eq i) seen then row else row ++ (name, i, n) ∷ []

-- the names and the entries with one more set, which is left out where its name is among them

abbrev pub with_name : List (List ℕ) → List ℕ → List (List ℕ)
with_name names name = if list_any (bytes_eq name) names then names else names ++ name ∷ []

abbrev pub names_with : Option (List ℕ) → List (List ℕ) → List (List ℕ)
names_with None names = names
names_with (Some name) names = with_name names name

abbrev pub row_with : List MetaRecord → ValueSet → Option (List ℕ) → List (List ℕ) → Row → Row
row_with records set None names row = row
row_with records set (Some name) names row = if list_any (bytes_eq name) names then row else row ++ set_entries records (name, set)
