-- The records of Meta and of the temporal index (LOGARCHIVE(5)).
use Rattle.std.specs.Prelude.{◌≡◌, ◌≢◌, ℕ, ℤ, ◌+◌, ◌<◌, ◌≤◌, List, [], ◌∷◌, ◌++◌, length, take, drop, FitsSigned}
use Rattle.std.specs.List.{AllByRecursion}
use Rattle.std.specs.Int.{w32, from_be_bytes}
use Rattle.pcp_base.specs.Time.{Moment, IsMoment}
use Rattle.pcp_base.specs.Texts.{IsText}
use Rattle.pcp_base.specs.declared.desc.Desc.{Desc}
use Rattle.pcp_model.specs.Words.{word, signed_word}
use Rattle.pcp_model.specs.declared.records.MetaRecord.{MetaRecord}
use Rattle.pcp_model.specs.declared.records.MetaRecord.TheVariants.{Description, Domain, Other}
use Rattle.pcp_model.specs.declared.records.Entry.{Entry}

-- a name and its length
abbrev pub counted_name : List ℕ → List ℕ
counted_name name = word (length name) ++ name

abbrev pub counted_names : List (List ℕ) → List ℕ
counted_names [] = []
counted_names (name ∷ names) = counted_name name ++ counted_names names

-- how many bytes they take
abbrev pub names_length : List (List ℕ) → ℕ
names_length [] = 0
names_length (name ∷ names) = 4 + length name + names_length names

-- A description: 1, then the metric's identifier, type, instance domain, semantics and units, and its names.
unfoldable pub description : Desc → List (List ℕ) → List ℕ
description d names =
    word 1 ++ (word d.pmid ++ (word d.code ++ (word d.indom ++ (word d.semantics ++ (word d.units
    ++ (word (length names) ++ counted_names names))))))

-- the numbers of a domain's instances, and their names
abbrev pub instance_words : List (ℤ × List ℕ) → List ℕ
instance_words [] = []
instance_words (p ∷ pairs) = signed_word p.0 ++ instance_words pairs

abbrev pub word_bytes : List ℕ → List ℕ
word_bytes [] = []
word_bytes (n ∷ ns) = word n ++ word_bytes ns

-- names ended by zero bytes, without gaps
abbrev pub name_table : List (ℤ × List ℕ) → List ℕ
name_table [] = []
name_table (p ∷ pairs) = p.1 ++ (0 ∷ name_table pairs)

-- where each of them begins
abbrev pub name_offsets : ℕ → List (ℤ × List ℕ) → List ℕ
name_offsets at [] = []
name_offsets at (p ∷ pairs) = at ∷ name_offsets (at + length p.1 + 1) pairs

-- An instance domain: 2, stamp, domain, the number of instances, their numbers, where their names begin in
-- the table, and the table.
abbrev pub domain_head : Moment → ℕ → List (ℤ × List ℕ) → List ℕ → List ℕ
domain_head t indom pairs offsets =
    word 2 ++ (word t.sec ++ (word t.usec ++ (word indom ++ (word (length pairs) ++ (instance_words pairs ++ word_bytes offsets)))))

-- the writer's spelling: the table has the names in the order of the pairs
unfoldable pub domain : Moment → ℕ → List (ℤ × List ℕ) → List ℕ
domain t indom pairs = domain_head t indom pairs (name_offsets 0 pairs) ++ name_table pairs

-- a name stands in the table from an offset on, ended by a zero byte
pub record NameStands (table : List ℕ) (offset : ℕ) (name : List ℕ) : Type 0 where
  pub text : IsText name
  pub is : take (length name + 1) (drop offset table) ≡ name ++ 0 ∷ []

abbrev pub NamesStand : List ℕ → List ℕ → List (ℤ × List ℕ) → Type 0
NamesStand table [] [] = Unit {0}
NamesStand table (offset ∷ offsets) (p ∷ pairs) = NameStands table offset p.1 × NamesStand table offsets pairs
NamesStand table offsets pairs = Unit {0} → ⊥

-- what a reader takes for this domain: names in any order, shared too
pub record IsDomain (bytes : List ℕ) (t : Moment) (indom : ℕ) (pairs : List (ℤ × List ℕ)) : Type 0 where
  pub moment : IsMoment t
  pub indom_fits : indom < 4294967296
  pub few : length pairs < 2147483648
  pub numbers : AllByRecursion (λ p. FitsSigned w32 p.0) pairs
  pub offsets : List ℕ
  pub table : List ℕ
  pub names : NamesStand table offsets pairs
  pub is : bytes ≡ domain_head t indom pairs offsets ++ table

-- each number of a description fits its word, and no name has a zero byte
pub record DescriptionInRange (d : Desc) (names : List (List ℕ)) : Type 0 where
  pub pmid : d.pmid < 4294967296
  pub code : d.code < 4294967296
  pub indom : d.indom < 4294967296
  pub semantics : d.semantics < 4294967296
  pub units : d.units < 4294967296
  pub few : length names < 4294967296
  pub texts : AllByRecursion (λ name. IsText name × (length name < 4294967296)) names

-- A record of Meta. One that begins with another word than 1 and 2 is stepped over unread.
abbrev pub IsRecord : List ℕ → MetaRecord → Type 0
IsRecord bytes (Description d names) = DescriptionInRange d names × (bytes ≡ description d names)
IsRecord bytes (Domain t indom pairs) = IsDomain bytes t indom pairs
IsRecord bytes Other = (4 ≤ length bytes) × (from_be_bytes w32 (take 4 bytes) ≢ 1) × (from_be_bytes w32 (take 4 bytes) ≢ 2)

-- no two descriptions of one metric differ
abbrev pub Agrees : Desc → List (List ℕ) → MetaRecord → Type 0
Agrees d names (Description e others) = d.pmid ≡ e.pmid → (d ≡ e) × (names ≡ others)
Agrees d names (Domain t indom pairs) = Unit {0}
Agrees d names Other = Unit {0}

abbrev pub AgreesWithAll : MetaRecord → List MetaRecord → Type 0
AgreesWithAll (Description d names) records = AllByRecursion (Agrees d names) records
AgreesWithAll (Domain t indom pairs) records = Unit {0}
AgreesWithAll Other records = Unit {0}

abbrev pub AreConsistent : List MetaRecord → Type 0
AreConsistent [] = Unit {0}
AreConsistent (r ∷ records) = AgreesWithAll r records × AreConsistent records

-- An entry of the index: stamp, volume, and up to where Meta and the volume are then written.
unfoldable pub entry : Entry → List ℕ
entry e = word e.stamp.sec ++ (word e.stamp.usec ++ (word e.volume ++ (word e.meta ++ word e.offset)))

pub record FitsEntry (e : Entry) : Type 0 where
  pub moment : IsMoment e.stamp
  pub volume : e.volume < 2147483648
  pub meta : e.meta < 2147483648
  pub offset : e.offset < 2147483648

abbrev pub entries : List Entry → List ℕ
entries [] = []
entries (e ∷ es) = entry e ++ entries es
