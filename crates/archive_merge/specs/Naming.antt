-- What a source says of a metric, and of the instances of a domain at a moment (LOGARCHIVE(5)).
use Rattle.std.specs.Prelude.{ℕ, ℤ, Bool, true, false, not, ◌&&◌, nat_eq, nat_le, nat_lt, bytes_eq, is_some, if◌then◌else◌, List, [], ◌∷◌, Option, Some, None}
use Rattle.std.specs.List.{list_any, list_all}
use Rattle.std.specs.Ordering.{int_eq}
use Rattle.pcp_base.specs.Time.{Moment, microseconds}
use Rattle.pcp_base.specs.declared.desc.Desc.{Desc}
use Rattle.pcp_base.specs.declared.result.Body.{Body}
use Rattle.pcp_base.specs.declared.result.Body.TheVariants.{InPlace, Blocks, Status}
use Rattle.pcp_model.specs.declared.records.MetaRecord.{MetaRecord}
use Rattle.pcp_model.specs.declared.records.MetaRecord.TheVariants.{Description, Domain, Other}
use Rattle.archive_meta.specs.Said.{description_of, desc_of, names_of}

-- ---- metrics

abbrev pub fact_from : Option Desc → Option (List (List ℕ)) → Option (Desc × List ℕ)
fact_from None names = None
fact_from (Some d) None = None
fact_from (Some d) (Some []) = None
fact_from (Some d) (Some (name ∷ names)) = Some (d, name)

-- a metric's description with its first name, where it has both
abbrev pub fact_about : List MetaRecord → ℕ → Option (Desc × List ℕ)
fact_about records pmid = fact_from (desc_of (description_of pmid records)) (names_of (description_of pmid records))

-- ---- instances

abbrev pub Pairs : Type 0
Pairs = List (ℤ × List ℕ)

-- a record's stamp and instances, if it is of the domain and not stamped after t
abbrev pub candidate : ℕ → Moment → MetaRecord → Option (ℕ × Pairs)
candidate indom t (Description d names) = None
candidate indom t (Domain s i pairs) = if nat_eq i indom && nat_le (microseconds s) (microseconds t) then Some (microseconds s, pairs) else None
candidate indom t Other = None

-- the later of two, the second behind the first
abbrev pub later_of : Option (ℕ × Pairs) → Option (ℕ × Pairs) → Option (ℕ × Pairs)
later_of found None = found
later_of None (Some b) = Some b
later_of (Some a) (Some b) = if nat_lt b.0 a.0 then Some a else Some b

abbrev pub holding : List MetaRecord → ℕ → Moment → Option (ℕ × Pairs)
holding [] indom t = None
holding (r ∷ records) indom t = later_of (candidate indom t r) (holding records indom t)

abbrev pub pairs_or_none : Option (ℕ × Pairs) → Pairs
pairs_or_none None = []
pairs_or_none (Some found) = found.1

-- the instances that hold of a domain at a moment; none where no record of it does
abbrev pub pairs_at : List MetaRecord → ℕ → Moment → Pairs
pairs_at records indom t = pairs_or_none (holding records indom t)

-- the name of an instance: that of the first pair with its number
abbrev pub name_in : ℤ → Pairs → Option (List ℕ)
name_in instance [] = None
name_in instance (p ∷ pairs) = if int_eq p.0 instance then Some p.1 else name_in instance pairs

-- whether a pair has this number
abbrev pub is_numbered : ℤ → Option (ℤ × List ℕ) → Bool
is_numbered instance None = false
is_numbered instance (Some p) = int_eq p.0 instance

-- whether all that a set shows have names
abbrev pub names_all : Pairs → Body → Bool
names_all pairs (InPlace shown) = list_all (λ p. is_some (name_in p.0 pairs)) shown
names_all pairs (Blocks shown) = list_all (λ p. is_some (name_in p.0 pairs)) shown
names_all pairs (Status n) = true

-- whether both are there, and differ
abbrev pub differ : Option (List ℕ) → Option (List ℕ) → Bool
differ None other = false
differ (Some name) None = false
differ (Some name) (Some other) = not (bytes_eq name other)

-- whether one of those that a set shows has a name in either list, and another in the second
abbrev pub renames : Pairs → Pairs → Body → Bool
renames first second (InPlace shown) = list_any (λ p. differ (name_in p.0 first) (name_in p.0 second)) shown
renames first second (Blocks shown) = list_any (λ p. differ (name_in p.0 first) (name_in p.0 second)) shown
renames first second (Status n) = false
