-- Which instances of a domain hold at a moment (LOGARCHIVE(5)): of its records not stamped after it the one with the
-- greatest stamp, and among equal stamps the last.
use Rattle.std.specs.Prelude.{ℕ, ℤ, ◌&&◌, nat_eq, nat_le, nat_lt, if◌then◌else◌, List, [], ◌∷◌, Option, Some, None}
use Rattle.pcp_base.specs.Time.{Moment, microseconds}
use Rattle.pcp_base.specs.declared.desc.Desc.{Desc}
use Rattle.pcp_model.specs.declared.records.MetaRecord.{MetaRecord}
use Rattle.pcp_model.specs.declared.records.MetaRecord.TheVariants.{Description, Domain, Other}

abbrev pub Pairs : Type 0
Pairs = List (ℤ × List ℕ)

-- a record's stamp and instances, if it is of the domain and not stamped after t
abbrev pub candidate : ℕ → Moment → MetaRecord → Option (ℕ × Pairs)
candidate indom t (Description d names) = None
candidate indom t (Domain s i pairs) = if nat_eq i indom && nat_le (microseconds s) (microseconds t) then Some (microseconds s, pairs) else None
candidate indom t Other = None

-- the later of two, the second behind the first
abbrev pub later_of : Option (ℕ × Pairs) → Option (ℕ × Pairs) → Option (ℕ × Pairs)
later_of found None = found
later_of None (Some b) = Some b
later_of (Some a) (Some b) = if nat_lt b.0 a.0 then Some a else Some b

abbrev pub holding : List MetaRecord → ℕ → Moment → Option (ℕ × Pairs)
holding [] indom t = None
holding (r ∷ records) indom t = later_of (candidate indom t r) (holding records indom t)

abbrev pub pairs_or_none : Option (ℕ × Pairs) → Pairs
pairs_or_none None = []
pairs_or_none (Some found) = found.1

-- the instances of a metric's domain at a moment; none where nothing is known of it
abbrev pub instances_at : List MetaRecord → Option Desc → Moment → Pairs
instances_at records None t = []
instances_at records (Some d) t = pairs_or_none (holding records d.indom t)
