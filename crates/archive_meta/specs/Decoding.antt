-- What a record of Meta says, read (LOGARCHIVE(5)) from left to right, if it is one.
use Rattle.std.specs.Prelude.{ℕ, zero, suc, ℤ, ◌+◌, List, [], ◌∷◌, length, take, drop, Option, Some, None, nat_lt, ◌==◌, ◌&&◌, if◌then◌else◌}
use Rattle.std.specs.Int.{w32}
use Rattle.pcp_base.specs.Fields.{be_field}
use Rattle.pcp_base.specs.Time.{Moment}
use Rattle.pcp_base.specs.declared.desc.Desc.{Desc}
use Rattle.pcp_model.specs.Instances.{◌>>=◌, text_of, instances_in}
use Rattle.pcp_model.specs.declared.records.MetaRecord.{MetaRecord}
use Rattle.pcp_model.specs.declared.records.MetaRecord.TheVariants.{Description, Domain, Other}

-- the name with which bytes begin, whose length stands in front of it
unfoldable pub first_name : List ℕ → Option (List ℕ)
first_name bytes = do
  size ← be_field w32 0 bytes
  if nat_lt (length (drop 4 bytes)) size then None else text_of (take size (drop 4 bytes))

-- so many names, and nothing behind them
unfoldable pub names_from : ℕ → List ℕ → Option (List (List ℕ))
names_from zero [] = Some []
names_from zero (b ∷ bytes) = None
names_from (suc n) bytes = do
  name ← first_name bytes
  others ← names_from n (drop (4 + length name) bytes)
  Some (name ∷ others)

unfoldable pub desc_in : List ℕ → Option Desc
desc_in bytes = do
  pmid ← be_field w32 4 bytes
  code ← be_field w32 8 bytes
  indom ← be_field w32 12 bytes
  semantics ← be_field w32 16 bytes
  units ← be_field w32 20 bytes
  Some (record { pmid = pmid; code = code; indom = indom; semantics = semantics; units = units })

unfoldable pub description_in : List ℕ → Option (Desc × List (List ℕ))
description_in bytes = do
  desc ← desc_in bytes
  count ← be_field w32 24 bytes
  names ← names_from count (drop 28 bytes)
  Some (desc, names)

unfoldable pub stamp_in : List ℕ → Option Moment
stamp_in bytes = do
  sec ← be_field w32 4 bytes
  usec ← be_field w32 8 bytes
  if nat_lt sec 2147483648 && nat_lt usec 1000000 then Some (record { sec = sec; usec = usec }) else None

unfoldable pub domain_in : List ℕ → Option (Moment × ℕ × List (ℤ × List ℕ))
domain_in bytes = do
  stamp ← stamp_in bytes
  indom ← be_field w32 12 bytes
  count ← be_field w32 16 bytes
  pairs ← instances_in count (drop 20 bytes)
  Some (stamp, indom, pairs)

-- the record that a payload is
unfoldable pub record_in : List ℕ → Option MetaRecord
record_in bytes = do
  first ← be_field w32 0 bytes
  if first == 1 then (description_in bytes >>= λ d. Some (Description d.0 d.1))
      else if first == 2 then (domain_in bytes >>= λ d. Some (Domain d.0 d.1 d.2))
      else Some Other

-- the stamp of a payload whose first word is a domain's
unfoldable pub stamped_in : List ℕ → Option Moment
stamped_in bytes = do
  first ← be_field w32 0 bytes
  if first == 2 then stamp_in bytes else None
