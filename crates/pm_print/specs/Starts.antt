-- What is kept of a metric while items are printed, and which sets name no instance.
use Rattle.std.specs.Prelude.{◌≡◌, ℤ, negsuc, List, [], ◌∷◌}
use Rattle.std.specs.List.{All}
use Rattle.pcp_base.specs.declared.result.Body.{Body}
use Rattle.pcp_base.specs.declared.result.Body.TheVariants.{InPlace, Blocks, Status}
use Rattle.pcp_model.specs.declared.records.MetaRecord.{MetaRecord}
use Rattle.archive_meta.specs.Said.{description_of, desc_of}
use Rattle.pm_print.specs.declared.starts.Start.{Start}
use Rattle.pm_print.specs.Sets.{head_text}

-- it is what the records say of this metric
pub record IsSaid (records : List MetaRecord) (start : Start) : Type 0 where
  pub head : start.head.items ≡ head_text records start.pmid
  pub desc : start.desc ≡ desc_of (description_of start.pmid records)

abbrev pub AreSaid : List MetaRecord → List Start → Type 0
AreSaid records starts = All (IsSaid records) starts

-- one value, of the null instance
abbrev pub IsLone : {T : Type 0} → List (ℤ × T) → Type 0
IsLone {T} values = (value : T) × (values ≡ (negsuc 0, value) ∷ [])

-- a set that names no instance: it has a status, or one value of the null instance
abbrev pub NamesNone : Body → Type 0
NamesNone (InPlace values) = IsLone values
NamesNone (Blocks values) = IsLone values
NamesNone (Status n) = Unit {0}
