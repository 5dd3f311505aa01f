-- Over any files there is one answer: loading keeps one archive or none, and a search finds one thing, or stops at one place.
use Rattle.std.specs.Prelude.{◌≡◌, ℕ}
use Rattle.pcp_base.specs.Time.{Moment}
use Rattle.pcp_base.specs.declared.file.FileId.{FileId}
use Rattle.pcp_model.specs.Disk.{Files}
use Rattle.archive_loading.specs.LoadFaults.{NotLoaded}
use Rattle.archive_loading.specs.Loaded.{Loaded, IsOver}
use Rattle.archive_reader.specs.declared.fault.ReaderFault.TheVariants.{NotArchive}
use Rattle.archive_reader.specs.Asked.{IsAtFrom, IsAtFault, IsRangeFrom, IsRangeFault, at_begin, range_begin}
use Rattle.archive_reader.specs.Values.{IsValueAt, IsValueFault}

-- files are loaded as one archive, and no place of files that are loaded fits none
pub record LoadsOnce (files : Files) : Type 0 where
  pub kept : (r s : Loaded) → IsOver files r → IsOver files s → r ≡ s
  pub apart : (r : Loaded) (file : FileId) (offset : ℕ) → IsOver files r → NotLoaded files file offset → ⊥

abbrev pub LoadAnswersOnce : Type 0
LoadAnswersOnce = (files : Files) → LoadsOnce files

-- one thing is found, or a search stops at one place, and never both
pub record AnswersOnce {A : Type 0} (Found : A → Type 0) (Stops : FileId → ℕ → Type 0) : Type 0 where
  pub found : (x y : A) → Found x → Found y → x ≡ y
  pub stops : (file other : FileId) (offset elsewhere : ℕ) → Stops file offset → Stops other elsewhere → (file ≡ other) × (offset ≡ elsewhere)
  pub apart : (x : A) (file : FileId) (offset : ℕ) → Found x → Stops file offset → ⊥

abbrev pub AtAnswersOnce : Type 0
AtAnswersOnce = (files : Files) (r : Loaded) (t : Moment)
    → AnswersOnce (IsAtFrom files r.volumes t (at_begin r t)) (λ file offset. IsAtFault files r.volumes t (at_begin r t) (NotArchive file offset))

abbrev pub RangeAnswersOnce : Type 0
RangeAnswersOnce = (files : Files) (r : Loaded) (from to : Moment)
    → AnswersOnce (IsRangeFrom files r.volumes from to (range_begin r from)) (λ file offset. IsRangeFault files r.volumes to (range_begin r from) (NotArchive file offset))

abbrev pub ValueAnswersOnce : Type 0
ValueAnswersOnce = (files : Files) (r : Loaded) (pmid : ℕ) (t : Moment)
    → AnswersOnce (IsValueAt files r.volumes pmid t) (λ file offset. IsValueFault files r.volumes pmid t (NotArchive file offset))
