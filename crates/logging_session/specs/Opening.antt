-- The archive that a session goes on with (pmlogger(1)): what recovery left, or where it left no label a new one.
use Rattle.std.specs.Prelude.{◌≡◌, ◌⊎◌, [], None}
use Rattle.pcp_base.specs.declared.file.FileId.{FileId}
use Rattle.pcp_model.specs.Archive.{ArchiveContents}
use Rattle.pcp_model.specs.Disk.{Files, Holdings}
use Rattle.pcp_model.specs.LabelFields.{LabelFields}
use Rattle.archive_recovery.specs.declared.outcome.Archive.{Archive}
use Rattle.logger_core.specs.Going.{AreSmall}
use Rattle.logger_core.specs.Meant.{Kept, IsLogger}
use Rattle.logger_core.specs.Reopening.{as_found, ends_of}
use Rattle.logging_session.specs.Written.{OpensFound}

-- a logger goes on with it, and every byte of it is sure
pub record IsOpened (l : LabelFields) (left : Files) (kept : Kept) (held : Holdings) : Type 0 where
  pub files : Files
  pub contents : ArchiveContents
  pub opens : OpensFound l left files contents
  pub is : IsLogger (as_found files contents) kept held
  pub sure : (file : FileId) → (held file).rest ≡ []

-- why memory is refused as it is opened: a new archive was to be made, or what recovery left is too long to count
abbrev pub MayWantMemory : Archive → Type 0
MayWantMemory archive = (archive.label ≡ None) ⊎ (AreSmall (ends_of archive) → ⊥)
