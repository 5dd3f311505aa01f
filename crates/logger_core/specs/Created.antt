-- A logger's archive when it is created, and what a crash leaves meanwhile.
use Rattle.std.specs.Prelude.{◌≡◌, ℕ, false, [], ◌∷◌, None}
use Rattle.pcp_base.specs.declared.file.FileId.{FileId}
use Rattle.pcp_model.specs.Archive.{ArchiveContents, ArchiveReading, Reads, scan}
use Rattle.pcp_model.specs.Disk.{Files, Holdings}
use Rattle.pcp_model.specs.LabelFields.{LabelFields}
use Rattle.pcp_model.specs.Sound.{IsSound}
use Rattle.pcp_model.specs.Written.{created_files}
use Rattle.archive_recovery.specs.Laws.{AreLabelled, entries_in}
use Rattle.logger_core.specs.declared.ends.Ends.{Ends}
use Rattle.logger_core.specs.Keeps.{is_sure}
use Rattle.logger_core.specs.Meant.{Meant, Kept, IsLogger}

-- files that are readable and sound, without an item
pub record HasNoItem (image : Files) : Type 0 where
  pub reading : ArchiveReading
  pub reads : Reads image reading
  pub sound : IsSound image reading
  pub none : scan reading ≡ []
  -- so recovery keeps it sound
  pub labelled : AreLabelled image (entries_in reading)

-- an archive without a record, entry or item, in which the first volume is written
abbrev pub no_items : LabelFields → ArchiveContents
no_items l = record { label = l; records = []; entries = []; volumes = (0, []) ∷ [] }

abbrev pub new_archive : LabelFields → Meant
new_archive l = record { start = record { files = created_files l; reading = ArchiveReading.archive (no_items l) }; files = created_files l; contents = no_items l; acknowledged = 0; gone = 0; greatest = None }

abbrev pub first_ends : Ends
first_ends = record { meta = 132; index = 132; volume = 0; length = 132; greatest = None; entry = None; logged = 0; acknowledged = 0 }

-- the three labels stand, synced, and no other byte
abbrev pub HoldsLabels : LabelFields → Holdings → Type 0
HoldsLabels l held = (file : FileId) → held file ≡ is_sure (created_files l file)

pub record IsCreated (l : LabelFields) (limit : ℕ) (kept : Kept) (held : Holdings) : Type 0 where
  pub labels : HoldsLabels l held
  pub is : IsLogger (new_archive l) kept held
  pub open_ : kept.closed ≡ false
  pub limit_is : kept.limit ≡ limit
