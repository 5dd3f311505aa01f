-- What the files of an archive sum up to, or why they are turned away.
use Rattle.std.specs.Prelude.{◌≡◌, ◌⊎◌, ℕ, List}
use Rattle.pcp_base.specs.Time.{Moment}
use Rattle.pcp_base.specs.declared.file.FileId.{FileId}
use Rattle.pcp_base.specs.declared.result.Item.{Item}
use Rattle.pcp_model.specs.Archive.{ArchiveReading, Reads, records_in, scan}
use Rattle.pcp_model.specs.Disk.{Files}
use Rattle.archive_loading.specs.LoadFaults.{NotLoaded}
use Rattle.archive_loading.specs.Loaded.{Loaded, IsOver}
use Rattle.archive_reader.specs.Walks.{StopsAt}
use Rattle.log_summary.specs.Lines.{summary_text}

-- The files are read as an archive, and the text is the summary of the whole scan between two moments, by what Meta says. The number of workers
-- has no part in it.
pub record SumsUp (files : Files) (from to : Moment) (text : List ℕ) : Type 0 where
  pub reading : ArchiveReading
  pub reads : Reads files reading
  pub is : text ≡ summary_text (records_in reading) from to (scan reading)

-- This offset of this file fits no archive: apart from the records of volumes it is the first such; or, where that is as it should be, the first
-- record of a volume that is no item's begins there.
abbrev pub FitsNone : Files → FileId → ℕ → Type 0
FitsNone files file at = NotLoaded files file at ⊎ ((r : Loaded) × IsOver files r × (items : List Item) × StopsAt files r.volumes 132 items file at)
