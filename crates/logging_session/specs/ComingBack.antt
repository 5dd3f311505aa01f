-- What a crash leaves of a run: recovery leaves all items that there were, and perhaps the first new ones behind them.
use Rattle.std.specs.Prelude.{ℕ, ◌+◌, List, ◌++◌, drop, length}
use Rattle.std.specs.List.{AllByRecursion}
use Rattle.pcp_base.specs.declared.result.Item.{Item}
use Rattle.pcp_model.specs.Archive.{ArchiveReading, Reads, records_in, scan}
use Rattle.pcp_model.specs.Described.{Described}
use Rattle.pcp_model.specs.Disk.{Files, Holdings, IsSettled, contents_of}
use Rattle.pcp_model.specs.Recovered.{Recovers, recovered_reading}
use Rattle.logger_core.specs.Keeps.{Start}
use Rattle.logger_core.specs.Recovering.{HoldsFirst}

-- The files can be read, and recovery leaves of them the first of these items, at least so many, each with its metadata, and
-- sound: where the archive was so at the start. Those behind the items of the start are described in any case.
pub record ComesBack (s : Start) (items : List Item) (least : ℕ) (image : Files) : Type 0 where
  pub reading : ArchiveReading
  pub reads : Reads image reading
  pub comes : (again : Files) → Recovers image reading again → HoldsFirst s items least again (recovered_reading image reading)
  pub new : AllByRecursion (Described (records_in reading)) (drop (length (scan s.reading)) (scan reading))

-- the archive at the start: what recovery leaves of files that are read so
abbrev pub start_of : Files → ArchiveReading → Files → Start
start_of files r left = record { files = left; reading = recovered_reading files r }

-- of files of which recovery left these: all items of the start, and of those more at least k
abbrev pub ComesBackTo : List Item → ℕ → Files → Files → Type 0
ComesBackTo more k left image =
    (files : Files) (r : ArchiveReading) → Reads files r → Recovers files r left → ComesBack (start_of files r left) (scan r ++ more) (length (scan r) + k) image

-- what a crash leaves at any moment from these files on, on a settled disk, with at least k of those more
abbrev pub MayBeAfter : List Item → ℕ → Holdings → Files → Type 0
MayBeAfter more k held image =
    IsSettled held → (r : ArchiveReading) → Reads (contents_of held) r → (left : Files) → Recovers (contents_of held) r left
    → ComesBack (start_of (contents_of held) r left) (scan r ++ more) (length (scan r) + k) image
