-- A logger of an archive that recovery left: all its items are acknowledged.
use Rattle.std.specs.Prelude.{◌≡◌, ℕ, ◌+◌, ◌*◌, false, [], length}
use Rattle.pcp_base.specs.declared.file.FileId.{FileId}
use Rattle.pcp_model.specs.Archive.{ArchiveContents, ArchiveReading, items_of}
use Rattle.pcp_model.specs.Disk.{Files, Holdings, contents_of}
use Rattle.archive_recovery.specs.declared.outcome.Archive.{Archive}
use Rattle.archive_recovery.specs.Told.{WasRecovered}
use Rattle.logger_core.specs.declared.ends.Ends.{Ends}
use Rattle.logger_core.specs.Meant.{Meant, Kept, IsLogger}
use Rattle.logger_core.specs.Steps.{greatest_in, last_entry}

-- this is told of what recovery left, and every byte of it is sure
pub record IsLeft (archive : Archive) (held : Holdings) : Type 0 where
  pub files : Files
  pub recovered : WasRecovered files (contents_of held) archive
  pub sure : (file : FileId) → (held file).rest ≡ []

-- what is kept in numbers of an archive of which this is told
abbrev pub ends_of : Archive → Ends
ends_of a = record { meta = a.meta_length; index = 132 + 20 * length a.index; volume = a.volume; length = a.length; greatest = a.last; entry = last_entry a.index; logged = a.items; acknowledged = a.items }

-- An archive as it stood when it was opened: nothing is meant that it doesn't hold, no item of it is gone, and the files give the greatest
-- stamp.
abbrev pub as_found : Files → ArchiveContents → Meant
as_found files c = record {
  start = record { files = files; reading = ArchiveReading.archive c };
  files = files;
  contents = c;
  acknowledged = length (items_of c.volumes);
  gone = 0;
  greatest = greatest_in c;
}

pub record IsReopened (limit : ℕ) (kept : Kept) (held : Holdings) : Type 0 where
  pub contents : ArchiveContents
  pub is : IsLogger (as_found (contents_of held) contents) kept held
  pub open_ : kept.closed ≡ false
  pub limit_is : kept.limit ≡ limit

-- the files as they stand
abbrev pub SameFiles : Holdings → Files → Type 0
SameFiles held image = (file : FileId) → image file ≡ contents_of held file
