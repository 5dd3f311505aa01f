-- The archive of a session (pmlogger(1), LOGARCHIVE(5)) as whole files: what recovery left, until it is opened, and from then on what
-- was logged into it.
use Rattle.std.specs.Prelude.{◌≡◌, ◌⊎◌, ℕ, [], ◌∷◌, ◌++◌, option_to_list}
use Rattle.pcp_base.specs.Time.{Moment}
use Rattle.pcp_base.specs.declared.result.Item.TheVariants.{Sample}
use Rattle.pcp_base.specs.declared.result.PmResult.{PmResult}
use Rattle.pcp_model.specs.Archive.{ArchiveContents, IsArchive, items_of}
use Rattle.pcp_model.specs.Disk.{Files, IsEmpty}
use Rattle.pcp_model.specs.LabelFields.{LabelFields}
use Rattle.pcp_model.specs.Laws.{EndsWhole}
use Rattle.pcp_model.specs.Written.{created_files}
use Rattle.archive_meta.specs.declared.facts.Facts.{Facts}
use Rattle.logger_core.specs.declared.ends.Ends.{Ends}
use Rattle.logger_core.specs.declared.fault.LogFault.{LogFault}
use Rattle.logger_core.specs.Created.{no_items}
use Rattle.logger_core.specs.Logging.{IsLoggable, IsRefused}
use Rattle.logger_core.specs.LogSteps.{LogStep, entries_put}
use Rattle.logger_core.specs.Meant.{AreEnds}
use Rattle.logger_core.specs.Reopening.{as_found}
use Rattle.logger_core.specs.Steps.{FlushStep, due_in, greatest_in, has_item}

-- files, what they are read as, and the volume that is written
pub record Written : Type 0 where
  pub files : Files
  pub contents : ArchiveContents
  pub volume : ℕ

-- before the archive is opened, and from then on
pub data Stand : Type 0 where
  found : Files → Stand
  opened : Written → Stand

abbrev pub files_of : Stand → Files
files_of (Stand.found left) = left
files_of (Stand.opened w) = w.files

-- a result, and what describes it
pub record Report : Type 0 where
  pub result : PmResult
  pub facts : Facts

-- the label of an archive that begins at a moment
abbrev pub starting : LabelFields → Moment → LabelFields
starting l stamp = record { pid = l.pid; start = stamp; host = l.host; zone = l.zone }

-- what recovery left is opened as it is, or where it left no label a new archive is made
abbrev pub OpensFound : LabelFields → Files → Files → ArchiveContents → Type 0
OpensFound l left files c = (IsEmpty left × (files ≡ created_files l) × (c ≡ no_items l)) ⊎ ((files ≡ left) × IsArchive left c)

abbrev pub Opens : LabelFields → Files → Written → Type 0
Opens l left w = OpensFound l left w.files w.contents × EndsWhole w.files w.contents w.volume

-- what a logger keeps in numbers of it
pub record EndsAre (w : Written) (ends : Ends) : Type 0 where
  pub are : AreEnds (as_found w.files w.contents) ends
  pub volume : ends.volume ≡ w.volume

-- A result is logged into an archive. A session retires no volume: the greatest stamp, and whether an item stands, are as the files give
-- them.
pub record Logs (limit : ℕ) (r : Report) (old new : Written) : Type 0 where
  pub ends : Ends
  pub ends_are : EndsAre old ends
  pub loggable : IsLoggable old.contents.records ends limit r.result r.facts
  pub step : LogStep old.files old.contents old.volume (greatest_in old.contents) (has_item old.contents) limit r.result r.facts new.files
  pub is : IsArchive new.files new.contents
  pub records : new.contents.records ≡ old.contents.records ++ step.missing
  pub entries : new.contents.entries ≡ old.contents.entries ++ entries_put step.crossing old.files old.contents old.volume (greatest_in old.contents) (has_item old.contents)
  pub items : items_of new.contents.volumes ≡ items_of old.contents.volumes ++ Sample r.result ∷ []
  pub last : EndsWhole new.files new.contents new.volume

-- an archive that doesn't take a result, for this reason
pub record Refuses (limit : ℕ) (r : Report) (w : Written) (fault : LogFault) : Type 0 where
  pub ends : Ends
  pub ends_are : EndsAre w ends
  pub refused : IsRefused w.contents.records ends limit r.result r.facts fault

-- an archive that takes a result: it is later than all that is there, can be described, and has place
pub record Takes (limit : ℕ) (r : Report) (w : Written) : Type 0 where
  pub ends : Ends
  pub ends_are : EndsAre w ends
  pub loggable : IsLoggable w.contents.records ends limit r.result r.facts

-- a flush
pub record Flushes (old new : Written) : Type 0 where
  pub step : FlushStep old.files old.contents old.volume (greatest_in old.contents) (has_item old.contents) new.files
  pub is : IsArchive new.files new.contents
  pub records : new.contents.records ≡ old.contents.records
  pub entries : new.contents.entries ≡ old.contents.entries ++ option_to_list (due_in old.files old.contents old.volume (greatest_in old.contents) (has_item old.contents))
  pub items : items_of new.contents.volumes ≡ items_of old.contents.volumes
  pub volume : new.volume ≡ old.volume
  pub last : EndsWhole new.files new.contents new.volume
