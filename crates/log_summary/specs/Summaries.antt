-- The summary of an archive: of its volumes so far, and of all.
use Rattle.std.specs.Prelude.{◌≡◌, ◌⊎◌, ℕ, List, ◌++◌, Option, None}
use Rattle.pcp_base.specs.Time.{Moment}
use Rattle.pcp_base.specs.declared.file.FileId.{FileId}
use Rattle.pcp_base.specs.declared.result.Item.{Item}
use Rattle.pcp_model.specs.declared.records.MetaRecord.{MetaRecord}
use Rattle.pcp_model.specs.Disk.{Files}
use Rattle.archive_loading.specs.Loaded.{Loaded, IsOver}
use Rattle.archive_reader.specs.LoadFaults.{IsLoadFault}
use Rattle.archive_reader.specs.Laws.{IsReadAs}
use Rattle.archive_reader.specs.Values.{IsWholeFault}
use Rattle.archive_reader.specs.Walks.{AllFrom, StopsAt}
use Rattle.archive_reader.specs.declared.fault.ReaderFault.{ReaderFault}
use Rattle.log_summary.specs.Lines.{summary_text}
use Rattle.log_summary.specs.Tables.{Rows}
use Rattle.log_summary.specs.Volumes.{table_between}

-- what stands in the volumes from one on goes on behind these items of the volumes before it
pub record GoOn (files : Files) (volumes vs : List (ℕ × ℕ)) (items : List Item) : Type 0 where
  pub all : (others : List Item) → AllFrom files vs 132 others → AllFrom files volumes 132 (items ++ others)
  pub stop : (others : List Item) (file : FileId) (offset : ℕ) → StopsAt files vs 132 others file offset → StopsAt files volumes 132 (items ++ others) file offset

-- the table is that of all items of the volumes before these
pub record IsSoFar (files : Files) (volumes : List (ℕ × ℕ)) (records : List MetaRecord) (from to : Moment) (vs : List (ℕ × ℕ)) (table : Rows) : Type 0 where
  pub items : List Item
  pub goes : GoOn files volumes vs items
  pub is : table ≡ table_between records from to items

-- the table is that of all items of all volumes
pub record IsTableOf (files : Files) (volumes : List (ℕ × ℕ)) (records : List MetaRecord) (from to : Moment) (table : Rows) : Type 0 where
  pub items : List Item
  pub all : AllFrom files volumes 132 items
  pub is : table ≡ table_between records from to items

-- the files are an archive, and the text is the summary of its scan by what its Meta says
pub record IsSummary (files : Files) (from to : Moment) (text : List ℕ) : Type 0 where
  pub loaded : Loaded
  pub over : IsOver files loaded
  pub items : List Item
  pub all : AllFrom files loaded.volumes 132 items
  pub read : IsReadAs files loaded.records items
  pub is : text ≡ summary_text loaded.records from to items

-- a file stands wrapped; or none does, and the files aren't loaded or a record of a volume is no item's
abbrev pub IsSummaryFault : Option FileId → Files → ReaderFault → Type 0
IsSummaryFault wrapped files e = IsLoadFault wrapped files e ⊎ ((wrapped ≡ None) × (r : Loaded) × IsOver files r × IsWholeFault files r.volumes e)
