-- The files after one logged item, as whole lists (pmlogger(1), LOGARCHIVE(5)): where the item's record would pass the volume
-- limit the archive goes on in the next volume; then come the metadata that are missing, and then the item. The logger gives, beside the
-- files, the greatest stamp and whether an item stood.
use Rattle.std.specs.Prelude.{◌≡◌, ℕ, pos, ◌+◌, Bool, ◌&&◌, nat_lt, if◌then◌else◌, List, [], ◌++◌, length, Option, None, Some, option_to_list}
use Rattle.pcp_base.specs.Time.{Moment}
use Rattle.pcp_base.specs.declared.file.FileId.{FileId}
use Rattle.pcp_base.specs.declared.file.FileId.TheVariants.{Meta, Index, Volume}
use Rattle.pcp_base.specs.declared.result.PmResult.{PmResult}
use Rattle.pcp_model.specs.declared.records.Entry.{Entry}
use Rattle.pcp_model.specs.declared.records.MetaRecord.{MetaRecord}
use Rattle.pcp_model.specs.Archive.{ArchiveContents}
use Rattle.pcp_model.specs.Disk.{Files}
use Rattle.pcp_model.specs.Frame.{frame}
use Rattle.pcp_model.specs.LabelFields.{LabelFields}
use Rattle.pcp_model.specs.Labels.{label}
use Rattle.pcp_model.specs.Payload.{payload, payload_length}
use Rattle.pcp_model.specs.Written.{with_added}
use Rattle.archive_meta.specs.declared.facts.Facts.{Facts}
use Rattle.archive_meta.specs.Missing.{AreMissing, framed_records}
use Rattle.logger_core.specs.Steps.{up_to, fitting, due_in, with_entry}

-- The volume holds a record, and with one of so many bytes more it would pass the limit.
abbrev pub crosses : ℕ → ℕ → ℕ → Bool
crosses limit size more = nat_lt 132 size && nat_lt limit (size + more)

-- the entry behind a switch: up to the end of Meta and to the label of the next volume
abbrev pub switch_entry : Option Moment → ℕ → ℕ → ℕ → Option Entry
switch_entry None size next meta = None
switch_entry (Some t) size next meta = fitting size (up_to t next meta 132)

-- these files with the label of a volume, and then that entry
abbrev pub with_new_volume : LabelFields → ℕ → Files → Files
with_new_volume l next files = with_added (Volume next) (label l (pos next)) files

abbrev pub with_next : LabelFields → ℕ → Option Moment → Files → Files
with_next l next greatest files = with_entry (switch_entry greatest (length (files Index)) next (length (files Meta))) (with_new_volume l next files)

-- a switch to the next volume: a flush, the label, the entry
abbrev pub files_after_switch : Files → ArchiveContents → ℕ → Option Moment → Bool → Files
files_after_switch files c number greatest stood = with_next c.label (number + 1) greatest (with_entry (due_in files c number greatest stood) files)

abbrev pub base_files : Bool → Files → ArchiveContents → ℕ → Option Moment → Bool → Files
base_files b files c number greatest stood = if b then files_after_switch files c number greatest stood else files

-- the entries that a switch puts behind the index
abbrev pub switch_entries : Option Entry → Option Moment → ℕ → ℕ → ℕ → List Entry
switch_entries flushed greatest size next meta = option_to_list flushed ++ option_to_list (switch_entry greatest size next meta)

abbrev pub entries_put : Bool → Files → ArchiveContents → ℕ → Option Moment → Bool → List Entry
entries_put b files c number greatest stood =
    if b then switch_entries (due_in files c number greatest stood) greatest (length (with_entry (due_in files c number greatest stood) files Index)) (number + 1) (length (with_entry (due_in files c number greatest stood) files Meta)) else []

abbrev pub base_number : Bool → ℕ → ℕ
base_number b number = if b then number + 1 else number

-- metadata behind Meta, and then records behind a volume
abbrev pub with_run : ℕ → List ℕ → List ℕ → Files → Files
with_run number records items files = with_added (Volume number) items (with_added Meta records files)

-- The files after one logged item.
pub record LogStep (files : Files) (c : ArchiveContents) (number : ℕ) (greatest : Option Moment) (stood : Bool) (limit : ℕ) (answer : PmResult) (facts : Facts) (new : Files) : Type 0 where
  pub missing : List MetaRecord
  pub needed : AreMissing c.records facts answer missing
  pub crossing : Bool
  pub crosses_is : crossing ≡ crosses limit (length (files (Volume number))) (payload_length answer + 8)
  pub is : (file : FileId) → new file ≡ with_run (base_number crossing number) (framed_records missing) (frame (payload answer)) (base_files crossing files c number greatest stood) file
