-- How a call goes on: what it makes of what a logger means, and what the disk then holds.
use Rattle.std.specs.Prelude.{◌≡◌, ℕ, ◌+◌, ◌<◌, ◌≤◌, Bool, if◌then◌else◌, List, [], ◌++◌, length, Option, None, Some, option_to_list}
use Rattle.pcp_base.specs.declared.file.FileId.{FileId}
use Rattle.pcp_base.specs.declared.file.FileId.TheVariants.{Volume}
use Rattle.pcp_base.specs.declared.result.Item.{Item}
use Rattle.pcp_model.specs.declared.records.Entry.{Entry}
use Rattle.pcp_model.specs.declared.records.MetaRecord.{MetaRecord}
use Rattle.pcp_model.specs.Disk.{Files, Holdings, bytes_of}
use Rattle.pcp_model.specs.Laws.{IsLonger}
use Rattle.logger_core.specs.declared.ends.Ends.{Ends}
use Rattle.logger_core.specs.Meant.{Meant, items_in, stood_in, AreEnds, Stands, IsAt, Kept, IsLogger}
use Rattle.logger_core.specs.Steps.{FlushStep, due_in, with_entry}

-- no count of bytes is near what 64 bits hold, and the volume's number fits a label
pub record AreSmall (e : Ends) : Type 0 where
  pub volume : e.volume < 2147483648
  pub meta : e.meta < 9223372036854775808
  pub index : e.index < 9223372036854775808
  pub length_small : e.length < 9223372036854775808

-- what holds of every logger: its counts are such, and so is its volume limit
pub record IsReachable (e : Ends) (limit : ℕ) : Type 0 where
  pub small : AreSmall e
  pub limited : limit ≤ 1073741824

-- the same, with so many items acknowledged
abbrev pub acknowledging : ℕ → Meant → Meant
acknowledging n m = record { start = m.start; files = m.files; contents = m.contents; acknowledged = n; gone = m.gone; greatest = m.greatest }

-- all items are acknowledged
abbrev pub all_acknowledged : Meant → Meant
all_acknowledged m = acknowledging (length (items_in m)) m

-- How many items are acknowledged once one more is logged: as many as were, or where the archive went on in the next volume all
-- that stood before it.
abbrev pub acknowledged_before : Bool → Meant → ℕ
acknowledged_before crossing m = if crossing then length (items_in m) else m.acknowledged

-- the same numbers, with every item counted as acknowledged
abbrev pub all_counted : Ends → Ends
all_counted e = record { meta = e.meta; index = e.index; volume = e.volume; length = e.length; greatest = e.greatest; entry = e.entry; logged = e.logged; acknowledged = e.logged }

-- the same logger, which counts so
abbrev pub counting_all : Kept → Kept
counting_all l = record { label = l.label; records = l.records; ends = all_counted l.ends; limit = l.limit; closed = l.closed }

-- all bytes of a volume are sure
abbrev pub IsVolumeSure : ℕ → Holdings → Type 0
IsVolumeSure number held = (held (Volume number)).rest ≡ []

-- these files are meant now, with these records, entries and items behind those that were; no more items are gone
pub record GrowsBy (m : Meant) (records : List MetaRecord) (entries : List Entry) (items : List Item) (files : Files) (number : ℕ) (held : Holdings) : Type 0 where
  pub new : Meant
  pub started : new.start ≡ m.start
  pub acknowledged_is : new.acknowledged ≡ m.acknowledged
  pub gone_is : new.gone ≡ m.gone
  pub longer : IsLonger m.contents new.contents records entries items
  pub files_are : (file : FileId) → new.files file ≡ files file
  pub stands : Stands new number held

-- and what is kept in numbers is so
abbrev pub GrownTo : Meant → List MetaRecord → List Entry → List Item → Files → Ends → Holdings → Type 0
GrownTo m records entries items files e held = (g : GrowsBy m records entries items files e.volume held) × AreEnds g.new e

-- An entry leads up to the ends of the files, which are sure, and has the greatest stamp.
pub record LeadsToEnds (m : Meant) (e : Ends) (held : Holdings) (x : Entry) : Type 0 where
  pub volume : x.volume ≡ e.volume
  pub at_meta : x.meta ≡ e.meta
  pub at_volume : x.offset ≡ e.length
  pub volume_sure : IsVolumeSure e.volume held
  pub stamped : m.greatest ≡ Some x.stamp

abbrev pub LeadIfAny : Meant → Ends → Holdings → Option Entry → Type 0
LeadIfAny m e held None = Unit {0}
LeadIfAny m e held (Some x) = LeadsToEnds m e held x

-- the index has room for an entry, whose offsets fit their words
pub record HasRoom (e : Ends) (x : Entry) : Type 0 where
  pub index : e.index + 20 < 2147483648
  pub meta : x.meta < 2147483648
  pub offset : x.offset < 2147483648

abbrev pub HasRoomIfAny : Ends → Option Entry → Type 0
HasRoomIfAny e None = Unit {0}
HasRoomIfAny e (Some x) = HasRoom e x

-- what a flush leaves: every item is acknowledged
pub record FlushIsDone (m : Meant) (e after : Ends) (held : Holdings) : Type 0 where
  pub new : Meant
  pub started : new.start ≡ m.start
  pub gone_is : new.gone ≡ m.gone
  pub greatest_is : new.greatest ≡ m.greatest
  pub files_are : (file : FileId) → new.files file ≡ with_entry (due_in m.files m.contents e.volume m.greatest (stood_in m)) m.files file
  pub label_same : new.contents.label ≡ m.contents.label
  pub records_same : new.contents.records ≡ m.contents.records
  pub entries_are : new.contents.entries ≡ m.contents.entries ++ option_to_list (due_in m.files m.contents e.volume m.greatest (stood_in m))
  pub items_same : items_in new ≡ items_in m
  pub all : new.acknowledged ≡ length (items_in m)
  pub at : IsAt new after held

-- the same of a logger
pub record IsFlushed (m : Meant) (old now : Kept) (held : Holdings) : Type 0 where
  pub new : Meant
  pub started : new.start ≡ m.start
  pub gone_is : new.gone ≡ m.gone
  pub greatest_is : new.greatest ≡ m.greatest
  pub step : FlushStep m.files m.contents old.ends.volume m.greatest (stood_in m) new.files
  pub entries_are : new.contents.entries ≡ m.contents.entries ++ option_to_list (due_in m.files m.contents old.ends.volume m.greatest (stood_in m))
  pub items_same : items_in new ≡ items_in m
  pub all : new.acknowledged ≡ length (items_in m)
  pub is : IsLogger new now held

-- no file lost a byte: each holds what it held, and perhaps more behind it
abbrev pub OnlyGrows : Holdings → Holdings → Type 0
OnlyGrows old new = (file : FileId) → (more : List ℕ) × (bytes_of (new file) ≡ bytes_of (old file) ++ more)

-- the disk holds these files
abbrev pub AreHeld : Files → Holdings → Type 0
AreHeld files held = (file : FileId) → bytes_of (held file) ≡ files file

-- the disk holds a beginning of each of these files
abbrev pub HoldsNoMore : Files → Holdings → Type 0
HoldsNoMore files held = (file : FileId) → (more : List ℕ) × (files file ≡ bytes_of (held file) ++ more)
