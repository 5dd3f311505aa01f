-- What holds of whole files: in how many ways they are read, what they are read as when one piece is added behind, and what
-- recovery keeps; and what a domain's record lists.
use Rattle.std.specs.Prelude.{◌≡◌, ◌≢◌, ◌⊎◌, ◌↔◌, ℕ, ℤ, Some, All, FitsSigned, ◌<◌, ◌≤◌, pos, negsuc, List, [], ◌∷◌, ◌++◌, length, take}
use Rattle.std.specs.Int.{w32}
use Rattle.std.specs.List.{AllByRecursion}
use Rattle.pcp_base.specs.declared.file.FileId.{FileId}
use Rattle.pcp_base.specs.declared.file.FileId.TheVariants.{Meta, Index, Volume}
use Rattle.pcp_base.specs.declared.result.Item.{Item}
use Rattle.pcp_model.specs.declared.records.MetaRecord.{MetaRecord}
use Rattle.pcp_model.specs.declared.records.Entry.{Entry}
use Rattle.pcp_model.specs.Archive.{ArchiveContents, ArchiveReading, AreRead, LabelledFile, HasEntries, IsArchive, Reads, items_of, scan, records_in}
use Rattle.pcp_model.specs.Disk.{Files}
use Rattle.pcp_model.specs.Frame.{IsFrameable, frame, frames}
use Rattle.pcp_model.specs.Labels.{IsLabel}
use Rattle.pcp_model.specs.Payload.{IsItem}
use Rattle.pcp_model.specs.Recovered.{Recovers, recovered_reading}
use Rattle.pcp_model.specs.Instances.{instances_in}
use Rattle.pcp_model.specs.Records.{IsRecord, AreConsistent, FitsEntry, entry, instance_words, word_bytes, NamesStand}
use Rattle.pcp_model.specs.Sound.{IsSound}
use Rattle.pcp_model.specs.Written.{with_added}

-- files are read in at most one way
abbrev pub FilesAreReadOnce : Type 0
FilesAreReadOnce = (files : Files) (a b : ArchiveReading) → Reads files a → Reads files b → a ≡ b

-- an archive is another one with these records, entries and items behind its own
pub record IsLonger (old new : ArchiveContents) (more_records : List MetaRecord) (more_entries : List Entry) (more_items : List Item) : Type 0 where
  pub label : new.label ≡ old.label
  pub records : new.records ≡ old.records ++ more_records
  pub entries : new.entries ≡ old.entries ++ more_entries
  pub items : items_of new.volumes ≡ items_of old.volumes ++ more_items

-- the files are an archive that is longer by these
pub record GrowsTo (files : Files) (c : ArchiveContents) (more_records : List MetaRecord) (more_entries : List Entry) (more_items : List Item) : Type 0 where
  pub new : ArchiveContents
  pub is : IsArchive files new
  pub longer : IsLonger c new more_records more_entries more_items

-- the last volume that isn't empty has this number, and ends with a whole record or its label
pub record EndsWhole (files : Files) (c : ArchiveContents) (number : ℕ) : Type 0 where
  pub before : List (ℕ × List Item)
  pub items : List Item
  pub are : c.volumes ≡ before ++ (number, items) ∷ []
  pub whole : LabelledFile IsItem (files (Volume number)) c.label (pos number) items []

-- an item's record behind the last volume is one item more
abbrev pub ItemIsAdded : Type 0
ItemIsAdded = (files : Files) (c : ArchiveContents) (number : ℕ) (payload : List ℕ) (x : Item) → IsArchive files c → EndsWhole files c number → IsFrameable payload → IsItem payload x
    → GrowsTo (with_added (Volume number) (frame payload) files) c [] [] (x ∷ [])

-- records behind Meta, which no description of it contradicts, are as many records more
abbrev pub RecordsAreAdded : Type 0
RecordsAreAdded = (files : Files) (c : ArchiveContents) (payloads : List (List ℕ)) (records : List MetaRecord) → IsArchive files c → LabelledFile IsRecord (files Meta) c.label (negsuc 0) c.records []
    → AreRead IsRecord payloads records → AreConsistent (c.records ++ records) → GrowsTo (with_added Meta (frames payloads) files) c records [] []

-- an entry behind the index's last whole one is one entry more
abbrev pub EntryIsAdded : Type 0
EntryIsAdded = (files : Files) (c : ArchiveContents) (e : Entry) → IsArchive files c → (index : HasEntries (files Index) c) → index.rest ≡ [] → (n : ℕ) → 132 ≤ length (files (Volume n)) → FitsEntry e
    → GrowsTo (with_added Index (entry e) files) c [] (e ∷ []) []

-- the label of a volume above the last changes nothing else
abbrev pub VolumeIsAdded : Type 0
VolumeIsAdded = (files : Files) (c : ArchiveContents) (number next : ℕ) (head : List ℕ) → IsArchive files c → EndsWhole files c number → number < next → IsLabel head c.label (pos next)
    → GrowsTo (with_added (Volume next) head files) c [] [] []

-- the last volume that isn't empty
pub record HasLast (c : ArchiveContents) : Type 0 where
  pub before : List (ℕ × List Item)
  pub number : ℕ
  pub items : List Item
  pub are : c.volumes ≡ before ++ (number, items) ∷ []

-- Meta, the index and this volume are cut at these lengths, and the other volumes stand
pub record IsCutOf (files image : Files) (number m i v : ℕ) : Type 0 where
  pub meta : image Meta ≡ take m (files Meta)
  pub index : image Index ≡ take i (files Index)
  pub volume : image (Volume number) ≡ take v (files (Volume number))
  pub others : (n : ℕ) → n ≢ number → image (Volume n) ≡ files (Volume n)

-- The image is an archive of the first records, entries and items of another one: of all, where the file isn't cut.
pub record FirstPart (files image : Files) (c : ArchiveContents) (last : HasLast c) (m i v : ℕ) : Type 0 where
  pub new : ArchiveContents
  pub is : IsArchive image new
  pub label : new.label ≡ c.label
  pub j : ℕ
  pub records : new.records ≡ take j c.records
  pub all_records : length (files Meta) ≤ m → length c.records ≤ j
  pub k : ℕ
  pub entries : new.entries ≡ take k c.entries
  pub all_entries : length (files Index) ≤ i → length c.entries ≤ k
  pub q : ℕ
  pub items : items_of new.volumes ≡ take q (items_of c.volumes)
  pub shape : (new.volumes ≡ last.before) ⊎ ((p : ℕ) × (new.volumes ≡ last.before ++ (last.number, take p last.items) ∷ []))
  pub all_items : length (files (Volume last.number)) ≤ v → length (items_of c.volumes) ≤ q

-- An archive that is cut, Meta behind its label, the index and the last volume anywhere, is an archive of what is whole in it;
-- where the index keeps an entry, some volume keeps its label.
abbrev pub CutsAreRead : Type 0
CutsAreRead = (files image : Files) (c : ArchiveContents) (m i v : ℕ) → IsArchive files c → (last : HasLast c) → IsCutOf files image last.number m i v → 132 ≤ m
    → (i < 152) ⊎ ((n : ℕ) × (132 ≤ length (image (Volume n)))) → FirstPart files image c last m i v

-- an entry points into what is left of an archive that is cut
pub record IsKeptBy (image : Files) (number m v : ℕ) (e : Entry) : Type 0 where
  pub meta : 0 < length (image (Volume e.volume)) → e.meta ≤ m
  pub offset : e.volume ≡ number → e.offset ≤ v
  pub not_above : (n : ℕ) × (0 < length (image (Volume n))) × (e.volume ≤ n)

-- a sound archive that is cut so is sound, where each entry that is left points into what is left
abbrev pub CutsAreSound : Type 0
CutsAreSound = (files image : Files) (c : ArchiveContents) (m i v : ℕ) → (last : HasLast c) → IsCutOf files image last.number m i v → (f : FirstPart files image c last m i v)
    → IsSound files (ArchiveReading.archive c) → AllByRecursion (IsKeptBy image last.number m v) f.new.entries → IsSound image (ArchiveReading.archive f.new)

-- what recovery leaves is read with the same scan and the same records of Meta
abbrev pub RecoveryKeepsTheScan : Type 0
RecoveryKeepsTheScan = (files left : Files) (r : ArchiveReading) → Reads files r → Recovers files r left
    → Reads left (recovered_reading files r) × (scan (recovered_reading files r) ≡ scan r) × (records_in (recovered_reading files r) ≡ records_in r)

-- recovery of what recovery left changes nothing
abbrev pub RecoveryStays : Type 0
RecoveryStays = (files left : Files) (r : ArchiveReading) → Reads files r → Recovers files r left → Recovers left (recovered_reading files r) left

-- it leaves one thing
abbrev pub RecoveryIsOne : Type 0
RecoveryIsOne = (files a b : Files) (r : ArchiveReading) → Recovers files r a → Recovers files r b → (file : FileId) → a file ≡ b file

-- So many instances stand in the bytes behind their number: the numbers, as many offsets, and a table in which each offset leads
-- to its name.
pub record InstancesStand (count : ℕ) (bytes : List ℕ) (pairs : List (ℤ × List ℕ)) : Type 0 where
  pub count_is : length pairs ≡ count
  pub few : count < 2147483648
  pub numbers : AllByRecursion (λ p. FitsSigned w32 p.0) pairs
  pub offsets : List ℕ
  pub table : List ℕ
  pub names : NamesStand table offsets pairs
  pub is : bytes ≡ instance_words pairs ++ (word_bytes offsets ++ table)

-- exactly those are read
abbrev pub InstancesAreRead : Type 0
InstancesAreRead = (count : ℕ) (bytes : List ℕ) (pairs : List (ℤ × List ℕ)) → All (λ b. b < 256) bytes → length bytes < 4294967296 → (instances_in count bytes ≡ Some pairs) ↔ InstancesStand count bytes pairs
