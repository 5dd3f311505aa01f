-- What a logger keeps of its archive: whole files that it means, of which the disk holds a beginning each. Every record of
-- Meta that describes an item is sure; every entry of the index points into sure bytes; every volume but the one that is
-- written is wholly sure, and all its items are acknowledged. A crash, a cut, going on and retiring volumes keep it so.
use Rattle.std.specs.Prelude.{◌≡◌, ◌≢◌, ◌⊎◌, ℕ, ◌+◌, ◌≤◌, negsuc, List, [], ◌++◌, length, take, Contains, ◌<◌}
use Rattle.std.specs.List.{AllByRecursion}
use Rattle.pcp_base.specs.declared.file.FileId.TheVariants.{Meta, Index, Volume}
use Rattle.pcp_base.specs.declared.result.Item.{Item}
use Rattle.pcp_model.specs.declared.records.Entry.{Entry}
use Rattle.pcp_model.specs.Archive.{ArchiveContents, ArchiveReading, LabelledFile, HasEntries, IsArchive, items_of, scan, records_in}
use Rattle.pcp_model.specs.Described.{Described}
use Rattle.pcp_model.specs.Disk.{Files, Held, Holdings, bytes_of}
use Rattle.pcp_model.specs.Frame.{frames}
use Rattle.pcp_model.specs.Laws.{EndsWhole}
use Rattle.pcp_model.specs.Records.{IsRecord}
use Rattle.pcp_model.specs.Sound.{IsSound}

-- the archive as it stood when it was opened
pub record Start : Type 0 where
  pub files : Files
  pub reading : ArchiveReading

-- it was sound then
abbrev pub WasSound : Start → Type 0
WasSound s = IsSound s.files s.reading

-- an item that stood in it was described then
abbrev pub WasDescribed : Start → Item → Type 0
WasDescribed s x = Contains (scan s.reading) x → Described (records_in s.reading) x

-- a file holds a beginning of what it is meant to hold
pub record IsPart (h : Held) (whole : List ℕ) : Type 0 where
  pub more : List ℕ
  pub is : bytes_of h ++ more ≡ whole

abbrev pub is_sure : List ℕ → Held
is_sure bytes = record { sure = bytes; rest = [] }

-- where so many of a file's records end
abbrev pub end_of : ℕ → List (List ℕ) → ℕ
end_of k payloads = 132 + length (frames (take k payloads))

-- An entry points into sure bytes, unless its volume is empty, and is of a volume at or below one whose label is sure.
pub record PointsSurely (files : Files) (held : Holdings) (number : ℕ) (e : Entry) : Type 0 where
  pub meta : 0 < length (files (Volume e.volume)) → e.meta ≤ length (held Meta).sure
  pub offset : e.volume ≡ number → e.offset ≤ length (held (Volume number)).sure
  pub below : (n : ℕ) × (132 ≤ length (held (Volume n)).sure) × (e.volume ≤ n)

-- so many items stand in sure bytes, where those before the last volume are so many
abbrev pub AreSure : ℕ → List (List ℕ) → ℕ → ℕ → Type 0
AreSure earlier payloads sure acknowledged =
    (acknowledged ≤ earlier) ⊎ ((i : ℕ) × (i ≤ length payloads) × (end_of i payloads ≤ sure) × (acknowledged ≤ earlier + i))

-- The files that are meant, which volume is written, how many records of Meta are sure, how many items are acknowledged, and
-- what the disk holds.
pub record Keeps (s : Start) (files : Files) (c : ArchiveContents) (number known acknowledged : ℕ) (held : Holdings) : Type 0 where
  pub is : IsArchive files c
  pub last : EndsWhole files c number
  pub indexed : (has : HasEntries (files Index) c) × (has.rest ≡ [])
  pub whole : LabelledFile IsRecord (files Meta) c.label (negsuc 0) c.records []
  pub meta : IsPart (held Meta) (files Meta)
  pub index : IsPart (held Index) (files Index)
  pub volume : IsPart (held (Volume number)) (files (Volume number))
  pub others : (n : ℕ) → n ≢ number → held (Volume n) ≡ is_sure (files (Volume n))
  pub few : known ≤ length c.records
  pub sure : end_of known whole.payloads ≤ length (held Meta).sure
  pub described : (k : ℕ) → known ≤ k → AllByRecursion (λ x. WasDescribed s x → Described (take k c.records) x) (items_of c.volumes)
  pub sound : WasSound s → IsSound files (ArchiveReading.archive c)
  pub labelled : (c.entries ≡ []) ⊎ ((n : ℕ) × (132 ≤ length (held (Volume n)).sure))
  pub points : WasSound s → AllByRecursion (PointsSurely files held number) c.entries
  pub items : AreSure (length (items_of last.before)) last.whole.payloads (length (held (Volume number)).sure) acknowledged
  pub earlier : length (items_of last.before) ≤ acknowledged
