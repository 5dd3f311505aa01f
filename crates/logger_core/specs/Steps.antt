-- What a logger's calls make of whole files (pmlogger(1), LOGARCHIVE(5)): which entry a flush puts into the index, and the files
-- after a flush.
use Rattle.std.specs.Prelude.{◌≡◌, ◌⊎◌, ℕ, ℤ, ◌+◌, ◌≤◌, Bool, true, not, ◌&&◌, ◌||◌, nat_eq, nat_lt, nat_le, if◌then◌else◌, List, [], ◌∷◌, length, Option, Some, None, Contains}
use Rattle.std.specs.List.{AllByRecursion}
use Rattle.pcp_base.specs.Time.{Moment, microseconds}
use Rattle.pcp_base.specs.declared.file.FileId.{FileId}
use Rattle.pcp_base.specs.declared.file.FileId.TheVariants.{Meta, Index, Volume}
use Rattle.pcp_base.specs.declared.result.Item.{Item}
use Rattle.pcp_model.specs.declared.records.Entry.{Entry}
use Rattle.pcp_model.specs.declared.records.MetaRecord.TheVariants.{Domain}
use Rattle.pcp_model.specs.Archive.{ArchiveContents, items_of}
use Rattle.pcp_model.specs.Disk.{Files}
use Rattle.pcp_model.specs.Payload.{stamp_of}
use Rattle.pcp_model.specs.Records.{entry}
use Rattle.pcp_model.specs.Sound.{NoItemAfter, NoDomainAfter}
use Rattle.pcp_model.specs.Written.{with_added}
use Rattle.archive_recovery.specs.Stamps.{stamps_in}

-- an item, an instance domain or an entry of the index of the archive has this stamp
abbrev pub IsStampIn : ArchiveContents → Moment → Type 0
IsStampIn c t =
    ((x : Item) × Contains (items_of c.volumes) x × (stamp_of x ≡ t))
    ⊎ (((indom : ℕ) × (pairs : List (ℤ × List ℕ)) × Contains c.records (Domain t indom pairs)) ⊎ ((e : Entry) × Contains c.entries e × (e.stamp ≡ t)))

-- an entry of the index isn't stamped after t
abbrev pub IsEntryBy : Moment → Entry → Type 0
IsEntryBy t e = microseconds e.stamp ≤ microseconds t

abbrev pub NoEntryAfter : Moment → List Entry → Type 0
NoEntryAfter t entries = AllByRecursion (IsEntryBy t) entries

-- nothing that stands in the archive is stamped after this; where there is no such stamp nothing is stamped at all
abbrev pub IsAbove : ArchiveContents → Option Moment → Type 0
IsAbove c None = (t : Moment) → IsStampIn c t → ⊥
IsAbove c (Some t) = NoItemAfter t (items_of c.volumes) × NoDomainAfter t c.records × NoEntryAfter t c.entries

-- The greatest stamp of any item, instance domain or entry: one has it, and none is stamped after it. Without any there is none.
abbrev pub IsGreatest : ArchiveContents → Option Moment → Type 0
IsGreatest c None = (t : Moment) → IsStampIn c t → ⊥
IsGreatest c (Some t) = IsStampIn c t × NoItemAfter t (items_of c.volumes) × NoDomainAfter t c.records × NoEntryAfter t c.entries

-- the latest of some moments
abbrev pub later_of : Moment → Option Moment → Moment
later_of t None = t
later_of t (Some s) = if nat_lt (microseconds t) (microseconds s) then s else t

abbrev pub latest_of : List Moment → Option Moment
latest_of [] = None
latest_of (t ∷ ts) = Some (later_of t (latest_of ts))

-- the greatest stamp that the files give
abbrev pub greatest_in : ArchiveContents → Option Moment
greatest_in c = latest_of (stamps_in c)

-- it is the greatest one
abbrev pub GivenIsGreatest : Type 0
GivenIsGreatest = (c : ArchiveContents) → IsGreatest c (greatest_in c)

-- an item stands in the files
abbrev pub has_item : ArchiveContents → Bool
has_item c = nat_lt 0 (length (items_of c.volumes))

abbrev pub last_entry : List Entry → Option Entry
last_entry [] = None
last_entry (e ∷ []) = Some e
last_entry (e ∷ f ∷ es) = last_entry (f ∷ es)

-- the entry that leads up to these ends of Meta and of a volume
abbrev pub up_to : Moment → ℕ → ℕ → ℕ → Entry
up_to t volume meta offset = record { stamp = t; volume = volume; meta = meta; offset = offset }

-- An entry is left out that would bring the index past 2,147,483,647 bytes, or has a greater offset.
abbrev pub fits_index : ℕ → Entry → Bool
fits_index size e = nat_lt (size + 20) 2147483648 && (nat_lt e.meta 2147483648 && nat_lt e.offset 2147483648)

abbrev pub fitting : ℕ → Entry → Option Entry
fitting size e = if fits_index size e then Some e else None

-- The index wants one more entry where it has none, or its last one is of another volume, Meta is longer than its meta offset,
-- or the volume is at least 4,096 bytes longer than its volume offset.
abbrev pub is_behind : Option Entry → Entry → Bool
is_behind None e = true
is_behind (Some last) e = not (nat_eq last.volume e.volume) || (nat_lt last.meta e.meta || nat_le (last.offset + 4096) e.offset)

abbrev pub where_behind : Option Entry → Option Entry → Option Entry
where_behind last None = None
where_behind last (Some e) = if is_behind last e then Some e else None

-- The entry of a flush, where an item stood: stamped with the greatest stamp, up to the ends of Meta and of the volume.
abbrev pub due : Option Moment → Bool → Option Entry → ℕ → ℕ → ℕ → ℕ → Option Entry
due None stood last size volume meta offset = None
due (Some t) stood last size volume meta offset = if stood then where_behind last (fitting size (up_to t volume meta offset)) else None

abbrev pub with_entry : Option Entry → Files → Files
with_entry None files = files
with_entry (Some e) files = with_added Index (entry e) files

-- The entry of a flush of an archive of which this volume is written. The logger gives, beside the files, the greatest stamp and whether
-- an item stood.
abbrev pub due_in : Files → ArchiveContents → ℕ → Option Moment → Bool → Option Entry
due_in files c number greatest stood =
    due greatest stood (last_entry c.entries) (length (files Index)) number (length (files Meta)) (length (files (Volume number)))

-- the files after a flush
pub record FlushStep (files : Files) (c : ArchiveContents) (number : ℕ) (greatest : Option Moment) (stood : Bool) (new : Files) : Type 0 where
  pub is : (file : FileId) → new file ≡ with_entry (due_in files c number greatest stood) files file
