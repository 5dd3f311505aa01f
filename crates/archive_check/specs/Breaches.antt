-- The first place at which a readable archive isn't sound (LOGARCHIVE(5)). Items that fall come before entries that don't point to record
-- boundaries, and these before entries that are too early; of one kind the lowest position comes.
use Rattle.std.specs.Prelude.{◌≡◌, ◌⊎◌, ℕ, ◌<◌, ◌≤◌, nat_lt, if◌then◌else◌, List, [], ◌∷◌, ◌++◌, length, map, take, Option, Some, None}
use Rattle.std.specs.List.{AllByRecursion}
use Rattle.pcp_base.specs.Time.{Moment, microseconds}
use Rattle.pcp_base.specs.declared.file.FileId.{FileId}
use Rattle.pcp_base.specs.declared.file.FileId.TheVariants.{Meta, Volume}
use Rattle.pcp_base.specs.declared.result.Item.{Item}
use Rattle.pcp_model.specs.declared.records.Entry.{Entry}
use Rattle.pcp_model.specs.Archive.{ArchiveContents, ArchiveReading, items_of}
use Rattle.pcp_model.specs.Disk.{Files}
use Rattle.pcp_model.specs.Payload.{stamp_of}
use Rattle.pcp_model.specs.Sound.{NeverFalls, IsBoundary, IsSoundEntry}
use Rattle.archive_loading.specs.Stamps.{domain_stamps}
use Rattle.archive_reader.specs.Searches.{items_before}
use Rattle.archive_check.specs.declared.fault.CheckFault.{CheckFault}
use Rattle.archive_check.specs.declared.fault.CheckFault.TheVariants.{Items, Boundary, Late, Reader}

-- ---- items

-- an item is stamped before the one before it, and none of those before them is
pub record Falls (items : List Item) (first second : Moment) : Type 0 where
  pub front : List Item
  pub x : Item
  pub y : Item
  pub behind : List Item
  pub are : items ≡ front ++ x ∷ y ∷ behind
  pub good : NeverFalls (front ++ x ∷ [])
  pub first_is : first ≡ stamp_of x
  pub second_is : second ≡ stamp_of y
  pub falls : microseconds (stamp_of y) < microseconds (stamp_of x)

-- ---- record boundaries

abbrev pub AtBoundary : List ℕ → ℕ → Type 0
AtBoundary bytes offset = (count : ℕ) × IsBoundary bytes offset count

-- The greatest boundary below an offset; or 0, where the offset lies within the label.
abbrev pub IsBelow : List ℕ → ℕ → ℕ → Type 0
IsBelow bytes offset below =
    ((offset < 132) × (below ≡ 0)) ⊎ (AtBoundary bytes below × (below < offset) × ((other : ℕ) → AtBoundary bytes other → other < offset → other ≤ below))

-- The least boundary above an offset; or the offset, where none is above.
abbrev pub IsAbove : List ℕ → ℕ → ℕ → Type 0
IsAbove bytes offset above =
    (AtBoundary bytes above × (offset < above) × ((other : ℕ) → AtBoundary bytes other → offset < other → above ≤ other))
    ⊎ (((other : ℕ) → AtBoundary bytes other → offset < other → ⊥) × (above ≡ offset))

-- an offset is no boundary of a file's, and lies between these
pub record IsBetween (bytes : List ℕ) (offset below above : ℕ) : Type 0 where
  pub none : AtBoundary bytes offset → ⊥
  pub below_is : IsBelow bytes offset below
  pub above_is : IsAbove bytes offset above

abbrev pub IsFilled : Files → ℕ → Type 0
IsFilled files n = 0 < length (files (Volume n))

-- an entry is of a volume above each that isn't empty
abbrev pub StandsAbove : Files → Entry → Type 0
StandsAbove files e = (n : ℕ) → IsFilled files n → n < e.volume

-- An entry is of no such volume, and where its volume isn't empty both offsets are record boundaries.
pub record PointsToBoundaries (files : Files) (e : Entry) : Type 0 where
  pub not_above : (n : ℕ) × IsFilled files n × (e.volume ≤ n)
  pub meta : IsFilled files e.volume → AtBoundary (files Meta) e.meta
  pub volume : IsFilled files e.volume → AtBoundary (files (Volume e.volume)) e.offset

-- An entry's volume stands above; or its meta offset is no boundary of Meta; or that one is, and its volume offset is none of its volume.
abbrev pub MissesBoundary : Files → Entry → FileId → ℕ → ℕ → Type 0
MissesBoundary files e file below above =
    (StandsAbove files e × (file ≡ Volume e.volume) × (below ≡ 0) × (above ≡ 0))
    ⊎ (IsFilled files e.volume × (file ≡ Meta) × IsBetween (files Meta) e.meta below above)
    ⊎ (IsFilled files e.volume × AtBoundary (files Meta) e.meta × (file ≡ Volume e.volume) × IsBetween (files (Volume e.volume)) e.offset below above)

-- ---- stamps

-- the first of these moments that is after t
abbrev pub first_after : Moment → List Moment → Option Moment
first_after t [] = None
first_after t (s ∷ stamps) = if nat_lt (microseconds t) (microseconds s) then Some s else first_after t stamps

-- The stamps of what stands before an entry's offsets, where so many records of Meta and so many items of its volume do: of the instance
-- domains, and then of the items, those of the earlier volumes first.
abbrev pub stamps_before : ArchiveContents → Entry → ℕ → ℕ → List Moment
stamps_before c e records items = domain_stamps (take records c.records) ++ map stamp_of (items_before e.volume items c.volumes)

-- an entry points to boundaries, and this is the first stamp before them that is after its own
pub record IsTooEarly (files : Files) (c : ArchiveContents) (e : Entry) (stamp : Moment) : Type 0 where
  pub filled : IsFilled files e.volume
  pub records : ℕ
  pub meta : IsBoundary (files Meta) e.meta records
  pub items : ℕ
  pub volume : IsBoundary (files (Volume e.volume)) e.offset items
  pub first : first_after e.stamp (stamps_before c e records items) ≡ Some stamp

-- ---- the first breach

-- the entry at a position is bad, and each before it is good
pub record IsFirstBad (entries : List Entry) (Good Bad : Entry → Type 0) (at : ℕ) : Type 0 where
  pub front : List Entry
  pub e : Entry
  pub behind : List Entry
  pub are : entries ≡ front ++ e ∷ behind
  pub at_is : at ≡ length front
  pub good : AllByRecursion Good front
  pub bad : Bad e

abbrev pub IsBreachOf : Files → ArchiveContents → CheckFault → Type 0
IsBreachOf files c (Items first second) = Falls (items_of c.volumes) first second
IsBreachOf files c (Boundary at file below above) =
    NeverFalls (items_of c.volumes) × IsFirstBad c.entries (PointsToBoundaries files) (λ e. MissesBoundary files e file below above) at
IsBreachOf files c (Late at stamp) =
    NeverFalls (items_of c.volumes) × AllByRecursion (PointsToBoundaries files) c.entries × IsFirstBad c.entries (IsSoundEntry files c) (λ e. IsTooEarly files c e stamp) at
IsBreachOf files c (Reader fault) = ⊥

-- a creation that was stopped has none
abbrev pub IsBreach : Files → ArchiveReading → CheckFault → Type 0
IsBreach files ArchiveReading.nothing fault = ⊥
IsBreach files (ArchiveReading.archive c) fault = IsBreachOf files c fault
