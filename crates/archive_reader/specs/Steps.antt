-- What a step from a place answers; a place is how many volumes are behind, and an offset.
use Rattle.std.specs.Prelude.{◌≡◌, ◌⊎◌, ℕ, ◌<◌, false, List, drop, length}
use Rattle.pcp_base.specs.declared.file.FileId.TheVariants.{Volume}
use Rattle.pcp_base.specs.Time.{Moment, microseconds}
use Rattle.pcp_base.specs.declared.result.Item.{Item as AnItem}
use Rattle.pcp_model.specs.Disk.{Files}
use Rattle.pcp_model.specs.Payload.{stamp_of}
use Rattle.archive_reader.specs.declared.fault.ReaderFault.{ReaderFault}
use Rattle.archive_reader.specs.declared.fault.ReaderFault.TheVariants.{Compressed, NotArchive, DiskFault, NoMemory}
use Rattle.archive_reader.specs.declared.segments.Ahead.{Ahead}
use Rattle.archive_reader.specs.declared.segments.Ahead.TheVariants.{End as AheadEnd, Item as AheadItem}
use Rattle.archive_reader.specs.Searches.{is_after}
use Rattle.archive_reader.specs.declared.walking.Step.{Step}
use Rattle.archive_reader.specs.declared.walking.Step.TheVariants.{End, Bad, Item}
use Rattle.archive_reader.specs.Walks.{StandsNext, EndsThere, IsBadThere, StepsOver, IsEnd, IsBad, EndsInFirst, IsFirst}

-- behind the ends of volumes
abbrev pub IsStood : Files → List (ℕ × ℕ) → List (ℕ × ℕ) → ℕ → Step → Type 0
IsStood files volumes ws at End = EndsThere files ws at
IsStood files volumes ws at (Bad number offset) = IsBadThere files ws at (Volume number) offset
IsStood files volumes ws at (Item x behind next) = (drop behind volumes ≡ ws) × StandsNext files ws at x next

abbrev pub IsWalked : Files → List (ℕ × ℕ) → ℕ → ℕ → Step → Type 0
IsWalked files volumes index at End = IsEnd files (drop index volumes) at
IsWalked files volumes index at (Bad number offset) = IsBad files (drop index volumes) at (Volume number) offset
IsWalked files volumes index at (Item x behind next) = StepsOver files (drop index volumes) at x (drop behind volumes) next

-- within the first of these volumes
abbrev pub IsWithin : Files → List (ℕ × ℕ) → ℕ → Step → Type 0
IsWithin files vs at End = EndsInFirst files vs at
IsWithin files vs at (Bad number offset) = IsFirst vs (Volume number) × IsBad files vs at (Volume number) offset
IsWithin files vs at (Item x behind next) = StandsNext files vs at x next × StepsOver files vs at x vs next

-- where it stands is a volume
abbrev pub IsIn : List (ℕ × ℕ) → Step → Type 0
IsIn volumes End = Unit {0}
IsIn volumes (Bad number offset) = Unit {0}
IsIn volumes (Item x behind next) = behind < length volumes

-- in a segment: no record, or one whose item is after the moment; or an item
abbrev pub IsAhead : Files → List (ℕ × ℕ) → ℕ → ℕ → Moment → Ahead → Type 0
IsAhead files volumes index at t AheadEnd =
    IsEnd files (drop index volumes) at ⊎ ((x : AnItem) × (us : List (ℕ × ℕ)) × (next : ℕ) × StepsOver files (drop index volumes) at x us next × (microseconds t < microseconds (stamp_of x)))
IsAhead files volumes index at t (AheadItem x behind next) = StepsOver files (drop index volumes) at x (drop behind volumes) next × (is_after t x ≡ false)

abbrev pub IsAheadFault : Files → List (ℕ × ℕ) → ℕ → ReaderFault → Type 0
IsAheadFault files vs at (Compressed file) = ⊥
IsAheadFault files vs at (NotArchive file offset) = IsBad files vs at file offset
IsAheadFault files vs at DiskFault = Unit {0}
IsAheadFault files vs at NoMemory = Unit {0}

abbrev pub IsAheadIn : List (ℕ × ℕ) → Ahead → Type 0
IsAheadIn volumes AheadEnd = Unit {0}
IsAheadIn volumes (AheadItem x behind next) = behind < length volumes
