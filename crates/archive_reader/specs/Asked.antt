-- The items of an archive between two moments, and the last one not after a moment, over its records as they stand: where the
-- search begins, the records up to the first one stamped after the later moment, and the record that ends where it begins.
use Rattle.std.specs.Prelude.{◌≡◌, ◌⊎◌, ℕ, ◌<◌, Bool, true, false, nat_lt, nat_eq, if◌then◌else◌, List, [], ◌∷◌, ◌++◌, Option, Some, None}
use Rattle.pcp_base.specs.Time.{Moment, microseconds}
use Rattle.pcp_base.specs.declared.file.FileId.{FileId}
use Rattle.pcp_base.specs.declared.file.FileId.TheVariants.{Volume}
use Rattle.pcp_base.specs.declared.result.Item.{Item}
use Rattle.pcp_model.specs.declared.records.Entry.{Entry}
use Rattle.pcp_model.specs.Disk.{Files}
use Rattle.pcp_model.specs.Payload.{stamp_of}
use Rattle.pcp_model.specs.Sound.{NoItemAfter}
use Rattle.archive_loading.specs.Ending.{ItemEnds, NoFrameEnds, OtherEnds}
use Rattle.archive_reader.specs.declared.beginning.Begin.{Begin}
use Rattle.archive_reader.specs.declared.beginning.Begin.TheVariants.{At, Outside}
use Rattle.archive_reader.specs.declared.fault.ReaderFault.{ReaderFault}
use Rattle.archive_reader.specs.declared.fault.ReaderFault.TheVariants.{Compressed, NotArchive, DiskFault, NoMemory}
use Rattle.archive_loading.specs.Loaded.{Loaded}
use Rattle.archive_reader.specs.Searches.{or_else, last_of, between, is_after, is_before}
use Rattle.archive_reader.specs.Walks.{volumes_from, StepsOver, IsEnd, IsBad, Leads}

-- ---- where a search begins

-- the last entry of which a test holds
abbrev pub last_entry : (Entry → Bool) → List Entry → Option Entry
last_entry test [] = None
last_entry test (e ∷ es) = or_else (last_entry test es) (if test e then Some e else None)

abbrev pub is_entry_before : Moment → Entry → Bool
is_entry_before t e = nat_lt (microseconds e.stamp) (microseconds t)

abbrev pub is_entry_by : Moment → Entry → Bool
is_entry_by t e = if nat_lt (microseconds t) (microseconds e.stamp) then false else true

-- the length of the volume with this number, which is the first of these or is empty
abbrev pub own_length : ℕ → List (ℕ × ℕ) → Option ℕ
own_length n [] = None
own_length n (v ∷ vs) = if nat_eq v.0 n then Some v.1 else None

abbrev pub length_of : ℕ → List (ℕ × ℕ) → Option ℕ
length_of n volumes = own_length n (volumes_from n volumes)

abbrev pub first_volume : List (ℕ × ℕ) → ℕ
first_volume [] = 0
first_volume (v ∷ vs) = v.0

-- Where a search begins: where the entry says, which has to be among its volume's records; without an entry, or where its volume
-- is empty, at the first record.
abbrev pub begin_in : List (ℕ × ℕ) → Entry → Option ℕ → Begin
begin_in volumes e None = At (first_volume volumes) 132
begin_in volumes e (Some end) = if nat_lt e.offset 132 then Outside e.volume e.offset else (if nat_lt end e.offset then Outside e.volume e.offset else At e.volume e.offset)

abbrev pub begin_of : List (ℕ × ℕ) → Option Entry → Begin
begin_of volumes None = At (first_volume volumes) 132
begin_of volumes (Some e) = begin_in volumes e (length_of e.volume volumes)

-- a range's by the last entry before it, and that of the last item not after a moment by the last entry not after it
abbrev pub range_begin : Loaded → Moment → Begin
range_begin r from = begin_of r.volumes (last_entry (is_entry_before from) r.entries)

abbrev pub at_begin : Loaded → Moment → Begin
at_begin r t = begin_of r.volumes (last_entry (is_entry_by t) r.entries)

-- ---- the segment from there on

-- The records from a place on, up to the first one stamped after t: these items.
pub record HasSegment (files : Files) (vs : List (ℕ × ℕ)) (at : ℕ) (t : Moment) (items : List Item) : Type 0 where
  pub last : List (ℕ × ℕ)
  pub to : ℕ
  pub leads : Leads files vs at items last to
  pub by : NoItemAfter t items
  pub stops : IsEnd files last to ⊎ ((x : Item) × (us : List (ℕ × ℕ)) × (next : ℕ) × StepsOver files last to x us next × (microseconds t < microseconds (stamp_of x)))

-- or a record on the way is no item's
pub record SegmentStops (files : Files) (vs : List (ℕ × ℕ)) (at : ℕ) (t : Moment) (file : FileId) (offset : ℕ) : Type 0 where
  pub items : List Item
  pub last : List (ℕ × ℕ)
  pub to : ℕ
  pub leads : Leads files vs at items last to
  pub by : NoItemAfter t items
  pub bad : IsBad files last to file offset

abbrev pub IsSegmentFault : Files → List (ℕ × ℕ) → ℕ → Moment → ReaderFault → Type 0
IsSegmentFault files vs at t (Compressed file) = ⊥
IsSegmentFault files vs at t (NotArchive file offset) = SegmentStops files vs at t file offset
IsSegmentFault files vs at t DiskFault = Unit {0}
IsSegmentFault files vs at t NoMemory = Unit {0}

-- a search that begins at an offset outside its volume's records
abbrev pub IsOutside : ℕ → ℕ → ReaderFault → Type 0
IsOutside n start (Compressed file) = ⊥
IsOutside n start (NotArchive file offset) = (file ≡ Volume n) × (offset ≡ start)
IsOutside n start DiskFault = Unit {0}
IsOutside n start NoMemory = Unit {0}

-- ---- a range

-- the items of the segment that aren't before the range
pub record IsRangeOn (files : Files) (vs : List (ℕ × ℕ)) (at : ℕ) (from to : Moment) (found : List Item) : Type 0 where
  pub items : List Item
  pub segment : HasSegment files vs at to items
  pub is : found ≡ between from to items

abbrev pub IsRangeFrom : Files → List (ℕ × ℕ) → Moment → Moment → Begin → List Item → Type 0
IsRangeFrom files volumes from to (At n offset) found = IsRangeOn files (volumes_from n volumes) offset from to found
IsRangeFrom files volumes from to (Outside n offset) found = ⊥

abbrev pub IsRangeFault : Files → List (ℕ × ℕ) → Moment → Begin → ReaderFault → Type 0
IsRangeFault files volumes to (At n offset) e = IsSegmentFault files (volumes_from n volumes) offset to e
IsRangeFault files volumes to (Outside n offset) e = IsOutside n offset e

-- an item is kept behind those found unless it is before the range
abbrev pub kept_from : Moment → List Item → Item → List Item
kept_from from found x = if is_before from x then found else found ++ x ∷ []

-- ---- the last item not after a moment

-- the volumes below a number
abbrev pub volumes_below : ℕ → List (ℕ × ℕ) → List (ℕ × ℕ)
volumes_below n [] = []
volumes_below n (v ∷ vs) = if nat_lt v.0 n then v ∷ volumes_below n vs else []

-- the last of these volumes that holds more than its label
abbrev pub last_filled : List (ℕ × ℕ) → Option (ℕ × ℕ)
last_filled [] = None
last_filled (v ∷ vs) = or_else (last_filled vs) (if nat_lt 132 v.1 then Some v else None)

-- an offset of the first of these volumes
abbrev pub first_at : ℕ → List (ℕ × ℕ) → Option (ℕ × ℕ)
first_at offset [] = None
first_at offset (v ∷ vs) = Some (v.0, offset)

-- Where the record before a place ends, a volume's number and an offset: at the place, or where it is the start of its volume's
-- records at the end of the last volume below that has some.
abbrev pub back_end : List (ℕ × ℕ) → ℕ → ℕ → Option (ℕ × ℕ)
back_end volumes n offset = if nat_eq offset 132 then last_filled (volumes_below n volumes) else first_at offset (volumes_from n volumes)

-- the item of the record that ends there, unless it is after t
abbrev pub unless_after : Moment → Item → Option Item
unless_after t x = if is_after t x then None else Some x

abbrev pub IsBackAt : Files → Option (ℕ × ℕ) → Moment → Option Item → Type 0
IsBackAt files None t found = found ≡ None
IsBackAt files (Some v) t found = (x : Item) × ItemEnds (files (Volume v.0)) v.1 x × (found ≡ unless_after t x)

-- the last item of the segment; where it has none, the one before the place
abbrev pub IsLastOr : Files → Option (ℕ × ℕ) → Moment → Option Item → Option Item → Type 0
IsLastOr files back t (Some x) found = found ≡ Some x
IsLastOr files back t None found = IsBackAt files back t found

pub record IsAtOn (files : Files) (vs : List (ℕ × ℕ)) (at : ℕ) (back : Option (ℕ × ℕ)) (t : Moment) (found : Option Item) : Type 0 where
  pub items : List Item
  pub segment : HasSegment files vs at t items
  pub is : IsLastOr files back t (last_of items) found

abbrev pub IsAtFrom : Files → List (ℕ × ℕ) → Moment → Begin → Option Item → Type 0
IsAtFrom files volumes t (At n offset) found = IsAtOn files (volumes_from n volumes) offset (back_end volumes n offset) t found
IsAtFrom files volumes t (Outside n offset) found = ⊥

-- No record ends where the search begins, or one of no item does.
abbrev pub BackStops : Files → Option (ℕ × ℕ) → FileId → ℕ → Type 0
BackStops files None file offset = ⊥
BackStops files (Some v) file offset =
    (file ≡ Volume v.0) × (((offset ≡ v.1) × NoFrameEnds (files (Volume v.0)) v.1) ⊎ OtherEnds (files (Volume v.0)) offset v.1)

abbrev pub IsBackFault : Files → Option (ℕ × ℕ) → ReaderFault → Type 0
IsBackFault files back (Compressed file) = ⊥
IsBackFault files back (NotArchive file offset) = BackStops files back file offset
IsBackFault files back DiskFault = Unit {0}
IsBackFault files back NoMemory = Unit {0}

-- the segment stops, or it is empty and the record before the place is no item's
abbrev pub IsAtOnFault : Files → List (ℕ × ℕ) → ℕ → Option (ℕ × ℕ) → Moment → ReaderFault → Type 0
IsAtOnFault files vs at back t e = IsSegmentFault files vs at t e ⊎ (HasSegment files vs at t [] × IsBackFault files back e)

abbrev pub IsAtFault : Files → List (ℕ × ℕ) → Moment → Begin → ReaderFault → Type 0
IsAtFault files volumes t (At n offset) e = IsAtOnFault files (volumes_from n volumes) offset (back_end volumes n offset) t e
IsAtFault files volumes t (Outside n offset) e = IsOutside n offset e
