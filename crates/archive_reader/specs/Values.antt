-- The last item not after a moment in which a metric has values.
use Rattle.std.specs.Prelude.{◌≡◌, ◌≢◌, ◌⊎◌, ℕ, Bool, true, false, ◌&&◌, nat_eq, if◌then◌else◌, List, [], ◌∷◌, ◌++◌, drop, Option, Some, None}
use Rattle.pcp_base.specs.Time.{Moment}
use Rattle.pcp_base.specs.declared.file.FileId.{FileId}
use Rattle.pcp_base.specs.declared.result.ValueSet.{ValueSet}
use Rattle.pcp_base.specs.declared.result.Item.{Item}
use Rattle.pcp_base.specs.declared.result.Item.TheVariants.{Sample, Mark}
use Rattle.pcp_model.specs.Disk.{Files}
use Rattle.archive_meta.specs.Facts.{has_values}
use Rattle.archive_reader.specs.declared.fault.ReaderFault.{ReaderFault}
use Rattle.archive_reader.specs.declared.fault.ReaderFault.TheVariants.{Compressed, NotArchive, DiskFault, NoMemory}
use Rattle.archive_reader.specs.Searches.{or_else, is_after}
use Rattle.archive_reader.specs.Walks.{StandsNext, Leads, AllFrom, StopsAt, EndsInFirst, StopsInFirst}

-- a set shows values of this metric
abbrev pub shows : ℕ → ValueSet → Bool
shows pmid set = nat_eq set.pmid pmid && has_values set.body

-- the first such set
abbrev pub first_shown : ℕ → List ValueSet → Option ValueSet
first_shown pmid [] = None
first_shown pmid (set ∷ sets) = if shows pmid set then Some set else first_shown pmid sets

abbrev pub with_stamp : Moment → Option ValueSet → Option (Moment × ValueSet)
with_stamp t None = None
with_stamp t (Some set) = Some (t, set)

-- an item's stamp and its set with values of this metric, if it has one
abbrev pub value_in : ℕ → Item → Option (Moment × ValueSet)
value_in pmid (Sample r) = with_stamp r.stamp (first_shown pmid r.sets)
value_in pmid (Mark t) = None

abbrev pub value_by : ℕ → Moment → Item → Option (Moment × ValueSet)
value_by pmid t x = if is_after t x then None else value_in pmid x

-- that of the last item not after t in which the metric has values
abbrev pub value_at : ℕ → Moment → List Item → Option (Moment × ValueSet)
value_at pmid t [] = None
value_at pmid t (x ∷ items) = or_else (value_at pmid t items) (value_by pmid t x)

-- The volumes are taken from the last one down, up to the first whose items show it: it is that of all items of these volumes, which
-- are all where none shows it.
pub record IsValueAt (files : Files) (volumes : List (ℕ × ℕ)) (pmid : ℕ) (t : Moment) (found : Option (Moment × ValueSet)) : Type 0 where
  pub before : List (ℕ × ℕ)
  pub rest : List (ℕ × ℕ)
  pub are : volumes ≡ before ++ rest
  pub items : List Item
  pub all : AllFrom files rest 132 items
  pub is : found ≡ value_at pmid t items
  pub enough : (before ≡ []) ⊎ (found ≢ None)

-- A volume has a record that is no item's. The records of those behind it are all items', which don't show it.
pub record ValueStops (files : Files) (volumes : List (ℕ × ℕ)) (pmid : ℕ) (t : Moment) (file : FileId) (offset : ℕ) : Type 0 where
  pub before : List (ℕ × ℕ)
  pub volume : ℕ × ℕ
  pub behind : List (ℕ × ℕ)
  pub are : volumes ≡ before ++ volume ∷ behind
  pub items : List Item
  pub all : AllFrom files behind 132 items
  pub none : value_at pmid t items ≡ None
  pub stops : StopsInFirst files (volume ∷ behind) file offset

abbrev pub IsValueFault : Files → List (ℕ × ℕ) → ℕ → Moment → ReaderFault → Type 0
IsValueFault files volumes pmid t (Compressed file) = ⊥
IsValueFault files volumes pmid t (NotArchive file offset) = ValueStops files volumes pmid t file offset
IsValueFault files volumes pmid t DiskFault = Unit {0}
IsValueFault files volumes pmid t NoMemory = Unit {0}

-- ---- all records

-- the records of these volumes are all items'
abbrev pub AllRead : Files → List (ℕ × ℕ) → Type 0
AllRead files volumes = (items : List Item) × AllFrom files volumes 132 items

-- a record of theirs is no item's
abbrev pub IsWholeFault : Files → List (ℕ × ℕ) → ReaderFault → Type 0
IsWholeFault files volumes (Compressed file) = ⊥
IsWholeFault files volumes (NotArchive file offset) = (items : List Item) × StopsAt files volumes 132 items file offset
IsWholeFault files volumes DiskFault = Unit {0}
IsWholeFault files volumes NoMemory = Unit {0}

-- ---- one volume, the first of these

abbrev pub is_there : {A : Type 0} → Option A → Bool
is_there None = false
is_there (Some x) = true

-- an item isn't after t, and the metric has values in it
abbrev pub is_hit : ℕ → Moment → Item → Bool
is_hit pmid t x = is_there (value_by pmid t x)

-- its record's offset takes the place of the one found
abbrev pub later_hit : ℕ → Moment → Option ℕ → Item → ℕ → Option ℕ
later_hit pmid t found x at = if is_hit pmid t x then Some at else found

-- at an offset stands an item's record
abbrev pub HasItem : Files → List (ℕ × ℕ) → ℕ → Type 0
HasItem files vs at = (x : Item) × (next : ℕ) × StandsNext files vs at x next

-- and this is what the item shows of the metric
abbrev pub ShowsAt : Files → List (ℕ × ℕ) → ℕ → ℕ → Option (Moment × ValueSet) → Type 0
ShowsAt files vs at pmid shown = (x : Item) × (next : ℕ) × StandsNext files vs at x next × (shown ≡ value_in pmid x)

-- the offset of the record of the last hit among items, if there is one
abbrev pub IsLastHit : Files → List (ℕ × ℕ) → ℕ → Moment → List Item → Option ℕ → Type 0
IsLastHit files vs pmid t items None = value_at pmid t items ≡ None
IsLastHit files vs pmid t items (Some at) = ShowsAt files vs at pmid (value_at pmid t items) × (value_at pmid t items ≢ None)

pub record HasLastHit (files : Files) (vs : List (ℕ × ℕ)) (pmid : ℕ) (t : Moment) (found : Option ℕ) : Type 0 where
  pub items : List Item
  pub to : ℕ
  pub leads : Leads files vs 132 items vs to
  pub ends : EndsInFirst files vs to
  pub hit : IsLastHit files vs pmid t items found

abbrev pub IsPassFault : Files → List (ℕ × ℕ) → ReaderFault → Type 0
IsPassFault files vs (Compressed file) = ⊥
IsPassFault files vs (NotArchive file offset) = StopsInFirst files vs file offset
IsPassFault files vs DiskFault = Unit {0}
IsPassFault files vs NoMemory = Unit {0}

-- where the hit is: how many volumes are before its own, and its offset
abbrev pub IsHitAt : Files → List (ℕ × ℕ) → ℕ → Moment → Option (ℕ × ℕ) → Type 0
IsHitAt files volumes pmid t None = IsValueAt files volumes pmid t None
IsHitAt files volumes pmid t (Some place) = (shown : Option (Moment × ValueSet)) × ShowsAt files (drop place.0 volumes) place.1 pmid shown × IsValueAt files volumes pmid t shown

-- no bytes are refused
abbrev pub IsLack : ReaderFault → Type 0
IsLack (Compressed file) = ⊥
IsLack (NotArchive file offset) = ⊥
IsLack DiskFault = Unit {0}
IsLack NoMemory = Unit {0}
