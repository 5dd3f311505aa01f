-- How far a source is read.
use Rattle.std.specs.Prelude.{◌≡◌, ℕ, ◌≤◌, Bool, false, nat_lt, if◌then◌else◌, List, [], ◌∷◌, length, take, drop, Option, Some, None}
use Rattle.std.specs.List.{AllByRecursion}
use Rattle.pcp_base.specs.Time.{Moment, microseconds}
use Rattle.pcp_base.specs.declared.result.Item.{Item}
use Rattle.pcp_base.specs.declared.result.PmResult.{PmResult}
use Rattle.pcp_base.specs.declared.result.ValueSet.{ValueSet}
use Rattle.pcp_model.specs.Disk.{Files, contents_of}
use Rattle.pcp_outside.specs.declared.disk.Disk.{Ghosts as DiskGhosts}
use Rattle.archive_loading.specs.Loaded.{IsOver}
use Rattle.archive_reader.specs.declared.places.Place.{Place}
use Rattle.archive_reader.specs.Walks.{AllFrom, volumes_from}
use Rattle.archive_merge.specs.Merging.{IsNew, is_at, samples_of, sets_at, sets_of_both, sets_of_first, with_sets}
use Rattle.archive_merge.specs.Order.{after}
use Rattle.log_extract.specs.declared.cursor.Cursor.{Cursor}
use Rattle.log_extract.specs.Sources.{IsSource, Source}

-- from a place on, up to the end, stand the records of these items
abbrev pub StandFrom : Files → List (ℕ × ℕ) → Place → List Item → Type 0
StandFrom files volumes place items = AllFrom files (volumes_from place.volume volumes) place.offset items

-- the next result, and the place behind it; or none where there is none
abbrev pub IsNextSample : Files → List (ℕ × ℕ) → List Item → Option (PmResult × Place) → Type 0
IsNextSample files volumes items None = samples_of items ≡ []
IsNextSample files volumes items (Some (r, place)) = (rest : List Item) × (samples_of items ≡ r ∷ samples_of rest) × StandFrom files volumes place rest

-- the next result and those behind it are these
abbrev pub AreBehind : Files → List (ℕ × ℕ) → Place → Option PmResult → List PmResult → Type 0
AreBehind files volumes place None results = results ≡ []
AreBehind files volumes place (Some next) results = (items : List Item) × (results ≡ next ∷ samples_of items) × StandFrom files volumes place items

-- these results are left to be read
pub record Leaves (files : Files) (cursor : Cursor) (results : List PmResult) : Type 0 where
  pub over : IsOver files cursor.reader
  pub behind : AreBehind files cursor.reader.volumes cursor.place cursor.next results

-- some are, of a disk that tells
abbrev pub IsReady : {D : Type 0} → DiskGhosts D → D → Cursor → Type 0
IsReady d disk cursor = d.tells → (results : List PmResult) × Leaves (contents_of (d.held disk)) cursor results

-- whether the next result is of a stamp
abbrev pub is_due : Moment → Option PmResult → Bool
is_due t None = false
is_due t (Some r) = is_at t r

abbrev pub next_stamp : Option PmResult → Option Moment
next_stamp None = None
next_stamp (Some r) = Some r.stamp

-- the earlier of two stamps, the first where they are equal
abbrev pub earliest : Option Moment → Option Moment → Option Moment
earliest None other = other
earliest (Some t) None = Some t
earliest (Some t) (Some s) = if nat_lt (microseconds s) (microseconds t) then Some s else Some t

-- The sets of a stamp were taken behind others, and what is left is stamped after it.
pub record TakesStamp (files : Files) (t : Moment) (results : List PmResult) (sets all : List ValueSet) (cursor : Cursor) : Type 0 where
  pub taken : all ≡ with_sets sets (sets_at t results)
  pub left : Leaves files cursor (after t results)

-- so many of these sets are the first source's, and each of the others is of a metric that those lack
pub record AreParted (sets : List ValueSet) (count : ℕ) : Type 0 where
  pub within : count ≤ length sets
  pub new : AllByRecursion (IsNew (take count sets)) (drop count sets)

-- The sets that stand of a stamp were taken from both sources, of which these results were left.
pub record TakesBoth (files others : Files) (t : Moment) (xs ys : List PmResult) (sets : List ValueSet) (count : ℕ) (first second : Cursor) : Type 0 where
  pub count_is : count ≡ length (sets_of_first (sets_at t xs))
  pub taken : sets ≡ sets_of_both (sets_at t xs) (sets_at t ys)
  pub front : take count sets ≡ sets_of_first (sets_at t xs)
  pub first_left : Leaves files first (after t xs)
  pub second_left : Leaves others second (after t ys)

-- a disk holds a sound archive, at whose first result the cursor stands
pub record OpensSource {D : Type 0} (d : DiskGhosts D) (disk : D) (cursor : Cursor) : Type 0 where
  pub source : Source
  pub is : IsSource d disk source
  pub leaves : Leaves (contents_of (d.held disk)) cursor (samples_of source.items)
  pub records : cursor.reader.records ≡ source.records
