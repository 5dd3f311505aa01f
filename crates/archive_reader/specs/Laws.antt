-- What a search by time may leave unread.
use Rattle.std.specs.Prelude.{◌≡◌, ℕ, ◌<◌, ◌≤◌, List, ◌∷◌, ◌++◌, Option, IfSome}
use Rattle.pcp_base.specs.Time.{Moment, microseconds}
use Rattle.pcp_base.specs.declared.file.FileId.TheVariants.{Volume}
use Rattle.pcp_base.specs.declared.result.Item.{Item}
use Rattle.pcp_model.specs.declared.records.Entry.{Entry}
use Rattle.pcp_model.specs.declared.records.MetaRecord.{MetaRecord}
use Rattle.pcp_model.specs.Archive.{ArchiveContents, ArchiveReading, Reads, items_of, scan, records_in}
use Rattle.pcp_model.specs.Disk.{Files}
use Rattle.pcp_model.specs.Sound.{NeverFalls, IsBoundary, IsSound}
use Rattle.archive_loading.specs.Loaded.{Loaded, IsOver}
use Rattle.archive_reader.specs.Walks.{AllFrom}
use Rattle.archive_reader.specs.Searches.{or_else, last_of, at, between, segment, items_before, items_from, chosen_place}

-- no item lies on both sides of a place, or on none
abbrev pub PlacesPart : Type 0
PlacesPart = (volume count : ℕ) (volumes : List (ℕ × List Item)) → items_of volumes ≡ items_before volume count volumes ++ items_from volume count volumes

-- Where stamps never fall, the last item not after a moment is the last of those up to the first one after it, and the
-- items between two moments are among those up to the first one after the second.
pub record EndsWithSegment (items : List Item) : Type 0 where
  pub last : (t : Moment) → at t items ≡ last_of (segment t items)
  pub range : (from to : Moment) → between from to items ≡ between from to (segment to items)

abbrev pub SegmentsAreEnough : Type 0
SegmentsAreEnough = (items : List Item) → NeverFalls items → EndsWithSegment items

-- an entry stands in the index, and has such a stamp
pub record IsEntry (c : ArchiveContents) (Such : Moment → Type 0) (e : Entry) : Type 0 where
  pub front : List Entry
  pub behind : List Entry
  pub is : c.entries ≡ front ++ e ∷ behind
  pub such : Such e.stamp

-- The place is where so many of its volume's records end. The last item not after t is the last of the segment from there on,
-- or else the last before it.
pub record LastIsFound (files : Files) (volumes : List (ℕ × List Item)) (t : Moment) (place : ℕ × ℕ) : Type 0 where
  pub count : ℕ
  pub boundary : IsBoundary (files (Volume place.0)) place.1 count
  pub last : at t (items_of volumes) ≡ or_else (last_of (segment t (items_from place.0 count volumes))) (last_of (items_before place.0 count volumes))

-- The place is such a one, and all items of the range stand in the segment from there on.
pub record RangeIsFound (files : Files) (volumes : List (ℕ × List Item)) (from to : Moment) (place : ℕ × ℕ) : Type 0 where
  pub count : ℕ
  pub boundary : IsBoundary (files (Volume place.0)) place.1 count
  pub range : between from to (items_of volumes) ≡ between from to (segment to (items_from place.0 count volumes))

-- Over a sound archive a search may begin where any entry says that isn't stamped after the moment asked for, or before the range.
pub record IsEnough (files : Files) (c : ArchiveContents) (found : Option Entry) : Type 0 where
  pub last : (t : Moment) → IfSome found (IsEntry c (λ s. microseconds s ≤ microseconds t)) → LastIsFound files c.volumes t (chosen_place files c.volumes found)
  pub range : (from to : Moment) → IfSome found (IsEntry c (λ s. microseconds s < microseconds from)) → RangeIsFound files c.volumes from to (chosen_place files c.volumes found)

abbrev pub ChosenPlaceIsEnough : Type 0
ChosenPlaceIsEnough = (files : Files) (c : ArchiveContents) (found : Option Entry) → IsSound files (ArchiveReading.archive c) → IsEnough files c found

-- files are read in some way as an archive of these records and these items
pub record IsReadAs (files : Files) (records : List MetaRecord) (items : List Item) : Type 0 where
  pub reading : ArchiveReading
  pub is : Reads files reading
  pub scan_is : scan reading ≡ items
  pub records_are : records_in reading ≡ records

-- where records stand from the first place on, up to the end, they are the scan
abbrev pub StandingIsRead : Type 0
StandingIsRead = (files : Files) (r : Loaded) (items : List Item) → IsOver files r → AllFrom files r.volumes 132 items → IsReadAs files r.records items
